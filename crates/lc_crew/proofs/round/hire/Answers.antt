use Rattle.std.proofs.Common.{rules, refl, arith}
use Rattle.lc_crew.specs.Crew.{IsReady}
use Rattle.lc_crew.proofs.CrewLaws.{is_root_last, grown, none_numbered, numbered_on, numbered_last}
use Rattle.lc_crew.proofs.round.hire.Goals as goal

pub loop-number-init : goal.loop-number-init
loop-number-init g c = (
  search rules,
  search rules,
  search rules,
  search rules,
  search rules,
  search rules,
  search rules,
  search rules,
  search rules,
  search rules,
  search rules,
  none_numbered _ (search rules),
)

pub loop-number-preserved : goal.loop-number-preserved
loop-number-preserved g c =
    let i = c.loop-number.invariant in (
      search rules,
      search rules,
      search rules,
      search rules,
      search rules,
      search rules,
      grown (IsReady (g.B.Blocks.fits c.args.blocks.now) (g.B.Blocks.tally c.args.blocks.now) c.args.board.now) _ _ _ c.in_ok-push.ensures.items i.6 (search rules, search rules, search rules, c.take_one-room.ensures.fresh),
      c.take_one-room.ensures.spare,
      search rules,
      search rules,
      search rules,
      numbered_on _ _ _ _ c.in_ok-push.ensures.items i.11 (search rules) refl,
    )

pub returns-clause-ready : goal.returns-clause-ready
returns-clause-ready g c =
    let i = c.loop-number.invariant in
    grown (IsReady (g.B.Blocks.fits c.args.blocks.now) (g.B.Blocks.tally c.args.blocks.now) c.args.board.now) _ _ _ c.in_ok-push-2.ensures.items i.6 (search rules, search rules, search rules, c.take_one-room-2.ensures.fresh)

pub returns-clause-root : goal.returns-clause-root
returns-clause-root g c =
    let i = c.loop-number.invariant in
    is_root_last _ _ _ c.in_ok-push-2.ensures.items refl i.1 (search rules)

pub returns-clause-place : goal.returns-clause-place
returns-clause-place g c =
    let i = c.loop-number.invariant in
    let n = c.take_one-room-2.ensures.count in
    let p = c.take_one-room-2.ensures.place in
    let ok = c.args.spare.now.ok in
    omega (arith, i.9, i.10, n, p, ok.0, ok.1)

pub returns-clause-numbers : goal.returns-clause-numbers
returns-clause-numbers g c =
    let i = c.loop-number.invariant in
    numbered_last _ _ _ _ c.in_ok-push-2.ensures.items i.11 (search rules) refl
