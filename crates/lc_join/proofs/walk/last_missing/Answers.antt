use Rattle.std.proofs.Common.{◌-◌, arith, rules}
use Rattle.lc_parts.specs.Along.{end_wanted}
use Rattle.lc_join.proofs.WalkLaws.{parts_of, parts_length, sought_first, sought_more, sought_other, sought_end}
use Rattle.lc_join.proofs.walk.last_missing.Goals as goal
use Rattle.lc_join.proofs.walk.last_missing.Goals.{then-blocks-start, else-blocks-start}

pub loop-i-init : goal.loop-i-init
loop-i-init c =
    let s = c.args.joined.now in
    sought_first s.progress.blocks (end_wanted s.facts s.budget s.progress) c.wanted-next.result (parts_of c.args.lines.now) (omega (arith, c.wanted-next.ensures.more, c.wanted-next.ensures.is)) c.wanted-next.ensures.is

pub loop-i-preserved : goal.loop-i-preserved
loop-i-preserved c =
    let s = c.args.joined.now in
    elim c.if-blocks-start.branch [
      | then-blocks-start w ↦ sought_more s.progress.blocks (end_wanted s.facts s.budget s.progress) c.loop-i.next c.if-blocks-start.next c.args.lines.now c.loop-i.i c.index-lines-i.result c.loop-i-test.true
          (omega (arith, w.if-blocks-start.true, c.blocks-blocks.ensures.is)) (search rules) c.loop-i.invariant
      | else-blocks-start w ↦ rw w.next-is (sought_other s.progress.blocks (end_wanted s.facts s.budget s.progress) c.loop-i.next c.args.lines.now c.loop-i.i c.index-lines-i.result c.loop-i-test.true
          (omega (arith, w.if-blocks-start.false, c.blocks-blocks.ensures.is)) c.loop-i.invariant)
    ]

pub overflow_sub-result : goal.overflow_sub-result
overflow_sub-result c = omega (arith, c.loop-i.invariant.more)

pub returns : goal.returns
returns c =
    let s = c.args.joined.now in
    record { is = sought_end s.facts s.budget s.progress (parts_of c.args.lines.now) c.loop-i.i c.loop-i.next (c.loop-i.next - 1) (omega (arith, c.loop-i-test.false, parts_length c.args.lines.now)) (omega (arith, c.loop-i.invariant.more)) c.loop-i.invariant }
