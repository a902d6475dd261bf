use Rattle.std.proofs.Common.{rules, ◌≡◌, ◌+◌, ◌*◌, ◌<◌, length, take, sym, subst, ◌∙◌, arith}
use Rattle.lc_enumeration.specs.Search.{set_count, block_words}
use Rattle.lc_kernel.specs.Values.{IsSpotAt}
use Rattle.lc_kernel.specs.Packed.{others}
use Rattle.lc_kernel.specs.Grids.{IsGrid}
use Rattle.lc_distances.specs.Least.{AreCounted}
use Rattle.lc_kernel.proofs.BlockLaws.{phase_in_plan, phase_of_block}
use Rattle.lc_kernel.proofs.ScanLaws.{spot_at}
use Rattle.lc_distances.proofs.PartLaws.{parts_none, parts_all}
use Rattle.lc_kernel.proofs.fronts.count_fronts.Goals.{After-start_of}
use Rattle.lc_kernel.proofs.fronts.count_fronts.Goals as goal

-- the spot is at the first message of the block
started : (c : After-start_of) → IsSpotAt c.args.block.now.sets.now c.args.block.now.plan.now.m c.args.block.now.number 0 c.start_of.new.spot × (c.start_of.new.spot.set < set_count c.args.block.now.sets.now)
started c =
    let e = c.start_of.ensures in
    spot_at c.args.block.now.sets.now c.args.block.now.plan.now c.args.block.now.number c.start_of.new.spot c.args.block.now.planned e.first e.level e.set e.message (phase_in_plan c.args.block.now)

-- it has the set and the level of the one that the block began with
same_set : (c : After-start_of) → c.start_of.new.spot.set ≡ c.args.spot.now.set
same_set c =
    let p = phase_of_block c.args.block.now in
    ((started c).0.of_block p.0 p.1).set ∙ sym (c.requires.at.of_block p.0 p.1).set

same_level : (c : After-start_of) → length c.start_of.new.spot.support ≡ length c.args.spot.now.support
same_level c =
    let p = phase_of_block c.args.block.now in
    ((started c).0.of_block p.0 p.1).level ∙ sym (c.requires.at.of_block p.0 p.1).level

pub loop-part-init : goal.loop-part-init
loop-part-init c = record {
  room = search rules;
  counted = parts_none (others c.args.block.now.sets.now c.args.spot.now.set) (length c.args.counts.now) (length c.args.counts.now) (block_words c.args.block.now.sets.now c.args.block.now.plan.now.m c.args.block.now.number) c.fill.new.self (c.fill.ensures.after (λ y e. e));
}

pub start_of-requires-clause-room : goal.start_of-requires-clause-room
start_of-requires-clause-room c = omega (arith, c.loop-part.invariant.room, c.requires.room, c.args.block.now.planned.dimension)

pub add_fronts-requires-clause-set : goal.add_fronts-requires-clause-set
add_fronts-requires-clause-set c = (started (goal.at.add_fronts-requires-clause-set c).After-start_of).1

pub add_fronts-requires-clause-at : goal.add_fronts-requires-clause-at
add_fronts-requires-clause-at c = (started (goal.at.add_fronts-requires-clause-at c).After-start_of).0

pub add_fronts-requires-clause-level : goal.add_fronts-requires-clause-level
add_fronts-requires-clause-level c = omega (arith, same_level (goal.at.add_fronts-requires-clause-level c).After-start_of, c.requires.level)

pub add_fronts-requires-clause-grid : goal.add_fronts-requires-clause-grid
add_fronts-requires-clause-grid c =
    let g = c.args.grid.now in
    subst (λ j. IsGrid c.args.block.now.sets.now j g) (sym (same_set (goal.at.add_fronts-requires-clause-grid c).After-start_of)) c.requires.grid

pub add_fronts-requires-clause-counted : goal.add_fronts-requires-clause-counted
add_fronts-requires-clause-counted c =
    let C = c.args.block.now.sets.now in
    let counted : AreCounted (take (64 * c.loop-part.part) (others C c.args.spot.now.set)) (block_words C c.args.block.now.plan.now.m c.args.block.now.number) 0 (length c.loop-part.counts) c.loop-part.counts = λ i l. c.loop-part.invariant.counted i (omega (arith, l, c.loop-part.auto.counts, c.fill.ensures.len)) in
    subst (λ j. AreCounted (take (64 * c.loop-part.part) (others C j)) (block_words C c.args.block.now.plan.now.m c.args.block.now.number) 0 (length c.loop-part.counts) c.loop-part.counts) (sym (same_set (goal.at.add_fronts-requires-clause-counted c).After-start_of)) counted

pub loop-part-preserved : goal.loop-part-preserved
loop-part-preserved c =
    let C = c.args.block.now.sets.now in
    let n = length c.args.counts.now in
    let next : AreCounted (take (64 * (c.loop-part.part + 1)) (others C c.start_of.new.spot.set)) (block_words C c.args.block.now.plan.now.m c.args.block.now.number) 0 n c.add_fronts.new.counts = λ i l. c.add_fronts.ensures.counted i (omega (arith, l, c.loop-part.auto.counts, c.fill.ensures.len)) in
    record {
      room = c.add_fronts.ensures.room ∙ c.start_of.ensures.room ∙ c.loop-part.invariant.room;
      counted = subst (λ j. AreCounted (take (64 * (c.loop-part.part + 1)) (others C j)) (block_words C c.args.block.now.plan.now.m c.args.block.now.number) 0 n c.add_fronts.new.counts) (same_set (goal.at.loop-part-preserved c).After-start_of) next;
    }

pub returns-clause-counted : goal.returns-clause-counted
returns-clause-counted c = parts_all (others c.args.block.now.sets.now c.args.spot.now.set) c.loop-part.part (length c.args.counts.now) (block_words c.args.block.now.sets.now c.args.block.now.plan.now.m c.args.block.now.number) c.loop-part.counts (omega (arith, c.requires.grid.wide, c.loop-part-test.false, c.loop-part.auto.part-end)) c.loop-part.invariant.counted
