use Rattle.std.proofs.Common.{rules, length, replicate, refl, sym, ap, arith}
use Rattle.std.proofs.lemmas.List.{length-set}
use Rattle.lc_kernel.proofs.FrontLaws.{entries_are}
use Rattle.lc_enumeration.specs.Search.{block_words}
use Rattle.lc_kernel.specs.Packed.{others}
use Rattle.lc_distances.proofs.PartLaws.{part_start, part_end}
use Rattle.lc_kernel.proofs.FrontPlanes.{front_planes_first, front_planes_same}
use Rattle.lc_kernel.proofs.fronts.add_fronts.Goals as goal

pub loop-counts-init : goal.loop-counts-init
loop-counts-init c = record {
  inside = c.requires.some;
  set = refl;
  level = sym (ap length c.support-level.ensures.places);
  room = refl;
  stayed = omega arith;
  at = c.requires.at;
  fronts = front_planes_first c.args.block.now.sets.now c.args.spot.now c.args.table.now.part c.args.table.now.grid.now.planes c.args.fronts.now _ c.args.block.now.rows c.args.block.now.independent c.requires.set (omega (arith, c.requires.many)) refl;
  counted = part_start (others c.args.block.now.sets.now c.args.spot.now.set) c.args.table.now.part (length c.args.counts.now) (block_words c.args.block.now.sets.now c.args.block.now.plan.now.m c.args.block.now.number) c.args.counts.now c.requires.counted;
}

pub offset_bounds-fronts-level : goal.offset_bounds-fronts-level
offset_bounds-fronts-level c =
    let few = (entries_are c.args.block.now.sets.now c.loop-counts.spot c.loop-counts.invariant.at.message).few in
    omega (arith, few, c.loop-counts.invariant.level, c.args.block.now.few)

pub bounds-fronts-level : goal.bounds-fronts-level
bounds-fronts-level c =
    let few = (entries_are c.args.block.now.sets.now c.loop-counts.spot c.loop-counts.invariant.at.message).few in
    omega (arith, few, c.loop-counts.invariant.level, c.requires.many, c.loop-counts.auto.fronts, c.refresh_planes.auto.fronts, length-set c.args.fronts.now 0 (replicate 4 0))

pub loop-counts-preserved : goal.loop-counts-preserved
loop-counts-preserved c = record {
  inside = search rules;
  set = search rules;
  level = search rules;
  room = search rules;
  stayed = search rules;
  at = search rules;
  fronts = front_planes_same c.args.block.now.sets.now c.loop-counts.spot c.pass-stayed.new.spot c.args.table.now.part c.args.table.now.grid.now.planes _ c.pass-stayed.result c.refresh_planes.new.fronts (omega (arith, c.pass-stayed.ensures.few, c.loop-counts.invariant.level)) c.pass-stayed.ensures.set c.pass-stayed.ensures.same c.refresh_planes.ensures.fronts;
  counted = search rules;
}

pub returns-then-done-count-clause-counted : goal.returns-then-done-count-clause-counted
returns-then-done-count-clause-counted c =
    rw (← c.loop-counts.invariant.set) (λ i l. part_end (others c.args.block.now.sets.now c.loop-counts.spot.set) c.args.table.now.part _ (length c.loop-counts.counts) (block_words c.args.block.now.sets.now c.args.block.now.plan.now.m c.args.block.now.number) _ (omega (arith, c.if-done-count.true)) c.one_front-count.ensures.counted i (omega (arith, l, c.loop-counts.auto.counts)))
