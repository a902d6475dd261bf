use Rattle.std.proofs.Common.{◌*◌, ◌≤◌, length, take, arith}
use Rattle.std.proofs.lemmas.List.{length-take}
use Rattle.lc_enumeration.proofs.SearchLaws.{few_in_block}
use Rattle.lc_kernel.specs.Packed.{others}
use Rattle.lc_kernel.proofs.BlockLaws.{phase_of_block}
use Rattle.lc_kernel.proofs.PackLaws.{others_few}
use Rattle.lc_kernel.proofs.RunLaws.{counted_few}
use Rattle.lc_kernel.proofs.SweepLaws.{IsSweep, sweep_counted, listed_inside}
use Rattle.lc_kernel.proofs.part_counts.add_support.Goals as goal

pub add_halves-requires-clause-inside : goal.add_halves-requires-clause-inside
add_halves-requires-clause-inside c = listed_inside c.args.sweep.now.block.sets.now c.args.sweep.now.set c.args.sweep.now.part c.args.at.now.list (length c.args.counts.now) c.args.at.now.support.now c.halves_of-halves.result c.requires.at.level c.halves_of-halves.ensures.are c.requires.lists

pub add_halves-requires-clause-counts : goal.add_halves-requires-clause-counts
add_halves-requires-clause-counts c = omega (arith, few_in_block c.args.sweep.now.block.sets.now c.args.sweep.now.block.plan.now.m c.args.sweep.now.block.number, c.requires.words)

pub add_halves-requires-clause-few : goal.add_halves-requires-clause-few
add_halves-requires-clause-few c =
    let all = others c.args.sweep.now.block.sets.now c.args.sweep.now.set in
    let few : length (take (64 * c.args.sweep.now.part) all) ≤ 255 = omega (arith, length-take (64 * c.args.sweep.now.part) all, others_few c.args.sweep.now.block.sets.now c.args.sweep.now.set, c.args.sweep.now.block.short) in
    counted_few c.args.sweep.now.block.sets.now c.args.sweep.now.block.plan.now.m c.args.sweep.now.block.number c.args.at.now.done (length c.args.counts.now) (take (64 * c.args.sweep.now.part) all) c.args.counts.now few c.requires.counted

pub returns : goal.returns
returns c =
    let C = c.args.sweep.now.block.sets.now in
    let j = c.args.sweep.now.set in
    let u = c.args.at.now.support.now in
    let count = length c.args.counts.now in
    let sweep : IsSweep C c.args.sweep.now.block.plan.now.m c.args.sweep.now.block.number c.args.at.now.done j c.args.at.now.list c.args.sweep.now.part count u c.halves_of-halves.result = record {
      rows_are = c.args.sweep.now.block.rows;
      free = c.args.sweep.now.block.independent;
      set = c.requires.set;
      phase = phase_of_block c.args.sweep.now.block;
      at = c.requires.at;
      inside = c.requires.lists;
      words = c.requires.words;
      halves = c.halves_of-halves.ensures.are;
    } in
    record { counted = sweep_counted C c.args.sweep.now.block.plan.now.m c.args.sweep.now.block.number c.args.at.now.done j c.args.at.now.list c.args.sweep.now.part count u c.args.counts.now c.add_halves.new.counts c.halves_of-halves.result sweep c.requires.counted c.add_halves.ensures.is }
