use Rattle.std.proofs.Common.{◌≡◌, ◌≤◌, length, subst, arith}
use Rattle.lc_enumeration.proofs.SearchLaws.{few_in_block}
use Rattle.lc_kernel.specs.Packed.{others}
use Rattle.lc_kernel.specs.Sweeps.{AreHalvesOf}
use Rattle.lc_kernel.proofs.BlockLaws.{phase_of_block}
use Rattle.lc_kernel.proofs.SweepLaws.{IsSweep, sweep_below, listed_inside}
use Rattle.lc_kernel.proofs.sweeps.least_support.Goals as goal

pub nearest-requires-clause-inside : goal.nearest-requires-clause-inside
nearest-requires-clause-inside c = listed_inside c.args.sweep.now.block.sets.now c.args.sweep.now.set c.args.sweep.now.part c.args.at.now.list (length c.args.counts.now) c.args.at.now.support.now c.halves_of-halves.result c.requires.at.level c.halves_of-halves.ensures.are c.requires.lists

pub nearest-requires-clause-counts : goal.nearest-requires-clause-counts
nearest-requires-clause-counts c = omega (arith, few_in_block c.args.sweep.now.block.sets.now c.args.sweep.now.block.plan.now.m c.args.sweep.now.block.number, c.requires.words)

pub returns : goal.returns
returns c =
    let C = c.args.sweep.now.block.sets.now in
    let j = c.args.sweep.now.set in
    let u = c.args.at.now.support.now in
    let count = length c.args.counts.now in
    let first : c.args.sweep.now.part ≡ 0 = omega (arith, c.requires.part, c.requires.alone) in
    let wide : length (others C j) ≤ 64 = omega (arith, c.requires.grid.wide, c.requires.alone) in
    let sweep : IsSweep C c.args.sweep.now.block.plan.now.m c.args.sweep.now.block.number c.args.at.now.done j c.args.at.now.list 0 count u c.halves_of-halves.result = record {
      rows_are = c.args.sweep.now.block.rows;
      free = c.args.sweep.now.block.independent;
      set = c.requires.set;
      phase = phase_of_block c.args.sweep.now.block;
      at = c.requires.at;
      inside = c.requires.lists;
      words = c.requires.words;
      halves = subst (λ b. AreHalvesOf C j u b c.halves_of-halves.result) first c.halves_of-halves.ensures.are;
    } in
    record { is = sweep_below C c.args.sweep.now.block.plan.now.m c.args.sweep.now.block.number c.args.at.now.done j c.args.at.now.list count c.args.bound c.nearest.result.0 c.nearest.result.1 u c.halves_of-halves.result sweep wide c.nearest.ensures.is }
