use Rattle.std.proofs.Common.{◌≤◌, length, arith}
use Rattle.lc_enumeration.specs.Search.{block_words}
use Rattle.lc_kernel.specs.Packed.{others}
use Rattle.lc_distances.proofs.LeastLaws.{counted_first}
use Rattle.lc_kernel.proofs.PackLaws.{others_few}
use Rattle.lc_kernel.proofs.RunLaws.{counted_few}
use Rattle.lc_kernel.proofs.fronts.first_counted.Goals as goal

pub first_least-requires-clause-few : goal.first_least-requires-clause-few
first_least-requires-clause-few c =
    let C = c.args.block.now.sets.now in
    let cols = others C c.args.set in
    let few : length cols ≤ 255 = omega (arith, others_few C c.args.set, c.args.block.now.short) in
    counted_few C c.args.block.now.plan.now.m c.args.block.now.number 0 (length c.args.counts.now) cols c.args.counts.now few c.requires.counted

pub returns-clause-is : goal.returns-clause-is
returns-clause-is c = counted_first (length c.args.counts.now) (others c.args.block.now.sets.now c.args.set) (block_words c.args.block.now.sets.now c.args.block.now.plan.now.m c.args.block.now.number) c.args.counts.now c.first_least.result.0 c.first_least.result.1 c.requires.counted c.first_least.ensures.is
