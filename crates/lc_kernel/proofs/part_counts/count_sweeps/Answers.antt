use Rattle.std.proofs.Common.{length, arith}
use Rattle.lc_enumeration.specs.Search.{block_words}
use Rattle.lc_kernel.specs.Packed.{others}
use Rattle.lc_distances.proofs.PartLaws.{parts_none, parts_all}
use Rattle.lc_kernel.proofs.part_counts.count_sweeps.Goals as goal

pub loop-part-init : goal.loop-part-init
loop-part-init c = parts_none (others c.args.block.now.sets.now c.args.spot.now.set) (length c.args.counts.now) (length c.args.counts.now) (block_words c.args.block.now.sets.now c.args.block.now.plan.now.m c.args.block.now.number) c.fill.new.self (c.fill.ensures.after (λ y e. e))

pub add_sweep-requires-clause-counted : goal.add_sweep-requires-clause-counted
add_sweep-requires-clause-counted c = λ i l. c.loop-part.invariant i (omega (arith, l, c.loop-part.auto.counts, c.fill.ensures.len))

pub loop-part-preserved : goal.loop-part-preserved
loop-part-preserved c = λ i l. c.add_sweep.ensures.counted i (omega (arith, l, c.loop-part.auto.counts, c.fill.ensures.len))

pub returns : goal.returns
returns c = record { counted = parts_all (others c.args.block.now.sets.now c.args.spot.now.set) c.loop-part.part (length c.args.counts.now) (block_words c.args.block.now.sets.now c.args.block.now.plan.now.m c.args.block.now.number) c.loop-part.counts (omega (arith, c.requires.grid.wide, c.loop-part-test.false, c.loop-part.auto.part-end)) c.loop-part.invariant }
