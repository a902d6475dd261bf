use Rattle.std.proofs.Common.{◌*◌, length, take}
use Rattle.lc_enumeration.specs.Search.{block_words}
use Rattle.lc_kernel.specs.Packed.{others}
use Rattle.lc_distances.specs.Least.{AreCounted}
use Rattle.lc_kernel.proofs.part_counts.count_sweeps.Given as goal

abbrev pub invariant-loop-part : goal.invariant-loop-part
invariant-loop-part l = AreCounted (take (64 * l.part) (others l.block.sets.now l.spot.set)) (block_words l.block.sets.now l.block.plan.now.m l.block.number) 0 (length l.fn.counts) l.counts
