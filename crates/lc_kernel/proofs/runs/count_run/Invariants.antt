use Rattle.std.proofs.Common.{◌*◌, ◌<◌, length, take}
use Rattle.lc_enumeration.specs.Search.{block_words}
use Rattle.lc_kernel.specs.Packed.{others}
use Rattle.lc_distances.specs.Least.{AreCounted}
use Rattle.lc_kernel.proofs.runs.count_run.Given as goal

abbrev pub invariant-loop-part : goal.invariant-loop-part
invariant-loop-part l = 0 < l.part → AreCounted (take (64 * l.part) (others l.block.sets.now l.run.spot.now.set)) (block_words l.block.sets.now l.block.plan.now.m l.block.number) l.run.done (length l.initial.counts) l.counts
