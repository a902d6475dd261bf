use Rattle.std.proofs.Common.{◌≡◌, ◌*◌, length, take}
use Rattle.lc_enumeration.specs.Search.{block_words}
use Rattle.lc_kernel.specs.Packed.{others}
use Rattle.lc_distances.specs.Least.{AreCounted}
use Rattle.lc_kernel.proofs.fronts.count_fronts.Given as goal

abbrev pub invariant-loop-part : goal.invariant-loop-part
invariant-loop-part l = record {
  room : l.spot.room ≡ l.initial.spot.room;
  counted : AreCounted (take (64 * l.part) (others l.block.sets.now l.initial.spot.set)) (block_words l.block.sets.now l.block.plan.now.m l.block.number) 0 (length l.fn.counts) l.counts;
}
