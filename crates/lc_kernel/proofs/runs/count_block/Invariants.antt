use Rattle.std.proofs.Common.{◌≡◌, ◌-◌, ◌<◌, length}
use Rattle.lc_enumeration.specs.Search.{block_words}
use Rattle.lc_kernel.specs.Values.{IsSpotAt}
use Rattle.lc_kernel.specs.Packed.{others}
use Rattle.lc_distances.specs.Least.{AreCounted}
use Rattle.lc_kernel.proofs.runs.count_block.Given as goal

abbrev pub decreases-loop-counts : goal.decreases-loop-counts
decreases-loop-counts l = length l.initial.counts - l.done

abbrev pub invariant-loop-counts : goal.invariant-loop-counts
invariant-loop-counts l = record {
  inside : l.done < length l.initial.counts;
  set : l.spot.set ≡ l.initial.spot.set;
  level : length l.spot.support ≡ length l.initial.spot.support;
  room : l.spot.room ≡ l.initial.spot.room;
  at : IsSpotAt l.block.sets.now l.block.plan.now.m l.block.number l.done l.spot;
  counted : AreCounted (others l.block.sets.now l.spot.set) (block_words l.block.sets.now l.block.plan.now.m l.block.number) 0 l.done l.counts;
}
