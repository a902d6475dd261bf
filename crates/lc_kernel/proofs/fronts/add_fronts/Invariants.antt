use Rattle.std.proofs.Common.{◌≡◌, ◌-◌, ◌<◌, ◌≤◌, length}
use Rattle.lc_enumeration.specs.Search.{block_words}
use Rattle.lc_kernel.specs.Values.{IsSpotAt}
use Rattle.lc_kernel.specs.Packed.{others}
use Rattle.lc_kernel.specs.Fronts.{AreFrontPlanes}
use Rattle.lc_distances.specs.Least.{ArePartCounted}
use Rattle.lc_kernel.proofs.fronts.add_fronts.Given as goal

abbrev pub decreases-loop-counts : goal.decreases-loop-counts
decreases-loop-counts l = length l.initial.counts - l.done

abbrev pub invariant-loop-counts : goal.invariant-loop-counts
invariant-loop-counts l = record {
  inside : l.done < length l.initial.counts;
  set : l.spot.set ≡ l.initial.spot.set;
  level : length l.spot.support ≡ l.level;
  room : l.spot.room ≡ l.initial.spot.room;
  stayed : l.stayed ≤ l.level - 2;
  at : IsSpotAt l.block.sets.now l.block.plan.now.m l.block.number l.done l.spot;
  fronts : AreFrontPlanes l.block.sets.now l.spot l.table.part l.table.grid.now.planes l.stayed l.fronts;
  counted : ArePartCounted (others l.block.sets.now l.spot.set) l.table.part (block_words l.block.sets.now l.block.plan.now.m l.block.number) l.done (length l.initial.counts) l.counts;
}
