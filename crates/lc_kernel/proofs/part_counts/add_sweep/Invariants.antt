use Rattle.std.proofs.Common.{◌≡◌, ◌-◌, ◌<◌, length}
use Rattle.lc_enumeration.specs.Search.{block_words}
use Rattle.lc_kernel.specs.Packed.{others}
use Rattle.lc_distances.specs.Least.{ArePartCounted}
use Rattle.lc_kernel.specs.Sweeps.{list_count, IsListedAt, AreHeads}
use Rattle.lc_kernel.proofs.part_counts.add_sweep.Given as goal

abbrev pub decreases-loop-counts : goal.decreases-loop-counts
decreases-loop-counts l = length l.initial.counts - l.done

abbrev pub invariant-loop-counts : goal.invariant-loop-counts
invariant-loop-counts l = record {
  inside : l.done < length l.initial.counts;
  at : IsListedAt l.block.sets.now l.block.plan.now.m l.block.number l.done l.set l.support l.list;
  lists : list_count l.block.sets.now (length l.support) ≡ l.lists;
  heads : AreHeads l.block.sets.now l.set l.support l.table.part l.table.grid.now.planes (length l.support - 2) l.heads;
  counted : ArePartCounted (others l.block.sets.now l.set) l.table.part (block_words l.block.sets.now l.block.plan.now.m l.block.number) l.done (length l.initial.counts) l.counts;
}
