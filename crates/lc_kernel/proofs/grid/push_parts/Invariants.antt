use Rattle.std.proofs.Common.{◌≡◌, ◌-◌, ◌*◌, ◌<◌, ◌≤◌, length}
use Rattle.lc_kernel.specs.Grids.{AreGridParts}
use Rattle.lc_kernel.proofs.grid.push_parts.Given as goal

abbrev pub decreases-loop-start : goal.decreases-loop-start
decreases-loop-start l = length l.columns - l.start

abbrev pub invariant-loop-start : goal.invariant-loop-start
invariant-loop-start l = record {
  inside : l.start ≤ length l.columns;
  start : l.start ≤ 64 * length l.parts.items;
  even : l.start < length l.columns → l.start ≡ 64 * length l.parts.items;
  are : AreGridParts l.rows.sets.now l.rows.set l.planes l.parts.items;
}
