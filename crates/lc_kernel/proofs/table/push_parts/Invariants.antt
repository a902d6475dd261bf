use Rattle.std.proofs.Common.{◌≡◌, ◌-◌, ◌*◌, ◌≤◌, length}
use Rattle.lc_kernel.specs.Tables.{AreParts}
use Rattle.lc_kernel.proofs.table.push_parts.Given as goal

abbrev pub decreases-loop-start : goal.decreases-loop-start
decreases-loop-start l = length l.columns - l.start

abbrev pub invariant-loop-start : goal.invariant-loop-start
invariant-loop-start l = record {
  start : l.start ≡ 64 * length l.parts.items;
  inside : l.start ≤ length l.columns;
  are : AreParts l.sets l.j l.tails.places l.parts.items;
}
