use Rattle.std.proofs.Common.{◌≡◌, length}
use Rattle.lc_kernel.specs.Tables.{AreTables}
use Rattle.lc_kernel.proofs.scratch.push_tables.Given as goal

abbrev pub invariant-loop-j : goal.invariant-loop-j
invariant-loop-j l = record {
  many : length l.tables.items ≡ l.j;
  are : AreTables l.sets l.tables.items;
}
