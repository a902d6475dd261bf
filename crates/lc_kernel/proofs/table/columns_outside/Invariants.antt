use Rattle.std.proofs.Common.{◌≡◌}
use Rattle.lc_kernel.specs.Packed.{outside}
use Rattle.lc_kernel.proofs.table.columns_outside.Given as goal

abbrev pub invariant-loop-c : goal.invariant-loop-c
invariant-loop-c l = l.columns.items ≡ outside l.c l.set
