use Rattle.lc_matrix.specs.Kernel.{IsFree}
use Rattle.lc_matrix.proofs.kernel.free_columns.Given as goal

abbrev pub invariant-loop-j : goal.invariant-loop-j
invariant-loop-j l = IsFree l.places l.j l.free.items
