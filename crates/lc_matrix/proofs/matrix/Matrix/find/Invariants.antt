use Rattle.std.proofs.Common.{◌≡◌, ℕ, ◌<◌, ◌≤◌}
use Rattle.lc_algebra.specs.Matrix.{entry}
use Rattle.lc_matrix.proofs.matrix.Matrix.find.Given as goal

abbrev pub invariant-loop-i : goal.invariant-loop-i
invariant-loop-i l = (j : ℕ) → l.r ≤ j → j < l.i → entry l.self.rows j l.c ≡ 0
