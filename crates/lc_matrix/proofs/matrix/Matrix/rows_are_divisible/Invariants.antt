use Rattle.std.proofs.Common.{◌≡◌, ℕ, ◌%◌, ◌<◌, [], slice_index_or}
use Rattle.lc_algebra.specs.Word.{weight}
use Rattle.lc_matrix.proofs.matrix.Matrix.rows_are_divisible.Given as goal

abbrev pub invariant-loop-i : goal.invariant-loop-i
invariant-loop-i l = (k : ℕ) → k < l.i → weight (slice_index_or l.self.rows k []) % l.d ≡ 0
