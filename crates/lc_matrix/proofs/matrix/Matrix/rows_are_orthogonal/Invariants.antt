use Rattle.std.proofs.Common.{◌≡◌, ℕ, ◌<◌, [], slice_index_or}
use Rattle.lc_algebra.specs.Word.{word_dot}
use Rattle.lc_matrix.proofs.matrix.Matrix.rows_are_orthogonal.Given as goal

abbrev pub invariant-loop-j : goal.invariant-loop-j
invariant-loop-j l = (k : ℕ) → k < l.j → (i : ℕ) → i < k → word_dot l.self.field (slice_index_or l.self.rows i []) (slice_index_or l.self.rows k []) ≡ 0
