use Rattle.std.proofs.Common.{◌≡◌, ℕ, ◌<◌, [], slice_index_or}
use Rattle.lc_algebra.specs.Word.{word_dot}
use Rattle.lc_relations.proofs.structure.is_orthogonal_to_earlier.Given as goal

abbrev pub invariant-loop-i : goal.invariant-loop-i
invariant-loop-i l = (k : ℕ) → k < l.i → word_dot l.code.field (slice_index_or l.code.rows k []) (slice_index_or l.code.rows l.j []) ≡ 0
