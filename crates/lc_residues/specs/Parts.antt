-- What the loops have made so far of a quadratic residue code; invariants of loops alone speak of these.
--   word_part f n t m      the first m symbols of the residue word
--   shift_part n k w m     the first m symbols of a cyclic shift
--   rows_part f n t m      the word of ones and the first m cyclic shifts of the residue word
use Rattle.std.specs.Prelude.{ℕ, ◌+◌, ◌-◌, ◌%◌, List, ◌∷◌, map, replicate, slice_index}
use Rattle.lc_algebra.specs.declared.FieldName.{FieldName}
use Rattle.lc_algebra.specs.Span.{below}
use Rattle.lc_language.specs.QuadraticResidues.{residue_symbol, residue_word, cyclic_shift}

unfoldable pub word_part : FieldName → ℕ → ℕ → ℕ → List ℕ
word_part f n t m = map (residue_symbol f n t) (below m)

unfoldable pub shift_part : ℕ → ℕ → List ℕ → ℕ → List ℕ
shift_part n k w m = map (λ i. slice_index w ((i + (n - k)) % n)) (below m)

unfoldable pub rows_part : FieldName → ℕ → ℕ → ℕ → List (List ℕ)
rows_part f n t m = replicate n 1 ∷ map (λ k. cyclic_shift n k (residue_word f n t)) (below m)
