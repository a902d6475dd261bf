-- Residual codes (MacWilliams and Sloane, chapter 17; GUAVA manual, `ResidueCode`). C is a code, and c a word of it.
--   support w              the coordinates at which w is not 0, rising
--   InResidual C c w       w is some word of C without the coordinates of the support of c: a word of C punctured there
-- When the call is refused:
--   no_coordinate C c      2: no coordinate is left
--   residual_refusals C c      12, 3 with 2, 50, 2
use Rattle.std.specs.Prelude.{ℕ, ◌-◌, ◌==◌, not, List, [], ◌∷◌, ◌++◌, length, slice_index, filter, Option}
use Rattle.lc_algebra.specs.Word.{weight}
use Rattle.lc_algebra.specs.Span.{below}
use Rattle.lc_algebra.specs.Matrix.{Matrix}
use Rattle.lc_constructions.specs.declared.refusal.CodeRefusal.{CodeRefusal}
use Rattle.lc_constructions.specs.Combined.{InPunctured}
use Rattle.lc_constructions.specs.Refusals.{bad_length}
use Rattle.lc_language.specs.Refusal.{Refusal, from_codes, word_refusals}
use Rattle.lc_language.specs.Relations.{not_codeword}

unfoldable pub support : List ℕ → List ℕ
support w = filter (λ i. not (slice_index w i == 0)) (below (length w))

abbrev pub InResidual : Matrix → List ℕ → List ℕ → Type 0
InResidual C c w = InPunctured C (support c) w

-- ---- refusals

unfoldable pub no_coordinate : Matrix → List ℕ → List (Option CodeRefusal)
no_coordinate C c = bad_length (C.columns - weight c) ∷ []

unfoldable pub residual_refusals : Matrix → List ℕ → List (Option Refusal)
residual_refusals C c = from_codes (word_refusals C c) ++ not_codeword C c ∷ from_codes (no_coordinate C c)
