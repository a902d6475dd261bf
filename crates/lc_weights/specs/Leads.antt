-- Words of which every other is a multiple.
--   leads f n rows      the sums of each row and each word of the rows after it: the words of the rows whose first coefficient
--                       other than 0 is 1
use Rattle.std.specs.Prelude.{ℕ, List, [], ◌∷◌, ◌++◌, map}
use Rattle.lc_algebra.specs.declared.FieldName.{FieldName}
use Rattle.lc_algebra.specs.Word.{word_sum}
use Rattle.lc_algebra.specs.Span.{words}

unfoldable pub leads : FieldName → ℕ → List (List ℕ) → List (List ℕ)
leads f n [] = []
leads f n (g ∷ rows) = map (word_sum f g) (words f n rows) ++ leads f n rows
