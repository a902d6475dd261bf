-- The words of a code that are orthogonal to another one (MacWilliams and Sloane, chapter 1).
--   orthogonal_words f n rows others     the words of the rows that have dot 0 with each of the others, and so with each of their words
use Rattle.std.specs.Prelude.{ℕ, ◌==◌, List, filter}
use Rattle.std.specs.List.{list_all}
use Rattle.lc_algebra.specs.declared.FieldName.{FieldName}
use Rattle.lc_algebra.specs.Word.{word_dot}
use Rattle.lc_algebra.specs.Span.{words}

unfoldable pub orthogonal_words : FieldName → ℕ → List (List ℕ) → List (List ℕ) → List (List ℕ)
orthogonal_words f n rows others = filter (λ w. list_all (λ row. word_dot f row w == 0) others) (words f n rows)
