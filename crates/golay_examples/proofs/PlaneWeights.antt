-- The weight of a word by its bit planes, by evaluation of the definitions.
--   weight_by ps n       at how many of n coordinates some plane is 1
--   four                 the word 0, 1, 2, 3 over 4 elements
use Rattle.std.proofs.Common.{◌≡◌}
use Rattle.std.specs.Prelude.{ℕ, ◌==◌, List, [], ◌∷◌, slice_index, count_by}
use Rattle.std.specs.List.{list_any}
use Rattle.lc_algebra.specs.Word.{weight}
use Rattle.lc_algebra.specs.Span.{below}
use Rattle.lc_algebra.specs.Plane.{bit, plane, planes}

abbrev pub weight_by : List (List ℕ) → ℕ → ℕ
weight_by ps n = count_by (λ i. list_any (λ p. slice_index p i == 1) ps) (below n)

abbrev pub four : List ℕ
four = 0 ∷ 1 ∷ 2 ∷ 3 ∷ []
