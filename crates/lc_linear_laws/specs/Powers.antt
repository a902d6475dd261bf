-- The multiples of words by 1, γ, ..., γ^(s-1), where γ is the primitive element of the field K: the sums of their multiples by
-- elements of a smaller field, of which K is an extension of degree s, are those by all elements of K (MacWilliams and Sloane,
-- chapter 10).
--   power_multiples K s u      the word u, times each of these powers
--   outer_rows K s us          so each of the words
use Rattle.std.specs.Prelude.{ℕ, List, map, flat_map}
use Rattle.lc_algebra.specs.declared.FieldName.{FieldName}
use Rattle.lc_algebra.specs.Field.{shape_of, pow}
use Rattle.lc_algebra.specs.Word.{scale}
use Rattle.lc_algebra.specs.Span.{below}

abbrev pub power_multiples : FieldName → ℕ → List ℕ → List (List ℕ)
power_multiples K s u = map (λ t. scale K (pow K (shape_of K).primitive t) u) (below s)

abbrev pub outer_rows : FieldName → ℕ → List (List ℕ) → List (List ℕ)
outer_rows K s us = flat_map (power_multiples K s) us
