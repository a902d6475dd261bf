-- The weight distribution of a code, found from that of its dual by the equations of their binomial moments (MacWilliams and Sloane,
-- chapter 5).
--   IsDualDistribution C counts    counts is the weight distribution of the dual of C: of the words that have dot 0 with each row
--   choose_at i                    at 64 n + j how many sets of j there are among n
--   terms counts n v m             the sum of (n - j choose v) times entry j over the j below m
--   IsSolved C t found             found has the numbers of words of C of the weights below t
use Rattle.std.specs.Prelude.{◌≡◌, ℕ, ◌-◌, ◌*◌, ◌/◌, ◌%◌, List, map, slice_index, sum_by}
use Rattle.lc_algebra.specs.Span.{below}
use Rattle.lc_algebra.specs.Matrix.{Matrix, IsReducedGenerator, IsOrthogonal}
use Rattle.lc_enumeration.specs.Message.{choose}
use Rattle.lc_enumeration.specs.Distribution.{count_of_weight, weight_distribution}

pub record IsDualDistribution (C : Matrix) (counts : List ℕ) : Type 0 where
  pub checks : List (List ℕ)
  pub generator : IsReducedGenerator C.field C.columns (IsOrthogonal C.field C.rows) checks
  pub are : counts ≡ weight_distribution C.field C.columns checks

abbrev pub choose_at : ℕ → ℕ
choose_at i = choose (i / 64) (i % 64)

unfoldable pub terms : List ℕ → ℕ → ℕ → ℕ → ℕ
terms counts n v m = sum_by (λ j. choose (n - j) v * slice_index counts j) (below m)

abbrev pub IsSolved : Matrix → ℕ → List ℕ → Type 0
IsSolved C t found = found ≡ map (count_of_weight C.field C.columns C.rows) (below t)
