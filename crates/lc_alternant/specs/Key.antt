-- The key polynomial of a received word (MacWilliams and Sloane, chapter 12).
--   recurrence K s u j       the sum of u_l s_(j+l), over the coefficients u_l of u
--   IsKeyRow t j s row       the row is the word of s_j to s_(j+t)
--   AreKeyRows t m s rows    the rows for each j below m
--   IsKey K t s u            u is a polynomial of degree at most t, not 0, whose sums of u_l s_(j+l) are 0 for each j below t
--   AreKeyValues K t s xs vs      vs are the values of such a polynomial at xs
use Rattle.std.specs.Prelude.{◌≡◌, ◌≢◌, ℕ, suc, ◌+◌, ◌<◌, ◌≤◌, List, [], ◌∷◌, length, map, slice_index, slice_index_or}
use Rattle.lc_algebra.specs.declared.FieldName.{FieldName}
use Rattle.lc_algebra.specs.Field.{add, mul}
use Rattle.lc_algebra.specs.Polynomial.{value_at, IsPolynomial}

unfoldable pub recurrence : FieldName → List ℕ → List ℕ → ℕ → ℕ
recurrence K s [] j = 0
recurrence K s (c ∷ u) j = add K (mul K (slice_index s j) c) (recurrence K s u (suc j))

pub record IsKeyRow (t j : ℕ) (s row : List ℕ) : Type 0 where
  pub long : length row ≡ t + 1
  pub symbols : (l : ℕ) → l < t + 1 → slice_index row l ≡ slice_index s (j + l)

pub record AreKeyRows (t m : ℕ) (s : List ℕ) (rows : List (List ℕ)) : Type 0 where
  pub count : length rows ≡ m
  pub each : (j : ℕ) → j < m → IsKeyRow t j s (slice_index_or rows j [])

pub record IsKey (K : FieldName) (t : ℕ) (s u : List ℕ) : Type 0 where
  pub polynomial : IsPolynomial K u
  pub nonzero : u ≢ []
  pub at_most : length u ≤ t + 1
  pub recurs : (j : ℕ) → j < t → recurrence K s u j ≡ 0

pub record AreKeyValues (K : FieldName) (t : ℕ) (s xs vs : List ℕ) : Type 0 where
  pub polynomial : (u : List ℕ) × IsKey K t s u × (vs ≡ map (value_at K u) xs)
