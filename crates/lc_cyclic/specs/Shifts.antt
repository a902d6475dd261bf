-- The rows that generate a cyclic code (MacWilliams and Sloane, chapter 7).
--   shifted g n i         the word of n symbols of the polynomial g times x^i
--   shifts g n k          these words for i below k
--   shift_count g n       how many of them generate the code of a divisor g of x^n - 1: n less the degree of g
use Rattle.std.specs.Prelude.{ℕ, ◌+◌, ◌-◌, List, ◌++◌, length, map, replicate}
use Rattle.lc_algebra.specs.Span.{below}

unfoldable pub shifted : List ℕ → ℕ → ℕ → List ℕ
shifted g n i = replicate i 0 ++ g ++ replicate (n - (i + length g)) 0

unfoldable pub shifts : List ℕ → ℕ → ℕ → List (List ℕ)
shifts g n k = map (shifted g n) (below k)

abbrev pub shift_count : List ℕ → ℕ → ℕ
shift_count g n = n + 1 - length g
