-- The rows of a Reed-Muller code, variable by variable. The value list of a polynomial has its value at place i, where the bits of
-- i are the variables.
--   variables v left         the variables v, v + 1 and so on, left of them
--   times_all values vs      the values, each times the values of the variables vs there: kept where all of them are 1
--   times_part values unit n      the first n values times the bit that counts units
--   products values v left r      the values times each product of at most r of these variables
use Rattle.std.specs.Prelude.{ℕ, zero, suc, ◌/◌, ◌%◌, ◌^◌, ◌==◌, if◌then◌else◌, List, [], ◌∷◌, map, length, slice_index}
use Rattle.std.specs.List.{list_all}
use Rattle.lc_algebra.specs.Span.{below}
use Rattle.lc_constructions.specs.Basic.{subsets}

unfoldable pub variables : ℕ → ℕ → List ℕ
variables v zero = []
variables v (suc left) = v ∷ variables (suc v) left

unfoldable pub times_all : List ℕ → List ℕ → List ℕ
times_all values vs = map (λ place. if list_all (λ v. place / 2 ^ v % 2 == 1) vs then slice_index values place else 0) (below (length values))

unfoldable pub times_part : List ℕ → ℕ → ℕ → List ℕ
times_part values unit n = map (λ place. if place / unit % 2 == 1 then slice_index values place else 0) (below n)

unfoldable pub products : List ℕ → ℕ → ℕ → ℕ → List (List ℕ)
products values v left r = map (times_all values) (subsets (variables v left) r)
