-- The columns of the check matrix of a Hamming code, as numbers. A column with r entries is the number whose r digits in base q
-- these are; the first nonzero one is 1, so the columns are 1, then q to 2q - 1, then q^2 to 2q^2 - 1, and so on.
--   points q r            the number of columns: 1 + q + ... + q^(r-1), the points of the projective space
--   digits_from q unit first n      of the n columns from first on, the digit that counts units
--   checks_part q r n     the first n rows of the check matrix
--   digits_of q unit r    of all columns of at most r digits, that digit
use Rattle.std.specs.Prelude.{ℕ, zero, suc, ◌+◌, ◌/◌, ◌%◌, ◌^◌, List, [], ◌++◌, map, slice_index}
use Rattle.lc_algebra.specs.Span.{below}
use Rattle.lc_constructions.specs.Basic.{hamming_columns}

unfoldable pub points : ℕ → ℕ → ℕ
points q zero = 0
points q (suc r) = points q r + q ^ r

unfoldable pub digits_from : ℕ → ℕ → ℕ → ℕ → List ℕ
digits_from q unit first n = map (λ v. (first + v) / unit % q) (below n)

unfoldable pub digits_of : ℕ → ℕ → ℕ → List ℕ
digits_of q unit zero = []
digits_of q unit (suc r) = digits_of q unit r ++ digits_from q unit (q ^ r) (q ^ r)

unfoldable pub checks_part : ℕ → ℕ → ℕ → List (List ℕ)
checks_part q r n = map (λ i. map (λ u. slice_index u i) (hamming_columns q r)) (below n)
