-- Krawtchouk polynomials (MacWilliams and Sloane, chapter 5), for words of n symbols over q elements:
--   K_k(x) = the sum over s from 0 to k of (-1)^s (q - 1)^(k - s) (x choose s) (n - x choose k - s)
-- For x from 0 to n it is the sum, over all words of weight k, of the character of their dot with one word of weight x.
--   krawtchouk_term q n k x s      the number (q - 1)^(k - s) (x choose s) (n - x choose k - s)
--   krawtchouk_even q n k x        the sum of these for the even s from 0 to k
--   krawtchouk_odd q n k x         the sum of these for the odd s, so that K_k(x) is krawtchouk_even less krawtchouk_odd
use Rattle.std.specs.Prelude.{ℕ, suc, ◌-◌, ◌*◌, ◌^◌, ◌%◌, ◌==◌, cond, sum_by}
use Rattle.lc_algebra.specs.Span.{below}
use Rattle.lc_enumeration.specs.Message.{choose}

unfoldable pub krawtchouk_term : ℕ → ℕ → ℕ → ℕ → ℕ → ℕ
krawtchouk_term q n k x s = (q - 1) ^ (k - s) * choose x s * choose (n - x) (k - s)

unfoldable pub krawtchouk_even : ℕ → ℕ → ℕ → ℕ → ℕ
krawtchouk_even q n k x = sum_by (λ s. cond (s % 2 == 0) (krawtchouk_term q n k x s) 0) (below (suc k))

unfoldable pub krawtchouk_odd : ℕ → ℕ → ℕ → ℕ → ℕ
krawtchouk_odd q n k x = sum_by (λ s. cond (s % 2 == 1) (krawtchouk_term q n k x s) 0) (below (suc k))
