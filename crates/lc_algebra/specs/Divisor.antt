-- Divisible codes: what divides the weights of all words (Ward, Divisible codes, Archiv der Mathematik 36, 1981; MacWilliams
-- and Sloane, chapter 19).
--   IsDivisible f n rows d           the weight of each word of the rows is a multiple of d
--   possible_divisors f              the divisors that are asked for, the greatest first: 4 and 2 over 2 elements, 3 over 3
--   divides_weights d ws             whether d divides the weight of each word of a list
--   weight_divisor f n rows          the first of these that divides the weight of each word of the rows, and 1 if none does
--   divisor_of C                     that of a code
--   IsWeightDivisor f n rows d       d is the greatest of these and 1 that divides the weight of each word of the rows
--   rounded d t                      t rounded up to a multiple of d
--   IsLeastMultiple d t s            s is the least multiple of d that is at least t
use Rattle.std.specs.Prelude.{◌≡◌, ℕ, ◌+◌, ◌-◌, ◌*◌, ◌/◌, ◌%◌, ◌≤◌, Bool, ◌==◌, List, [], ◌∷◌, ◌++◌, find, unwrap_or, Contains}
use Rattle.std.specs.List.{list_all}
use Rattle.lc_algebra.specs.declared.FieldName.{FieldName}
use Rattle.lc_algebra.specs.declared.FieldName.TheVariants.{Gf2, Gf3}
use Rattle.lc_algebra.specs.Word.{weight}
use Rattle.lc_algebra.specs.Span.{InSpan, words}
use Rattle.lc_algebra.specs.Matrix.{Matrix}

abbrev pub IsDivisible : FieldName → ℕ → List (List ℕ) → ℕ → Type 0
IsDivisible f n rows d = (w : List ℕ) → InSpan f n rows w → (m : ℕ) × (weight w ≡ m * d)

unfoldable pub possible_divisors : FieldName → List ℕ
possible_divisors Gf2 = 4 ∷ 2 ∷ []
possible_divisors Gf3 = 3 ∷ []
possible_divisors _ = []

unfoldable pub divides_weights : ℕ → List (List ℕ) → Bool
divides_weights d ws = list_all (λ w. weight w % d == 0) ws

unfoldable pub weight_divisor : FieldName → ℕ → List (List ℕ) → ℕ
weight_divisor f n rows = unwrap_or (find (λ d. divides_weights d (words f n rows)) (possible_divisors f)) 1

unfoldable pub divisor_of : Matrix → ℕ
divisor_of C = weight_divisor C.field C.columns C.rows

pub record IsWeightDivisor (f : FieldName) (n : ℕ) (rows : List (List ℕ)) (d : ℕ) : Type 0 where
  pub possible : Contains (possible_divisors f ++ 1 ∷ []) d
  pub divides : IsDivisible f n rows d
  pub greatest : (e : ℕ) → Contains (possible_divisors f) e → IsDivisible f n rows e → e ≤ d

unfoldable pub rounded : ℕ → ℕ → ℕ
rounded d t = (t + (d - 1)) / d * d

pub record IsLeastMultiple (d t s : ℕ) : Type 0 where
  pub multiple : (m : ℕ) × (s ≡ m * d)
  pub reaches : t ≤ s
  pub least : (m : ℕ) → t ≤ m * d → s ≤ m * d
