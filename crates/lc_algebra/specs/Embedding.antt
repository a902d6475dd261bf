-- A small field inside a larger one, and minimal polynomials over it (MacWilliams and Sloane, chapter 4).
--   IsSubfield small large        equal characteristics, and the degree of the large field is a multiple of the small one's
--   is_subfield small large       the same as a test
--   first_from test i n           the least number from i to i + n - 1 that passes the test, and i + n where none does
--   first_that test n             the least number below n that passes the test, and n where none does
--   root small large              the least-numbered zero, in the large field, of the polynomial of the small one
--   embed small large a           the element of the large field for a: the value of the polynomial of a at that root
--   IsMinimal small large a u     u is the monic polynomial of least degree over the small field that has a as a zero in the
--                                 large one
--   IsCyclotomicSet n q i xs      xs are the numbers i q^j modulo n, rising, each once
use Rattle.std.specs.Prelude.{◌≡◌, ℕ, zero, suc, ◌*◌, ◌%◌, ◌^◌, ◌<◌, ◌↔◌, Bool, cond, ◌==◌, ◌&&◌, List, [], ◌∷◌, ◌++◌, length, map, Contains}
use Rattle.std.specs.List.Sorted.{IsStrictlyIncreasing}
use Rattle.lc_algebra.specs.declared.FieldName.{FieldName}
use Rattle.lc_algebra.specs.Field.{size, shape_of, coefficients}
use Rattle.lc_algebra.specs.Polynomial.{value_at, IsPolynomial, IsMonic}

pub record IsSubfield (small large : FieldName) : Type 0 where
  pub characteristic : (shape_of small).characteristic ≡ (shape_of large).characteristic
  pub degree : (shape_of large).degree % (shape_of small).degree ≡ 0

unfoldable pub is_subfield : FieldName → FieldName → Bool
is_subfield small large = ((shape_of small).characteristic == (shape_of large).characteristic) && ((shape_of large).degree % (shape_of small).degree == 0)

unfoldable pub first_from : (ℕ → Bool) → ℕ → ℕ → ℕ
first_from test start zero = start
first_from test start (suc count) = cond (test start) start (first_from test (suc start) count)

unfoldable pub first_that : (ℕ → Bool) → ℕ → ℕ
first_that test n = first_from test 0 n

unfoldable pub root : FieldName → FieldName → ℕ
root small large = first_that (λ b. value_at large ((shape_of small).lower ++ 1 ∷ []) b == 0) (size large)

unfoldable pub embed : FieldName → FieldName → ℕ → ℕ
embed small large a = value_at large (coefficients small a) (root small large)

pub record IsMinimal (small large : FieldName) (a : ℕ) (u : List ℕ) : Type 0 where
  pub polynomial : IsPolynomial small u
  pub monic : IsMonic u
  pub zero_at : value_at large (map (embed small large) u) a ≡ 0
  pub least : (v : List ℕ) → IsPolynomial small v → value_at large (map (embed small large) v) a ≡ 0 → length v < length u → v ≡ []

pub record IsCyclotomicSet (n q i : ℕ) (xs : List ℕ) : Type 0 where
  pub rises : IsStrictlyIncreasing xs
  pub members : (x : ℕ) → Contains xs x ↔ ((j : ℕ) × (x ≡ (i * q ^ j) % n))
