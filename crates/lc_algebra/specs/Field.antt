-- The eighteen fields (MacWilliams and Sloane, chapters 3 and 4).
--   Shape                 a row of the table of fields: characteristic, degree, the lower coefficients of the monic
--                         polynomial that is divided by, and the chosen primitive element
--   shape p s lower γ     such a row
--   shape_of f            the row of the field; a prime field is divided by the polynomial x
--   size f                the number of elements
--   is_symbol f           whether words may be written over it: at most 16 elements
--   coefficients f a      the polynomial whose number is a
--   add f a b, neg f a, mul f a b      sum, negative and product of elements, by their numbers
--   subtract f a b        a less b
--   pow f a n             the n-th power; the zeroth is 1
--   IsInverse f a b       b is an element, and a times b is 1
--   HasOrder f b n        b is an element, its n-th power is 1, and none of its powers 1 to n - 1 is
use Rattle.std.specs.Prelude.{◌≡◌, ◌≢◌, ℕ, zero, suc, ◌^◌, ◌<◌, ◌≤◌, Bool, nat_le, List, [], ◌∷◌}
use Rattle.lc_algebra.specs.declared.FieldName.{FieldName}
use Rattle.lc_algebra.specs.declared.FieldName.TheVariants.{Gf2, Gf3, Gf4, Gf5, Gf7, Gf8, Gf9, Gf11, Gf13, Gf16, Gf25, Gf27, Gf32, Gf64, Gf81, Gf128, Gf243, Gf256}
use Rattle.lc_algebra.specs.Residue.{digits, number, plus, minus, product}

pub record Shape : Type 0 where
  pub characteristic : ℕ
  pub degree : ℕ
  pub lower : List ℕ
  pub primitive : ℕ

unfoldable pub shape : ℕ → ℕ → List ℕ → ℕ → Shape
shape p s lower γ = record { characteristic = p; degree = s; lower = lower; primitive = γ }

unfoldable pub shape_of : FieldName → Shape
shape_of Gf2 = shape 2 1 (0 ∷ []) 1
shape_of Gf3 = shape 3 1 (0 ∷ []) 2
shape_of Gf4 = shape 2 2 (1 ∷ 1 ∷ []) 2
shape_of Gf5 = shape 5 1 (0 ∷ []) 2
shape_of Gf7 = shape 7 1 (0 ∷ []) 3
shape_of Gf8 = shape 2 3 (1 ∷ 1 ∷ 0 ∷ []) 2
shape_of Gf9 = shape 3 2 (2 ∷ 2 ∷ []) 3
shape_of Gf11 = shape 11 1 (0 ∷ []) 2
shape_of Gf13 = shape 13 1 (0 ∷ []) 2
shape_of Gf16 = shape 2 4 (1 ∷ 1 ∷ 0 ∷ 0 ∷ []) 2
shape_of Gf25 = shape 5 2 (2 ∷ 4 ∷ []) 5
shape_of Gf27 = shape 3 3 (1 ∷ 2 ∷ 0 ∷ []) 3
shape_of Gf32 = shape 2 5 (1 ∷ 0 ∷ 1 ∷ 0 ∷ 0 ∷ []) 2
shape_of Gf64 = shape 2 6 (1 ∷ 1 ∷ 0 ∷ 0 ∷ 0 ∷ 0 ∷ []) 2
shape_of Gf81 = shape 3 4 (2 ∷ 1 ∷ 0 ∷ 0 ∷ []) 3
shape_of Gf128 = shape 2 7 (1 ∷ 1 ∷ 0 ∷ 0 ∷ 0 ∷ 0 ∷ 0 ∷ []) 2
shape_of Gf243 = shape 3 5 (1 ∷ 2 ∷ 0 ∷ 0 ∷ 0 ∷ []) 3
shape_of Gf256 = shape 2 8 (1 ∷ 0 ∷ 1 ∷ 1 ∷ 1 ∷ 0 ∷ 0 ∷ 0 ∷ []) 2

unfoldable pub size : FieldName → ℕ
size f = (shape_of f).characteristic ^ (shape_of f).degree

unfoldable pub is_symbol : FieldName → Bool
is_symbol f = nat_le (size f) 16

unfoldable pub coefficients : FieldName → ℕ → List ℕ
coefficients f a = digits (shape_of f).characteristic (shape_of f).degree a

unfoldable pub add : FieldName → ℕ → ℕ → ℕ
add f a b = number (shape_of f).characteristic (plus (shape_of f).characteristic (coefficients f a) (coefficients f b))

unfoldable pub neg : FieldName → ℕ → ℕ
neg f a = number (shape_of f).characteristic (minus (shape_of f).characteristic (coefficients f a))

unfoldable pub mul : FieldName → ℕ → ℕ → ℕ
mul f a b = number (shape_of f).characteristic (product (shape_of f).characteristic (shape_of f).lower (coefficients f a) (coefficients f b))

unfoldable pub subtract : FieldName → ℕ → ℕ → ℕ
subtract f a b = add f a (neg f b)

unfoldable pub pow : FieldName → ℕ → ℕ → ℕ
pow f a zero = 1
pow f a (suc n) = mul f a (pow f a n)

pub record IsInverse (f : FieldName) (a b : ℕ) : Type 0 where
  pub inside : b < size f
  pub one : mul f a b ≡ 1

pub record HasOrder (f : FieldName) (b n : ℕ) : Type 0 where
  pub inside : b < size f
  pub positive : 1 ≤ n
  pub one : pow f b n ≡ 1
  pub least : (m : ℕ) → 0 < m → m < n → pow f b m ≢ 1
