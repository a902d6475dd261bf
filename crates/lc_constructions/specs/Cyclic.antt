-- Which words the cyclic constructors put into their codes (MacWilliams and Sloane, chapter 7; GUAVA manual, "Generating Codes").
-- The polynomial of a word has the word's symbols as its coefficients, from the constant upwards.
--   IsResidue f n u c              c, of length n, is the polynomial u modulo x^n - 1
--   IsMultipleOf f n x c           generator polynomial: c is x a modulo x^n - 1 for some a of degree below n
--   IsCheckedBy f n x c            check polynomial: c times x is 0 modulo x^n - 1
--   binary_golay_generator, ternary_golay_generator      the generator polynomials of the two Golay codes
--   all_fields                     the eighteen fields, by rising size
--   IsLocatorField f n K           K is the least field that holds f and an element of order n
--   locator_field f n              this field, and None if there is none: the first with a multiple of n nonzero elements
--   root_of_unity locator n        its primitive element to the power (size - 1) / n: an element of order n
--   value_in small large u x       the value at x of the polynomial u over the small field, in the large one
--   exponents_from b n             the numbers from b on, n of them
--   HasZeros f locator x w exponents      the polynomial of w is 0 at each of these powers of x
--   IsBchWord f locator n b d w    zeros at the powers b to b + d - 2 of an element of order n
--   IsReedSolomonWord f d w        zeros at the powers 1 to d - 1 of the primitive element; n is the size of the field less 1
use Rattle.std.specs.Prelude.{◌≡◌, ℕ, zero, suc, ◌-◌, ◌/◌, ◌%◌, ◌≤◌, ◌==◌, ◌&&◌, List, [], ◌∷◌, map, find, Option, All}
use Rattle.lc_algebra.specs.declared.FieldName.{FieldName}
use Rattle.lc_algebra.specs.declared.FieldName.TheVariants.{Gf2, Gf3, Gf4, Gf5, Gf7, Gf8, Gf9, Gf11, Gf13, Gf16, Gf25, Gf27, Gf32, Gf64, Gf81, Gf128, Gf243, Gf256}
use Rattle.lc_algebra.specs.Field.{shape_of, size, pow, HasOrder}
use Rattle.lc_algebra.specs.Polynomial.{value_at, poly_sum, poly_product, SamePolynomial, IsPolynomial, x_power_minus_one}
use Rattle.lc_algebra.specs.Embedding.{IsSubfield, is_subfield, embed}
unfoldable pub use Rattle.lc_algebra.specs.Polynomial.{put_on, trimmed}
use Rattle.lc_algebra.specs.Word.{IsWord, zero_word}

pub record IsResidue (f : FieldName) (n : ℕ) (u c : List ℕ) : Type 0 where
  pub word : IsWord f n c
  pub multiple : (h : List ℕ) × IsPolynomial f h × SamePolynomial u (poly_sum f (poly_product f h (x_power_minus_one f n)) c)

abbrev pub IsMultipleOf : FieldName → ℕ → List ℕ → List ℕ → Type 0
IsMultipleOf f n x c = (a : List ℕ) × IsWord f n a × IsResidue f n (poly_product f x a) c

abbrev pub IsCheckedBy : FieldName → ℕ → List ℕ → List ℕ → Type 0
IsCheckedBy f n x c = IsResidue f n (poly_product f c x) (zero_word n)

-- 1 + x^2 + x^4 + x^5 + x^6 + x^10 + x^11, over 2 elements, for length 23
abbrev pub binary_golay_generator : List ℕ
binary_golay_generator = 1 ∷ 0 ∷ 1 ∷ 0 ∷ 1 ∷ 1 ∷ 1 ∷ 0 ∷ 0 ∷ 0 ∷ 1 ∷ 1 ∷ []

-- 2 + x^2 + 2 x^3 + x^4 + x^5, over 3 elements, for length 11
abbrev pub ternary_golay_generator : List ℕ
ternary_golay_generator = 2 ∷ 0 ∷ 1 ∷ 2 ∷ 1 ∷ 1 ∷ []

unfoldable pub all_fields : List FieldName
all_fields = Gf2 ∷ Gf3 ∷ Gf4 ∷ Gf5 ∷ Gf7 ∷ Gf8 ∷ Gf9 ∷ Gf11 ∷ Gf13 ∷ Gf16 ∷ Gf25 ∷ Gf27 ∷ Gf32 ∷ Gf64 ∷ Gf81 ∷ Gf128 ∷ Gf243 ∷ Gf256 ∷ []

pub record IsLocatorField (f : FieldName) (n : ℕ) (K : FieldName) : Type 0 where
  pub subfield : IsSubfield f K
  pub order : (b : ℕ) × HasOrder K b n
  pub least : (L : FieldName) → IsSubfield f L → (b : ℕ) → HasOrder L b n → size K ≤ size L

unfoldable pub locator_field : FieldName → ℕ → Option FieldName
locator_field f n = find (λ K. is_subfield f K && ((size K - 1) % n == 0)) all_fields

unfoldable pub root_of_unity : FieldName → ℕ → ℕ
root_of_unity K n = pow K (shape_of K).primitive ((size K - 1) / n)

unfoldable pub value_in : FieldName → FieldName → List ℕ → ℕ → ℕ
value_in small large u x = value_at large (map (embed small large) u) x

abbrev pub HasZeros : FieldName → FieldName → ℕ → List ℕ → List ℕ → Type 0
HasZeros f K x w exponents = All (λ i. value_in f K w (pow K x i) ≡ 0) exponents

-- the numbers from b on, n of them
unfoldable pub exponents_from : ℕ → ℕ → List ℕ
exponents_from b zero = []
exponents_from b (suc n) = b ∷ exponents_from (suc b) n

abbrev pub IsBchWord : FieldName → FieldName → ℕ → ℕ → ℕ → List ℕ → Type 0
IsBchWord f K n b d w = HasZeros f K (root_of_unity K n) w (exponents_from b (d - 1))

abbrev pub IsReedSolomonWord : FieldName → ℕ → List ℕ → Type 0
IsReedSolomonWord f d w = HasZeros f f (shape_of f).primitive w (exponents_from 1 (d - 1))
