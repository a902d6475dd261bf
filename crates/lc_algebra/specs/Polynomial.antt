-- Polynomials over one of the eighteen fields: lists of coefficients from the constant upwards (MacWilliams and Sloane,
-- chapters 4 and 7).
--   value_at f u x            the value of the polynomial u at the element x
--   poly_sum f u v            the sum
--   poly_scale f c u          the multiple by the element c
--   poly_product f u v        the product
--   put_on a u                the coefficient a before the list u, unless a is 0 and u has none
--   trimmed u                 the list without its last zeros: the coefficients of a polynomial that is given by any list
--   SamePolynomial u v        equal coefficients, with 0 past the end of a list
--   IsPolynomial f u          coefficients of the field, the last one nonzero; the zero polynomial has none
--   IsMonic u                 the last coefficient is 1
--   IsDivision f a b q r      q is the quotient and r the remainder of a on division by b, whose last coefficient isn't 0
--   Divides f a b             some multiple of a is b
--   x_power_minus_one f n     x^n - 1, for n of at least 1
use Rattle.std.specs.Prelude.{◌≡◌, ℕ, zero, suc, ◌-◌, ◌<◌, List, [], ◌∷◌, ◌++◌, length, replicate, slice_index, EachIndex}
use Rattle.lc_algebra.specs.declared.FieldName.{FieldName}
use Rattle.lc_algebra.specs.Field.{size, add, neg, mul}

unfoldable pub value_at : FieldName → List ℕ → ℕ → ℕ
value_at f [] x = 0
value_at f (c ∷ u) x = add f c (mul f x (value_at f u x))

unfoldable pub poly_sum : FieldName → List ℕ → List ℕ → List ℕ
poly_sum f [] v = v
poly_sum f (a ∷ u) [] = a ∷ u
poly_sum f (a ∷ u) (b ∷ v) = add f a b ∷ poly_sum f u v

unfoldable pub poly_scale : FieldName → ℕ → List ℕ → List ℕ
poly_scale f c [] = []
poly_scale f c (a ∷ u) = mul f c a ∷ poly_scale f c u

unfoldable pub poly_product : FieldName → List ℕ → List ℕ → List ℕ
poly_product f [] v = []
poly_product f (c ∷ u) v = poly_sum f (poly_scale f c v) (0 ∷ poly_product f u v)

unfoldable pub put_on : ℕ → List ℕ → List ℕ
put_on zero [] = []
put_on (suc a) [] = suc a ∷ []
put_on a (b ∷ u) = a ∷ b ∷ u

unfoldable pub trimmed : List ℕ → List ℕ
trimmed [] = []
trimmed (a ∷ u) = put_on a (trimmed u)

abbrev pub SamePolynomial : List ℕ → List ℕ → Type 0
SamePolynomial u v = (i : ℕ) → slice_index u i ≡ slice_index v i

pub record IsPolynomial (f : FieldName) (u : List ℕ) : Type 0 where
  pub fits : EachIndex u (λ i. slice_index u i < size f)
  pub leads : 0 < length u → 0 < slice_index u (length u - 1)

abbrev pub IsMonic : List ℕ → Type 0
IsMonic u = slice_index u (length u - 1) ≡ 1

pub record IsDivision (f : FieldName) (a b q r : List ℕ) : Type 0 where
  pub quotient : IsPolynomial f q
  pub remainder : IsPolynomial f r
  pub lower : length r < length b
  pub whole : SamePolynomial a (poly_sum f (poly_product f q b) r)

abbrev pub Divides : FieldName → List ℕ → List ℕ → Type 0
Divides f a b = (h : List ℕ) × IsPolynomial f h × SamePolynomial b (poly_product f h a)

unfoldable pub x_power_minus_one : FieldName → ℕ → List ℕ
x_power_minus_one f n = neg f 1 ∷ (replicate (n - 1) 0 ++ 1 ∷ [])
