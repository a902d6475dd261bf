-- Polynomials over the field of p elements, p a prime: lists of residues modulo p, from the constant upwards
-- (MacWilliams and Sloane, chapter 4).
--   digits p n a                the n lowest digits of a in base p, the lowest first
--   number p u                  the number whose digits in base p are u, the lowest first
--   plus p u v                  the sum of two polynomials of one length
--   minus p u                   the negative of a polynomial
--   times p c u                 the multiple of a polynomial by the residue c
--   long_plus p u v             the sum of two polynomials of any lengths
--   long_times p u v            the product of two polynomials, with nothing reduced
--   IsRemainder p m a r         r, a list of residues, is the remainder of a on division by the monic polynomial with the lower coefficients m
--   top c u                     the last coefficient of u, and c where there is none
--   up c u                      u with each coefficient one place up, c in the lowest place, and the last one let go
--   times_x p m u               x u modulo that monic polynomial, where u is as long as m
--   product p m u v             u v modulo that polynomial, by Horner's rule: v is as long as m
use Rattle.std.specs.Prelude.{◌≡◌, ℕ, zero, suc, ◌+◌, ◌-◌, ◌*◌, ◌/◌, ◌%◌, ◌<◌, List, [], ◌∷◌, ◌++◌, length, replicate, slice_index, EachIndex}

unfoldable pub digits : ℕ → ℕ → ℕ → List ℕ
digits p zero a = []
digits p (suc n) a = a % p ∷ digits p n (a / p)

unfoldable pub number : ℕ → List ℕ → ℕ
number p [] = 0
number p (c ∷ u) = c + p * number p u

unfoldable pub plus : ℕ → List ℕ → List ℕ → List ℕ
plus p (a ∷ u) (b ∷ v) = (a + b) % p ∷ plus p u v
plus p _ _ = []

unfoldable pub minus : ℕ → List ℕ → List ℕ
minus p [] = []
minus p (a ∷ u) = (p - a) % p ∷ minus p u

unfoldable pub times : ℕ → ℕ → List ℕ → List ℕ
times p c [] = []
times p c (a ∷ u) = (c * a) % p ∷ times p c u

unfoldable pub long_plus : ℕ → List ℕ → List ℕ → List ℕ
long_plus p [] v = v
long_plus p (a ∷ u) [] = a ∷ u
long_plus p (a ∷ u) (b ∷ v) = (a + b) % p ∷ long_plus p u v

unfoldable pub long_times : ℕ → List ℕ → List ℕ → List ℕ
long_times p [] v = []
long_times p (c ∷ u) v = long_plus p (times p c v) (0 ∷ long_times p u v)

-- a is some multiple of the monic polynomial plus r, coefficient by coefficient, and r is a list of residues whose degree is
-- below that polynomial's
pub record IsRemainder (p : ℕ) (lower a r : List ℕ) : Type 0 where
  pub residues : EachIndex r (λ i. slice_index r i < p)
  pub degree : length r ≡ length lower
  pub multiple : (h : List ℕ) × ((i : ℕ) → slice_index a i ≡ slice_index (long_plus p (long_times p h (lower ++ 1 ∷ [])) r) i)

unfoldable pub top : ℕ → List ℕ → ℕ
top c [] = c
top c (a ∷ u) = top a u

unfoldable pub up : ℕ → List ℕ → List ℕ
up c [] = []
up c (a ∷ u) = c ∷ up a u

unfoldable pub times_x : ℕ → List ℕ → List ℕ → List ℕ
times_x p lower u = plus p (up 0 u) (times p (top 0 u) (minus p lower))

unfoldable pub product : ℕ → List ℕ → List ℕ → List ℕ → List ℕ
product p lower [] v = replicate (length lower) 0
product p lower (c ∷ u) v = plus p (times p c v) (times_x p lower (product p lower u v))
