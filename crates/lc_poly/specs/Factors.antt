-- Products of minimal polynomials of powers of an element, one for each of some cyclotomic sets (MacWilliams and Sloane,
-- chapter 7).
--   Factor                         a number, its cyclotomic set, and a polynomial
--   IsFactor small large b n t     the set is that of the number modulo n, and the polynomial is the minimal one of b to the number
--   AreApart s t                   no number stands in the sets of both
--   AreFactors small large b n ts  each of ts is a factor, and any two are apart
--   StandsIn ts k                  k stands in one of the sets
--   product_of f ts                the product of the polynomials, the last one first; of none it is 1
use Rattle.std.specs.Prelude.{ℕ, List, [], ◌∷◌, All, AllPairs, Contains}
use Rattle.lc_algebra.specs.declared.FieldName.{FieldName}
use Rattle.lc_algebra.specs.Field.{size, pow}
use Rattle.lc_algebra.specs.Polynomial.{poly_product}
use Rattle.lc_algebra.specs.Embedding.{IsMinimal, IsCyclotomicSet}

pub record Factor : Type 0 where
  pub number : ℕ
  pub numbers : List ℕ
  pub polynomial : List ℕ

pub record IsFactor (small large : FieldName) (b n : ℕ) (t : Factor) : Type 0 where
  pub cyclotomic : IsCyclotomicSet n (size small) t.number t.numbers
  pub minimal : IsMinimal small large (pow large b t.number) t.polynomial

abbrev pub AreApart : Factor → Factor → Type 0
AreApart s t = (k : ℕ) → Contains s.numbers k → Contains t.numbers k → ⊥

pub record AreFactors (small large : FieldName) (b n : ℕ) (ts : List Factor) : Type 0 where
  pub each : All (IsFactor small large b n) ts
  pub apart : AllPairs AreApart ts

abbrev pub StandsIn : List Factor → ℕ → Type 0
StandsIn ts k = (t : Factor) × Contains ts t × Contains t.numbers k

unfoldable pub product_of : FieldName → List Factor → List ℕ
product_of f [] = 1 ∷ []
product_of f (t ∷ ts) = poly_product f (product_of f ts) t.polynomial
