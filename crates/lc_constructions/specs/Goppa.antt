-- Goppa codes by rational functions: the sum of w_i / (x - a_i) is 0 modulo the Goppa polynomial (MacWilliams and Sloane,
-- chapter 12). 1 / (x - a) is a polynomial whose product with x - a is 1 modulo that polynomial.
--   AreCongruent K g u v            the polynomials u and v differ by a multiple of g
--   IsFraction K g a h              h is 1 / (x - a) modulo g
--   AreFractions K g points hs      each of hs is this for the point at its index
--   fraction_sum K cs hs            the sum of c_i h_i
--   IsGoppaWordByFractions f K g points w      the sum of w_i / (x - a_i) is 0 modulo g
use Rattle.std.specs.Prelude.{ℕ, List, [], ◌∷◌, map, ⊤}
use Rattle.lc_algebra.specs.declared.FieldName.{FieldName}
use Rattle.lc_algebra.specs.Field.{neg}
use Rattle.lc_algebra.specs.Polynomial.{poly_sum, poly_scale, poly_product, SamePolynomial}
use Rattle.lc_algebra.specs.Embedding.{embed}
use Rattle.lc_algebra.specs.Word.{Fits}

abbrev pub AreCongruent : FieldName → List ℕ → List ℕ → List ℕ → Type 0
AreCongruent K g u v = (m : List ℕ) × Fits K m × SamePolynomial u (poly_sum K (poly_product K m g) v)

pub record IsFraction (K : FieldName) (g : List ℕ) (a : ℕ) (h : List ℕ) : Type 0 where
  pub fits : Fits K h
  pub one : AreCongruent K g (poly_product K (neg K a ∷ 1 ∷ []) h) (1 ∷ [])

abbrev pub AreFractions : FieldName → List ℕ → List ℕ → List (List ℕ) → Type 0
AreFractions K g [] [] = ⊤
AreFractions K g (a ∷ points) (h ∷ hs) = IsFraction K g a h × AreFractions K g points hs
AreFractions K g _ _ = ⊥

unfoldable pub fraction_sum : FieldName → List ℕ → List (List ℕ) → List ℕ
fraction_sum K (c ∷ cs) (h ∷ hs) = poly_sum K (poly_scale K c h) (fraction_sum K cs hs)
fraction_sum K _ _ = []

abbrev pub IsGoppaWordByFractions : FieldName → FieldName → List ℕ → List ℕ → List ℕ → Type 0
IsGoppaWordByFractions f K g points w = (hs : List (List ℕ)) × AreFractions K g points hs × AreCongruent K g (fraction_sum K (map (embed f K) w) hs) []
