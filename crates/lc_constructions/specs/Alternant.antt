-- Alternant and Goppa codes (MacWilliams and Sloane, chapter 12). Symbols of a word are taken as
-- their images in the larger field, the locator field.
--   AlternantForm                      the locator field, the points, as many multipliers, and the number r of checks
--   IsForm f form                      the form gives a code over f: a symbol field in the locator field, 1 to 255 distinct points, as
--                                      many nonzero multipliers
--   IsFormOf C form                    and C is that code: its words are those of the form
--   inverse K a                        the inverse of a nonzero element: the least b with a b = 1
--   check_row K points multipliers j   the products y_i a_i^j
--   syndrome_at f form w j             the sum of w_i y_i a_i^j
--   IsAlternantWord f form w           these sums are 0 for each j below r
--   goppa_multipliers K g points       1 / G(a_i), for each point
--   goppa_sum f K g points w j         the sum of w_i a_i^j / G(a_i)
--   IsGoppaWord f K g points w         these sums are 0 for each j below the degree of G
--   goppa_form K g points              the form of a Goppa code: multipliers 1 / G(a_i), and r the degree of G
--   bch_form K n b d                   that of a BCH code: points β^i, multipliers β^(i b), and r = d - 1, for i below n
use Rattle.std.specs.Prelude.{◌≡◌, ◌≢◌, ℕ, ◌-◌, ◌*◌, ◌<◌, ◌↔◌, ◌==◌, IsTrue, List, [], ◌∷◌, length, map, slice_index, EachIndex, AllPairs}
use Rattle.lc_algebra.specs.declared.FieldName.{FieldName}
use Rattle.lc_algebra.specs.Field.{size, is_symbol, mul, pow}
use Rattle.lc_algebra.specs.Polynomial.{value_at}
use Rattle.lc_algebra.specs.Embedding.{IsSubfield, embed, first_that}
use Rattle.lc_algebra.specs.Word.{Fits, IsWord, word_dot}
use Rattle.lc_algebra.specs.Span.{below}
use Rattle.lc_algebra.specs.Matrix.{Matrix}
use Rattle.lc_constructions.specs.Code.{is_length, InCode}
use Rattle.lc_constructions.specs.Cyclic.{root_of_unity}

pub record AlternantForm : Type 0 where
  pub locator : FieldName
  pub points : List ℕ
  pub multipliers : List ℕ
  pub r : ℕ

pub record IsForm (f : FieldName) (form : AlternantForm) : Type 0 where
  pub symbol : IsTrue (is_symbol f)
  pub subfield : IsSubfield f form.locator
  pub length_is : IsTrue (is_length (length form.points))
  pub points : Fits form.locator form.points
  pub distinct : AllPairs (λ a b. a ≢ b) form.points
  pub count : length form.multipliers ≡ length form.points
  pub multipliers : Fits form.locator form.multipliers
  pub nonzero : EachIndex form.multipliers (λ i. 0 < slice_index form.multipliers i)

unfoldable pub inverse : FieldName → ℕ → ℕ
inverse K a = first_that (λ b. mul K a b == 1) (size K)

-- the products of the multipliers with the j-th powers of the points
unfoldable pub check_row : FieldName → List ℕ → List ℕ → ℕ → List ℕ
check_row K (a ∷ points) (y ∷ multipliers) j = mul K y (pow K a j) ∷ check_row K points multipliers j
check_row K _ _ j = []

unfoldable pub syndrome_at : FieldName → AlternantForm → List ℕ → ℕ → ℕ
syndrome_at f form w j = word_dot form.locator (map (embed f form.locator) w) (check_row form.locator form.points form.multipliers j)

abbrev pub IsAlternantWord : FieldName → AlternantForm → List ℕ → Type 0
IsAlternantWord f form w = (j : ℕ) → j < form.r → syndrome_at f form w j ≡ 0

pub record IsFormOf (C : Matrix) (form : AlternantForm) : Type 0 where
  pub form_is : IsForm C.field form
  pub length_is : length form.points ≡ C.columns
  pub words : (w : List ℕ) → InCode C w ↔ (IsWord C.field C.columns w × IsAlternantWord C.field form w)

-- 1 / G(a) for each point
unfoldable pub goppa_multipliers : FieldName → List ℕ → List ℕ → List ℕ
goppa_multipliers K g points = map (λ a. inverse K (value_at K g a)) points

unfoldable pub goppa_sum : FieldName → FieldName → List ℕ → List ℕ → List ℕ → ℕ → ℕ
goppa_sum f K g points w j = word_dot K (map (embed f K) w) (check_row K points (goppa_multipliers K g points) j)

-- the degree of a polynomial whose last coefficient isn't 0 is one less than their number
abbrev pub IsGoppaWord : FieldName → FieldName → List ℕ → List ℕ → List ℕ → Type 0
IsGoppaWord f K g points w = (j : ℕ) → j < length g - 1 → goppa_sum f K g points w j ≡ 0

unfoldable pub goppa_form : FieldName → List ℕ → List ℕ → AlternantForm
goppa_form K g points = record { locator = K; points = points; multipliers = goppa_multipliers K g points; r = length g - 1 }

unfoldable pub bch_form : FieldName → ℕ → ℕ → ℕ → AlternantForm
bch_form K n b d = record {
  locator = K;
  points = map (pow K (root_of_unity K n)) (below n);
  multipliers = map (λ i. pow K (root_of_unity K n) (i * b)) (below n);
  r = d - 1;
}
