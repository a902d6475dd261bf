-- Coordinates of the elements of a locator field K over a symbol field f in it: each element is the sum of c_i γ^i, with γ the
-- primitive element of K (MacWilliams and Sloane, chapters 4 and 10).
--   relative_degree f K       the degree of K over f
--   coordinates f K t         the digits of t in base q, for f of q elements: t is the number of these coordinates
--   element_of f K t          the element with these coordinates
--   IsNumbering f K ts        ts has a number of coordinates for each element
--   coordinate_row f s ts i hs      coordinate i, of s, of each of the elements hs
--   expanded_rows f form ts r       the coordinates of the check rows below r, row after row
--   AreExpandedChecks f form r rows      the rows are these, by some such numbers
--   IsNumberedTo f K t ts     ts has numbers of the elements whose coordinates have a number below t
--   IsEnough form c           c checks say as much as all: they are all, or as many as the points
use Rattle.std.specs.Prelude.{◌≡◌, ℕ, zero, suc, ◌/◌, ◌<◌, ◌≤◌, List, [], ◌++◌, length, map, slice_index}
use Rattle.lc_algebra.specs.declared.FieldName.{FieldName}
use Rattle.lc_algebra.specs.Field.{shape_of, size}
use Rattle.lc_algebra.specs.Residue.{digits}
use Rattle.lc_algebra.specs.Polynomial.{value_at}
use Rattle.lc_algebra.specs.Embedding.{embed}
use Rattle.lc_algebra.specs.Span.{below}
use Rattle.lc_constructions.specs.Alternant.{AlternantForm, check_row}

unfoldable pub relative_degree : FieldName → FieldName → ℕ
relative_degree f K = (shape_of K).degree / (shape_of f).degree

abbrev pub coordinates : FieldName → FieldName → ℕ → List ℕ
coordinates f K t = digits (size f) (relative_degree f K) t

unfoldable pub element_of : FieldName → FieldName → ℕ → ℕ
element_of f K t = value_at K (map (embed f K) (coordinates f K t)) (shape_of K).primitive

pub record IsNumbering (f K : FieldName) (ts : List ℕ) : Type 0 where
  pub long : length ts ≡ size K
  pub element : (a : ℕ) → a < size K → element_of f K (slice_index ts a) ≡ a

unfoldable pub coordinate_row : FieldName → ℕ → List ℕ → ℕ → List ℕ → List ℕ
coordinate_row f s ts i hs = map (λ h. slice_index (digits (size f) s (slice_index ts h)) i) hs

unfoldable pub expanded_rows : FieldName → AlternantForm → List ℕ → ℕ → List (List ℕ)
expanded_rows f form ts zero = []
expanded_rows f form ts (suc j) = expanded_rows f form ts j ++ map (λ i. coordinate_row f (relative_degree f form.locator) ts i (check_row form.locator form.points form.multipliers j)) (below (relative_degree f form.locator))

pub record AreExpandedChecks (f : FieldName) (form : AlternantForm) (r : ℕ) (rows : List (List ℕ)) : Type 0 where
  pub each : (ts : List ℕ) × IsNumbering f form.locator ts × (rows ≡ expanded_rows f form ts r)

pub record IsNumberedTo (f K : FieldName) (t : ℕ) (ts : List ℕ) : Type 0 where
  pub long : length ts ≡ size K
  pub element : (u : ℕ) → u < t → element_of f K (slice_index ts (element_of f K u)) ≡ element_of f K u

abbrev pub IsEnough : AlternantForm → ℕ → Type 0
IsEnough form c = (c ≤ form.r) × (c < form.r → length form.points ≤ c)
