-- What a Goppa code is made from.
--   IsGoppaInput f K g points      the polynomial g and the points give a Goppa code: coefficients and points are elements of K, the
--                                  degree is at least 1, g is 0 at no point, and the form of the code is one
use Rattle.std.specs.Prelude.{ℕ, ◌<◌, ◌≤◌, List, length, slice_index}
use Rattle.lc_algebra.specs.declared.FieldName.{FieldName}
use Rattle.lc_algebra.specs.Polynomial.{value_at, trimmed}
use Rattle.lc_algebra.specs.Word.{Fits}
use Rattle.lc_constructions.specs.Alternant.{IsForm, goppa_form}

pub record IsGoppaInput (f K : FieldName) (g points : List ℕ) : Type 0 where
  pub coefficients : Fits K g
  pub elements : Fits K points
  pub degree : 2 ≤ length (trimmed g)
  pub nonzero : (i : ℕ) → i < length points → 0 < value_at K g (slice_index points i)
  pub form : IsForm f (goppa_form K (trimmed g) points)
