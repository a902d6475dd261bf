-- The alternant form of given points and multipliers (MacWilliams and Sloane, chapter 12).
--   alternant_form K points multipliers r      the form with this locator field, these points and multipliers, and r checks
use Rattle.std.specs.Prelude.{ℕ, List}
use Rattle.lc_algebra.specs.declared.FieldName.{FieldName}
use Rattle.lc_constructions.specs.Alternant.{AlternantForm}

abbrev pub alternant_form : FieldName → List ℕ → List ℕ → ℕ → AlternantForm
alternant_form K points multipliers r = record { locator = K; points = points; multipliers = multipliers; r = r }
