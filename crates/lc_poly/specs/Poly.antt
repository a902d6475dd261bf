-- What contracts see of a polynomial that knows its field (MacWilliams and Sloane, chapter 4).
--   Polynomial          the field's name and the coefficients, from the constant upwards
use Rattle.std.specs.Prelude.{ℕ, List}
use Rattle.lc_algebra.specs.declared.FieldName.{FieldName}

pub record Polynomial : Type 0 where
  pub field : FieldName
  pub coefficients : List ℕ
