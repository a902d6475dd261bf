-- The codes of a script.
--   IsCodeOfRows C       C is a code over a symbol field, of length at most 255, given by its reduced generator matrix
use Rattle.std.specs.Prelude.{◌≡◌, ◌≤◌, true}
use Rattle.lc_algebra.specs.Field.{is_symbol}
use Rattle.lc_algebra.specs.Matrix.{Matrix, AreRows, IsReduced}
use Rattle.lc_constructions.specs.Code.{longest}

pub record IsCodeOfRows (C : Matrix) : Type 0 where
  pub symbol : is_symbol C.field ≡ true
  pub long : C.columns ≤ longest
  pub rows : AreRows C.field C.columns C.rows
  pub reduced : IsReduced C.columns C.rows
