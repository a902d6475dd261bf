-- Codes with their checks.
--   checks_of C rows         the matrix of the check rows of a code, over its field and of its length
--   IsChecked C H            H is a parity-check matrix of the code, of such a form
--   IsLed C H coordinates symbols      besides, the table has the first nonzero symbol of each coset leader and its coordinate, at the
--                            number of its syndrome: what a table of leaders keeps
use Rattle.std.specs.Prelude.{◌≡◌, ℕ, List}
use Rattle.lc_algebra.specs.Matrix.{Matrix}
use Rattle.lc_constructions.specs.Coset.{IsParityCheck}
use Rattle.lc_syndrome.specs.Leading.{HasLeaders}
use Rattle.lc_syndrome.specs.Growth.{IsSteps}

abbrev pub checks_of : Matrix → List (List ℕ) → Matrix
checks_of C rows = record { field = C.field; columns = C.columns; rows = rows }

pub record IsChecked (C H : Matrix) : Type 0 where
  pub form : H ≡ checks_of C H.rows
  pub parity : IsParityCheck C H.rows

pub record IsLed (C H : Matrix) (coordinates symbols : List ℕ) : Type 0 where
  pub checked : IsChecked C H
  pub leaders : HasLeaders H
  pub steps : IsSteps H coordinates symbols
