-- The equations that the known symbols of a word make for the messages of a code; the clauses of private functions alone speak of them.
--   IsKnown x erased c w                    w has the symbols of x at the coordinates below c that aren't erased
--   IsSystem C x erased c columns symbols   the solutions are the messages of such codewords
use Rattle.std.specs.Prelude.{◌≡◌, ℕ, ◌<◌, ◌↔◌, List, length, slice_index, Contains}
use Rattle.lc_algebra.specs.Word.{IsWord}
use Rattle.lc_algebra.specs.Span.{combine}
use Rattle.lc_algebra.specs.Matrix.{Matrix, AreRows}
use Rattle.lc_matrix.specs.Solve.{Solves}

abbrev pub IsKnown : List ℕ → List ℕ → ℕ → List ℕ → Type 0
IsKnown x erased c w = (i : ℕ) → i < c → ¬ Contains erased i → slice_index w i ≡ slice_index x i

pub record IsSystem (C : Matrix) (x erased : List ℕ) (c : ℕ) (columns : List (List ℕ)) (symbols : List ℕ) : Type 0 where
  pub rows : AreRows C.field (length C.rows) columns
  pub right : IsWord C.field (length columns) symbols
  pub solved : (u : List ℕ) → IsWord C.field (length C.rows) u → Solves C.field columns symbols u ↔ IsKnown x erased c (combine C.field C.columns u C.rows)
