-- What is true of the matrix that a code keeps, and how a word is tried against it.
--   IsKept C                  over a symbol field, 1 to 255 columns (longest), reduced rows that are words
--   IsCleared C i old new     new is old less the multiple of row i that leaves 0 where the row begins
--   IsTried C i word rest     a word of the code, or none, as the word is, and 0 where each row before row i begins
use Rattle.std.specs.Prelude.{◌≡◌, ℕ, ◌<◌, ◌≤◌, ◌↔◌, List, [], IsTrue, slice_index, slice_index_or, Some}
use Rattle.lc_algebra.specs.Field.{is_symbol, neg}
use Rattle.lc_algebra.specs.Word.{IsWord, word_sum, scale, first_nonzero}
use Rattle.lc_algebra.specs.Matrix.{Matrix, AreRows, IsReduced}
use Rattle.lc_constructions.specs.Code.{longest, InCode}

pub record IsKept (C : Matrix) : Type 0 where
  pub symbol : IsTrue (is_symbol C.field)
  pub least : 1 ≤ C.columns
  pub most : C.columns ≤ longest
  pub reduced : IsReduced C.columns C.rows
  pub words : AreRows C.field C.columns C.rows

abbrev pub IsCleared : Matrix → ℕ → List ℕ → List ℕ → Type 0
IsCleared C i old new = (p : ℕ) → first_nonzero (slice_index_or C.rows i []) ≡ Some p → new ≡ word_sum C.field old (scale C.field (neg C.field (slice_index old p)) (slice_index_or C.rows i []))

pub record IsTried (C : Matrix) (i : ℕ) (word rest : List ℕ) : Type 0 where
  pub fits : IsWord C.field C.columns rest
  pub same : InCode C word ↔ InCode C rest
  pub clear : (j p : ℕ) → j < i → first_nonzero (slice_index_or C.rows j []) ≡ Some p → slice_index rest p ≡ 0
