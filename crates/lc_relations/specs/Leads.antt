-- The symbols of a word where the rows of a matrix begin, and sums of some of its rows; the clauses of private functions alone speak of these.
--   leading_symbol w row         the symbol of w at the first coordinate at which the row isn't 0; 0 if the row is zero
--   leading_symbols rows w       this symbol for each row
--   IsSumFrom C j u w            w is the sum of u_i times row i of C over the rows from row j on
use Rattle.std.specs.Prelude.{◌≡◌, ℕ, List, map, drop, slice_index, Option, Some, None}
use Rattle.lc_algebra.specs.Word.{IsWord, first_nonzero}
use Rattle.lc_algebra.specs.Span.{combine}
use Rattle.lc_algebra.specs.Matrix.{Matrix}

abbrev pub symbol_at : List ℕ → Option ℕ → ℕ
symbol_at w None = 0
symbol_at w (Some p) = slice_index w p

abbrev pub leading_symbol : List ℕ → List ℕ → ℕ
leading_symbol w row = symbol_at w (first_nonzero row)

unfoldable pub leading_symbols : List (List ℕ) → List ℕ → List ℕ
leading_symbols rows w = map (leading_symbol w) rows

pub record IsSumFrom (C : Matrix) (j : ℕ) (u w : List ℕ) : Type 0 where
  pub word : IsWord C.field C.columns w
  pub is : w ≡ combine C.field C.columns (drop j u) (drop j C.rows)
