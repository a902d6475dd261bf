-- Rows that stand one after another in one list of symbols.
--   rows_of n k s         the first k rows of n symbols in s
--   IsFlat f n k s        s holds k rows of n symbols, each an element of the field
use Rattle.std.specs.Prelude.{◌≡◌, ℕ, zero, suc, ◌*◌, List, [], ◌∷◌, length, take, drop}
use Rattle.lc_algebra.specs.declared.FieldName.{FieldName}
use Rattle.lc_algebra.specs.Word.{Fits}

unfoldable pub rows_of : ℕ → ℕ → List ℕ → List (List ℕ)
rows_of n zero s = []
rows_of n (suc k) s = take n s ∷ rows_of n k (drop n s)

pub record IsFlat (f : FieldName) (n k : ℕ) (s : List ℕ) : Type 0 where
  pub long : length s ≡ k * n
  pub fits : Fits f s
