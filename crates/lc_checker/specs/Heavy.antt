-- Sums of rows that aren't lighter than a distance.
--   AreHeavy d C a i m        no sum of the word a and nonzero multiples of 1 to m rows, all from row i on, is lighter than d
--   AreAllHeavy d C a i      no sum of the word a and a word that the rows from row i on span is lighter than d and not zero
--   is_few d n               whether a number is below d, and not 0
--   AreMultiples C ms         the rows are words, and ms has the multiples of each by 1, 2, .., row by row
use Rattle.std.specs.Prelude.{◌≡◌, ℕ, ◌+◌, ◌-◌, ◌*◌, ◌/◌, ◌%◌, ◌<◌, ◌≤◌, Bool, ◌&&◌, nat_lt, drop, false, List, [], length, slice_index_or, Contains}
use Rattle.lc_algebra.specs.Field.{size}
use Rattle.lc_algebra.specs.Word.{word_sum, scale}
use Rattle.lc_algebra.specs.Span.{InSpan}
use Rattle.lc_algebra.specs.Matrix.{Matrix, AreRows}
use Rattle.lc_enumeration.specs.Message.{supports_from}
use Rattle.lc_formats.specs.Certificate.{is_lighter}
use Rattle.lc_checker.specs.Walk.{row_of, words_along}

abbrev pub AreHeavy : ℕ → Matrix → List ℕ → ℕ → ℕ → Type 0
AreHeavy d C a i m = (j : ℕ) (s w : List ℕ) → 0 < j → j ≤ m → Contains (supports_from i (length C.rows - i) j) s → Contains (words_along C.field C.rows a s) w → is_lighter d w ≡ false

abbrev pub AreAllHeavy : ℕ → Matrix → List ℕ → ℕ → Type 0
AreAllHeavy d C a i = (v : List ℕ) → InSpan C.field C.columns (drop i C.rows) v → is_lighter d (word_sum C.field a v) ≡ false

abbrev pub is_few : ℕ → ℕ → Bool
is_few d n = nat_lt 0 n && nat_lt n d

pub record AreMultiples (C : Matrix) (ms : List (List ℕ)) : Type 0 where
  pub words : AreRows C.field C.columns C.rows
  pub many : length ms ≡ length C.rows * (size C.field - 1)
  pub entry : (t : ℕ) → t < length ms → slice_index_or ms t [] ≡ scale C.field (t % (size C.field - 1) + 1) (row_of C.rows (t / (size C.field - 1)))
