-- Elimination over a list of columns.
--   KeepsWords f n r rows others       the others have the words of the rows, and if all rows from row r on are 0 at a column,
--                                      the others have that column unchanged
--   IsClearedTo f c r j p rows others  the others are the rows, but each of the first j but row r, p, has the multiple of p added that
--                                      makes its symbol at column c a 0
--   IsReducedTo order t at rows        the rows are reduced, where columns are read in the order and only its first t count: row i
--                                      has its first nonzero symbol, a 1, at place at_i of the order; these places rise, and each is
--                                      0 in the other rows; the rows after these are 0 at the first t columns of the order
--   IsInOrder n order                  the columns 0 to n - 1, in their order
--   IsTurned n order                   the columns n - 1 to 0
--   IsRest f n ps rows w i rest        the rest is the word w less multiples of the rows, and is 0 at the first i of the places
use Rattle.std.specs.Prelude.{◌≡◌, ◌≢◌, ℕ, ◌-◌, ◌<◌, ◌≤◌, ◌↔◌, List, length, slice_index, slice_index_or, []}
use Rattle.lc_algebra.specs.declared.FieldName.{FieldName}
use Rattle.lc_algebra.specs.Field.{neg}
use Rattle.lc_algebra.specs.Word.{IsWord, word_sum, scale}
use Rattle.lc_algebra.specs.Span.{InSpan, SameSpan}
use Rattle.lc_algebra.specs.Matrix.{AreRows, entry}

pub record KeepsWords (f : FieldName) (n r : ℕ) (rows others : List (List ℕ)) : Type 0 where
  pub count : length others ≡ length rows
  pub words : AreRows f n others
  pub same : SameSpan f n rows others
  pub kept : (d : ℕ) → ((j : ℕ) → r ≤ j → j < length rows → entry rows j d ≡ 0) → (j : ℕ) → j < length rows → entry others j d ≡ entry rows j d

pub record IsClearedTo (f : FieldName) (c r j : ℕ) (p : List ℕ) (rows others : List (List ℕ)) : Type 0 where
  pub count : length others ≡ length rows
  pub row : slice_index_or others r [] ≡ p
  pub done : (i : ℕ) → i < j → i < length rows → i ≢ r → slice_index_or others i [] ≡ word_sum f (slice_index_or rows i []) (scale f (neg f (entry rows i c)) p)
  pub rest : (i : ℕ) → j ≤ i → slice_index_or others i [] ≡ slice_index_or rows i []

pub record IsReducedTo (order : List ℕ) (t : ℕ) (at : List ℕ) (rows : List (List ℕ)) : Type 0 where
  pub at_most : length at ≤ length rows
  pub inside : (i : ℕ) → i < length at → slice_index at i < t
  pub rises : (i j : ℕ) → i < j → j < length at → slice_index at i < slice_index at j
  pub before : (i s : ℕ) → i < length at → s < slice_index at i → entry rows i (slice_index order s) ≡ 0
  pub leads : (i : ℕ) → i < length at → entry rows i (slice_index order (slice_index at i)) ≡ 1
  pub clears : (i j : ℕ) → i < length at → j < length rows → i ≢ j → entry rows j (slice_index order (slice_index at i)) ≡ 0
  pub below : (j s : ℕ) → length at ≤ j → j < length rows → s < t → entry rows j (slice_index order s) ≡ 0

pub record IsInOrder (n : ℕ) (order : List ℕ) : Type 0 where
  pub count : length order ≡ n
  pub entries : (c : ℕ) → c < n → slice_index order c ≡ c

pub record IsTurned (n : ℕ) (order : List ℕ) : Type 0 where
  pub count : length order ≡ n
  pub entries : (c : ℕ) → c < n → slice_index order c ≡ n - 1 - c

pub record IsRest (f : FieldName) (n : ℕ) (ps : List ℕ) (rows : List (List ℕ)) (w : List ℕ) (i : ℕ) (rest : List ℕ) : Type 0 where
  pub word : IsWord f n rest
  pub same : InSpan f n rows w ↔ InSpan f n rows rest
  pub zeros : (j : ℕ) → j < i → slice_index rest (slice_index ps j) ≡ 0
