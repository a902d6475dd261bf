-- Words that the laws of rows are stated in: steps on rows that keep their words, and the symbols on a set of columns.
--   AddsMultiples f r rows others     the others are the rows, each but row r with some multiple of row r added
--   ScalesRows f rows others          each of the others is a nonzero multiple of the row
--   restrict set w                    the symbols of w at the columns of the set, in its order
use Rattle.std.specs.Prelude.{◌≡◌, ◌≢◌, ℕ, ◌<◌, List, [], length, map, slice_index, slice_index_or}
use Rattle.lc_algebra.specs.declared.FieldName.{FieldName}
use Rattle.lc_algebra.specs.Field.{size}
use Rattle.lc_algebra.specs.Word.{word_sum, scale}

pub record AddsMultiples (f : FieldName) (r : ℕ) (rows others : List (List ℕ)) : Type 0 where
  pub count : length others ≡ length rows
  pub kept : slice_index_or others r [] ≡ slice_index_or rows r []
  pub added : (i : ℕ) → i < length rows → i ≢ r → (c : ℕ) × (slice_index_or others i [] ≡ word_sum f (slice_index_or rows i []) (scale f c (slice_index_or rows r [])))

pub record ScalesRows (f : FieldName) (rows others : List (List ℕ)) : Type 0 where
  pub count : length others ≡ length rows
  pub scaled : (i : ℕ) → i < length rows → (c : ℕ) × (c < size f) × (0 < c) × (slice_index_or others i [] ≡ scale f c (slice_index_or rows i []))

abbrev pub restrict : List ℕ → List ℕ → List ℕ
restrict set w = map (λ p. slice_index w p) set
