-- The kernel of rows that are reduced from the right.
--   IsReducedBack n ps rows          row i has its last nonzero symbol, a 1, at column p_i, and is alone there; the rows after these are 0
--   IsFree n ps j free               the columns below j that are none of the places, rising
--   IsKernelWord f n ps rows j i w   w is 1 at the free column j, has at each of the first i places the negative of the row's symbol
--                                    at j, and is 0 elsewhere
--   AreKernelWords f n ps rows free i kernel      the first i of the free columns have these words
use Rattle.std.specs.Prelude.{◌≡◌, ◌≢◌, ℕ, ◌<◌, ◌≤◌, ◌⊎◌, List, length, slice_index, slice_index_or, []}
use Rattle.lc_algebra.specs.declared.FieldName.{FieldName}
use Rattle.lc_algebra.specs.Field.{neg}
use Rattle.lc_algebra.specs.Word.{IsWord}
use Rattle.lc_algebra.specs.Matrix.{entry}

pub record IsReducedBack (n : ℕ) (ps : List ℕ) (rows : List (List ℕ)) : Type 0 where
  pub at_most : length ps ≤ length rows
  pub inside : (i : ℕ) → i < length ps → slice_index ps i < n
  pub after : (i c : ℕ) → i < length ps → slice_index ps i < c → c < n → entry rows i c ≡ 0
  pub leads : (i : ℕ) → i < length ps → entry rows i (slice_index ps i) ≡ 1
  pub clears : (i j : ℕ) → i < length ps → j < length rows → i ≢ j → entry rows j (slice_index ps i) ≡ 0
  pub below : (j c : ℕ) → length ps ≤ j → j < length rows → c < n → entry rows j c ≡ 0

pub record IsFree (ps : List ℕ) (j : ℕ) (free : List ℕ) : Type 0 where
  pub at_most : length free ≤ j
  pub inside : (i : ℕ) → i < length free → slice_index free i < j
  pub rises : (i k : ℕ) → i < k → k < length free → slice_index free i < slice_index free k
  pub apart : (i k : ℕ) → i < length free → k < length ps → slice_index ps k ≢ slice_index free i
  pub whole : (c : ℕ) → c < j → ((k : ℕ) × (k < length ps) × (slice_index ps k ≡ c)) ⊎ ((i : ℕ) × (i < length free) × (slice_index free i ≡ c))

pub record IsKernelWord (f : FieldName) (n : ℕ) (ps : List ℕ) (rows : List (List ℕ)) (j i : ℕ) (w : List ℕ) : Type 0 where
  pub word : IsWord f n w
  pub one : slice_index w j ≡ 1
  pub places : (k : ℕ) → k < i → slice_index w (slice_index ps k) ≡ neg f (entry rows k j)
  pub others : (c : ℕ) → c ≢ j → ((k : ℕ) → k < length ps → slice_index ps k ≢ c) → slice_index w c ≡ 0

pub record AreKernelWords (f : FieldName) (n : ℕ) (ps : List ℕ) (rows : List (List ℕ)) (free : List ℕ) (i : ℕ) (kernel : List (List ℕ)) : Type 0 where
  pub count : length kernel ≡ i
  pub words : (k : ℕ) → k < i → IsKernelWord f n ps rows (slice_index free k) (length ps) (slice_index_or kernel k [])
