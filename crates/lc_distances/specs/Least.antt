-- The least of some counts.
--   IsLeastOr n f bound v       v is the least of the bound and the numbers f 0 to f (n - 1)
--   IsLeastPairOr n m f bound v    the same for the numbers f i j, for i below n and j below m
--   IsFirstLeast n f v i        number i is v, all are at least v, and those before it are greater
--   IsFirstBelow n f bound v i      v is the least of the bound and these numbers, and if it is below the bound, i is the first index that has it
--   AreCounted cols ws from n counts      the first n counts are the weights, at some columns, of the words from index from on
--   ArePartCounted cols b ws n m counts      the first n of m counts are the weights of the words at the first b + 1 parts of the columns, and
--                           the others those at the first b parts
use Rattle.std.specs.Prelude.{◌≡◌, ℕ, ◌+◌, ◌*◌, ◌<◌, ◌≤◌, List, [], take, slice_index, slice_index_or}
use Rattle.lc_algebra.specs.Word.{weight}
use Rattle.lc_algebra.specs.SpanLaws.{restrict}

pub record IsLeastOr (n : ℕ) (f : ℕ → ℕ) (bound v : ℕ) : Type 0 where
  pub most : v ≤ bound
  pub low : (i : ℕ) → i < n → v ≤ f i
  pub attained : v < bound → (i : ℕ) × (i < n) × (f i ≡ v)

pub record IsLeastPairOr (n m : ℕ) (f : ℕ → ℕ → ℕ) (bound v : ℕ) : Type 0 where
  pub most : v ≤ bound
  pub low : (i j : ℕ) → i < n → j < m → v ≤ f i j
  pub attained : v < bound → (i : ℕ) × (j : ℕ) × (i < n) × (j < m) × (f i j ≡ v)

pub record IsFirstLeast (n : ℕ) (f : ℕ → ℕ) (v i : ℕ) : Type 0 where
  pub inside : i < n
  pub is : f i ≡ v
  pub low : (j : ℕ) → j < n → v ≤ f j
  pub first : (j : ℕ) → j < i → v < f j

pub record IsFirstBelow (n : ℕ) (f : ℕ → ℕ) (bound v i : ℕ) : Type 0 where
  pub most : v ≤ bound
  pub inside : i ≤ n
  pub low : (j : ℕ) → j < n → v ≤ f j
  pub is : v < bound → (i < n) × (f i ≡ v)
  pub first : v < bound → (j : ℕ) → j < i → v < f j

abbrev pub AreCounted : List ℕ → List (List ℕ) → ℕ → ℕ → List ℕ → Type 0
AreCounted cols ws from n counts = (i : ℕ) → i < n → slice_index counts i ≡ weight (restrict cols (slice_index_or ws (from + i) []))

pub record ArePartCounted (cols : List ℕ) (b : ℕ) (ws : List (List ℕ)) (n m : ℕ) (counts : List ℕ) : Type 0 where
  pub done : (i : ℕ) → i < n → slice_index counts i ≡ weight (restrict (take (64 * (b + 1)) cols) (slice_index_or ws i []))
  pub left : (i : ℕ) → n ≤ i → i < m → slice_index counts i ≡ weight (restrict (take (64 * b) cols) (slice_index_or ws i []))
