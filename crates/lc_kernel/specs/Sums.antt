-- The sums that a stack keeps: the zero word, and then the words of the fronts of its message.
--   front_word C s n      the word of the first n entries of the message of a spot
--   AreFronts C s n ws    word i of the list is that of the first i entries, up to i = n
--   IsRoom C s ws         k + 1 words of the code's length, the first of them 0, and a spot with room for k
--   sums_of n ws          the n words after the first
--   multiple_at C index   the multiple at an index: set by set, row by row, by the nonzero elements in their order
--   multiple_index C j i c      the index of the multiple by c + 1 of row i of set j
--   AreMultiples C ws     the list of all of them
use Rattle.std.specs.Prelude.{◌≡◌, ℕ, ◌+◌, ◌-◌, ◌*◌, ◌/◌, ◌%◌, ◌<◌, ◌≤◌, List, [], length, take, drop, slice_index_or}
use Rattle.lc_algebra.specs.Field.{size}
use Rattle.lc_algebra.specs.Word.{IsWord, zero_word, scale}
use Rattle.lc_algebra.specs.Span.{combine}
use Rattle.lc_algebra.specs.Matrix.{Matrix}
use Rattle.lc_enumeration.specs.Message.{vector_of}
use Rattle.lc_enumeration.specs.Search.{set_count, front_of, generator_at}
use Rattle.lc_place.specs.Place.{SpotState, spot_message}

unfoldable pub front_word : Matrix → SpotState → ℕ → List ℕ
front_word C s n = combine C.field C.columns (vector_of (length C.rows) (front_of (spot_message s) n)) (generator_at C s.set)

abbrev pub AreFronts : Matrix → SpotState → ℕ → List (List ℕ) → Type 0
AreFronts C s n ws = (i : ℕ) → i ≤ n → slice_index_or ws i [] ≡ front_word C s i

pub record IsRoom (C : Matrix) (s : SpotState) (ws : List (List ℕ)) : Type 0 where
  pub many : length ws ≡ length C.rows + 1
  pub words : (i : ℕ) → i < length ws → IsWord C.field C.columns (slice_index_or ws i [])
  pub first : slice_index_or ws 0 [] ≡ zero_word C.columns
  pub room : s.room ≡ length C.rows

unfoldable pub sums_of : ℕ → List (List ℕ) → List (List ℕ)
sums_of n ws = take n (drop 1 ws)

abbrev pub multiple_at : Matrix → ℕ → List ℕ
multiple_at C index = scale C.field (index % (size C.field - 1) + 1) (slice_index_or (generator_at C (index / (size C.field - 1) / length C.rows)) (index / (size C.field - 1) % length C.rows) [])

abbrev pub multiple_index : Matrix → ℕ → ℕ → ℕ → ℕ
multiple_index C j i c = (j * length C.rows + i) * (size C.field - 1) + c

pub record AreMultiples (C : Matrix) (ws : List (List ℕ)) : Type 0 where
  pub inside : (j i c : ℕ) → j < set_count C → i < length C.rows → c + 1 < size C.field → multiple_index C j i c < length ws
  pub is : (j i c : ℕ) → j < set_count C → i < length C.rows → c + 1 < size C.field → slice_index_or ws (multiple_index C j i c) [] ≡ scale C.field (c + 1) (slice_index_or (generator_at C j) i [])
  pub words : (t : ℕ) → t < length ws → IsWord C.field C.columns (slice_index_or ws t [])
