-- Words as bits: plane p of part i of a word has bit p of the number of each symbol at the columns 64 i to 64 i + 63, as far as there
-- are such columns.
--   IsPacked P N w x         the first P planes of the first N parts of a word
--   ArePacked P N ws xs      those of each of some words
--   planes_apart P x y       the bits at which one of the first P planes of two parts differs
--   places_apart P N x y     at how many places two words differ, by the first P planes of their first N parts
use Rattle.std.specs.Prelude.{◌≡◌, ℕ, zero, suc, ◌+◌, ◌<◌, List, [], length, slice_index, slice_index_or, bit_or, bit_xor, count_ones}
use Rattle.lc_algebra.specs.Span.{below}
use Rattle.lc_planes.specs.Planes.{part_at, plane_at}

pub record IsPacked (P N : ℕ) (w : List ℕ) (x : List (List ℕ)) : Type 0 where
  pub plane : (i p : ℕ) → i < N → p < P → slice_index (slice_index_or x i []) p ≡ plane_at p (part_at (below (length w)) i) w

pub record ArePacked (P N : ℕ) (ws : List (List ℕ)) (xs : List (List (List ℕ))) : Type 0 where
  pub many : length xs ≡ length ws
  pub each : (e : ℕ) → e < length ws → IsPacked P N (slice_index_or ws e []) (slice_index_or xs e [])

abbrev pub planes_apart : ℕ → List ℕ → List ℕ → ℕ
planes_apart zero x y = 0
planes_apart (suc p) x y = bit_or (bit_xor (slice_index x p) (slice_index y p)) (planes_apart p x y)

abbrev pub places_apart : ℕ → ℕ → List (List ℕ) → List (List ℕ) → ℕ
places_apart P zero x y = 0
places_apart P (suc i) x y = places_apart P i x y + count_ones (planes_apart P (slice_index_or x i []) (slice_index_or y i []))
