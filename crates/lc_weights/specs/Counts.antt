-- Counts of words by their weights, as workers keep them.
--   apart_count P N h xs j          how many of the words xs differ from the word h at j places, all of them given as bits
--   block_count P N hs xs b j       how many of the words xs differ from word b of hs at j places
--   IsTallied P N h xs n before after      each count grew by the number of those of the first n words that differ from h at as many
--                                   places as its index
--   IsRoomOf P N m room             a room for counting m words at once, at most 4,096, given as P planes of N parts: it has a count for each
--                                   weight up to 64 N
--   words_counted j rooms           how many words of weight j these rooms have counted, together
--   AreCounts C first rooms         these counts and the rooms have counted the words of C, those in the rooms for all their nonzero
--                                   multiples; all have a count for each weight up to the length
use Rattle.std.specs.Prelude.{◌≡◌, ℕ, ◌+◌, ◌-◌, ◌*◌, ◌<◌, ◌≤◌, ◌==◌, List, [], length, take, slice_index, slice_index_or, All, sum_by, count_by}
use Rattle.lc_algebra.specs.Field.{size}
use Rattle.lc_algebra.specs.Matrix.{Matrix}
use Rattle.lc_enumeration.specs.Distribution.{count_of_weight}
use Rattle.lc_weights.specs.declared.blocks.CountRoom.{CountRoom}
use Rattle.lc_planes.specs.Packing.{places_apart}

abbrev pub apart_count : ℕ → ℕ → List (List ℕ) → List (List (List ℕ)) → ℕ → ℕ
apart_count P N h xs j = count_by (λ x. places_apart P N h x == j) xs

abbrev pub block_count : ℕ → ℕ → List (List (List ℕ)) → List (List (List ℕ)) → ℕ → ℕ → ℕ
block_count P N hs xs b j = apart_count P N (slice_index_or hs b []) xs j

pub record IsTallied (P N : ℕ) (h : List (List ℕ)) (xs : List (List (List ℕ))) (n : ℕ) (before after : List ℕ) : Type 0 where
  pub long : length after ≡ length before
  pub sum : (j : ℕ) → slice_index after j ≡ slice_index before j + apart_count P N h (take n xs) j

pub record IsRoomOf (P N m : ℕ) (room : CountRoom) : Type 0 where
  pub planes : P ≤ 4
  pub parts : N ≤ 4
  pub few : m ≤ 4096
  pub long : length room.counts.items ≡ 64 * N + 1

abbrev pub words_counted : ℕ → List CountRoom → ℕ
words_counted j rooms = sum_by (λ room. slice_index room.counts.items j) rooms

pub record AreCounts (C : Matrix) (first : List ℕ) (rooms : List CountRoom) : Type 0 where
  pub some : C.columns < length first
  pub long : All (λ (room : CountRoom). C.columns < length room.counts.items) rooms
  pub sum : (j : ℕ) → count_of_weight C.field C.columns C.rows j ≡ slice_index first j + (size C.field - 1) * words_counted j rooms
