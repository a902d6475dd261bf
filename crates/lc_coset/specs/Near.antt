-- What a search for a nearest word walks through. C is a code with k rows, and x the given word.
--   near_left C x j           what is left of x by the word of C that equals it on the basis of set j
--   AreLefts C x ls           the list has that of each set
--   walk_plan C               a plan of the messages of length k + 1: an error pattern of level w is a message of level w + 1 without its
--                             first place, which is 0 with coefficient 1
--   walk_matrix C left j      the rows that a walk adds up: `left`, and then the generator matrix of set j
--   front_sum M s i           the word of the first i entries of the message of a spot, over the rows of M
--   AreLong n ws              the words have n symbols each
--   IsWalk M s n ws           k + 2 words, of which the first n + 1 are those of the fronts of a spot's message
--   IsRoomOf C r              a room for C: k + 2 words of its length, of which the first is 0, and a spot with room for k + 1 places
--   IsAtRank C left j w rank r      the room is at pattern number `rank` of level w, with the words of its fronts
--   near_value C x b          the value of block b on the board: that of its least pair of a distance and a place
use Rattle.std.specs.Prelude.{◌≡◌, ℕ, suc, ◌+◌, ◌<◌, ◌≤◌, List, [], ◌∷◌, length, take, slice_get, slice_index_or, Some, option_map, unwrap_or}
use Rattle.lc_algebra.specs.Field.{size}
use Rattle.lc_algebra.specs.Word.{zero_word, difference}
use Rattle.lc_algebra.specs.Span.{combine}
use Rattle.lc_algebra.specs.Matrix.{Matrix}
use Rattle.lc_enumeration.specs.Message.{messages, vector_from}
use Rattle.lc_enumeration.specs.Search.{set_count, generator_at, least_in, board_value}
use Rattle.lc_enumeration.specs.NearWord.{coset_word, near_in_block}
use Rattle.lc_place.specs.Place.{PlanSize, SpotState, spot_message}
use Rattle.lc_coset.specs.declared.walk.Room.{Room}

abbrev pub near_left : Matrix → List ℕ → ℕ → List ℕ
near_left C x j = difference C.field x (coset_word C x j (record { support = []; coefficients = [] }))

pub record AreLefts (C : Matrix) (x : List ℕ) (ls : List (List ℕ)) : Type 0 where
  pub many : length ls ≡ set_count C
  pub are : (j : ℕ) → j < set_count C → slice_index_or ls j [] ≡ near_left C x j

abbrev pub walk_plan : Matrix → PlanSize
walk_plan C = record { k = suc (length C.rows); q = size C.field; m = 1 }

abbrev pub walk_matrix : Matrix → List ℕ → ℕ → Matrix
walk_matrix C left j = record { field = C.field; columns = C.columns; rows = left ∷ generator_at C j }

abbrev pub front_sum : Matrix → SpotState → ℕ → List ℕ
front_sum M s i = combine M.field M.columns (vector_from 0 (length M.rows) (take i s.support) (take i s.coefficients)) M.rows

abbrev pub AreLong : ℕ → List (List ℕ) → Type 0
AreLong n ws = (t : ℕ) → t < length ws → length (slice_index_or ws t []) ≡ n

pub record IsWalk (M : Matrix) (s : SpotState) (n : ℕ) (ws : List (List ℕ)) : Type 0 where
  pub many : length ws ≡ suc (length M.rows)
  pub long : AreLong M.columns ws
  pub fronts : (t : ℕ) → t ≤ n → slice_index_or ws t [] ≡ front_sum M s t

pub record IsRoomOf (C : Matrix) (r : Room) : Type 0 where
  pub many : length r.sums.items ≡ length C.rows + 2
  pub long : AreLong C.columns r.sums.items
  pub first : slice_index_or r.sums.items 0 [] ≡ zero_word C.columns
  pub places : r.spot.room ≡ length C.rows + 1

pub record IsAtRank (C : Matrix) (left : List ℕ) (j w rank : ℕ) (r : Room) : Type 0 where
  pub message : slice_get (messages (suc (length C.rows)) (size C.field) (suc w)) rank ≡ Some (spot_message r.spot)
  pub level : length r.spot.support ≡ suc w
  pub walk : IsWalk (walk_matrix C left j) r.spot (suc w) r.sums.items
  pub places : r.spot.room ≡ length C.rows + 1

unfoldable pub near_value : Matrix → List ℕ → ℕ → ℕ
near_value C x b = unwrap_or (option_map board_value (least_in (near_in_block C x b))) 0
