-- The least value on the board of the words of a block.
--   value_at place ws i            the value of word i of a list that begins at a place: its weight times 2^52 plus its place
--   IsLeastValue place ws n v      v is the least value of the first n of these words
--   IsMessageOf C m b n s p        the spot is at message n of block b, in phase p
--   IsSpotAt C m b n s             the spot is at message n of block b
--   IsAtOffset C m b n s           the stack is at message n of block b, with all its sums
use Rattle.std.specs.Prelude.{◌≡◌, ℕ, ◌+◌, ◌-◌, ◌*◌, ◌^◌, ◌<◌, ◌≤◌, List, [], Some, length, slice_get, slice_index_or, Contains}
use Rattle.lc_algebra.specs.Field.{size}
use Rattle.lc_algebra.specs.Word.{weight}
use Rattle.lc_algebra.specs.Matrix.{Matrix}
use Rattle.lc_enumeration.specs.Message.{messages}
use Rattle.lc_enumeration.specs.Plan.{phase_level, phase_set, blocks_before, IsInPhase}
use Rattle.lc_place.specs.Place.{SpotState, spot_message}
use Rattle.lc_kernel.specs.Kernel.{StackState, IsStackAt}

abbrev pub value_at : ℕ → List (List ℕ) → ℕ → ℕ
value_at place ws i = weight (slice_index_or ws i []) * 2 ^ 52 + (place + i)

pub record IsLeastValue (place : ℕ) (ws : List (List ℕ)) (n v : ℕ) : Type 0 where
  pub low : (i : ℕ) → i < n → v ≤ value_at place ws i
  pub attained : (i : ℕ) × (i < n) × (v ≡ value_at place ws i)

pub record IsMessageOf (C : Matrix) (m b n : ℕ) (s : SpotState) (p : ℕ) : Type 0 where
  pub message : slice_get (messages (length C.rows) (size C.field) (phase_level m p)) (4096 * (b - blocks_before (length C.rows) (size C.field) m p) + n) ≡ Some (spot_message s)
  pub level : length s.support ≡ phase_level m p
  pub set : s.set ≡ phase_set m p

pub record IsAtOffset (C : Matrix) (m b n : ℕ) (s : StackState) : Type 0 where
  pub at : IsStackAt C m s
  pub of_block : (p : ℕ) → IsInPhase (length C.rows) (size C.field) m p b → IsMessageOf C m b n s.spot p

pub record IsSpotAt (C : Matrix) (m b n : ℕ) (s : SpotState) : Type 0 where
  pub set : s.set < m
  pub level : 0 < length s.support
  pub message : Contains (messages (length C.rows) (size C.field) (length s.support)) (spot_message s)
  pub of_block : (p : ℕ) → IsInPhase (length C.rows) (size C.field) m p b → IsMessageOf C m b n s p
