-- What the kernel works on.
--   IsPlanOf plan C       a plan for the code C: of its dimension and its field, and of at least one and at most all of its sets
--   StackState            a stack: the code that it was made for, a spot, and the sums of the fronts of the spot's message
--   IsStackAt C m s       a stack that is at a message of a plan with m sets, with all its sums
--   top_sum s             the last of its sums: the word of the message
use Rattle.std.specs.Prelude.{◌≡◌, ℕ, ◌-◌, ◌<◌, ◌≤◌, List, [], length, slice_index_or, Contains}
use Rattle.lc_algebra.specs.Field.{size}
use Rattle.lc_algebra.specs.Matrix.{Matrix}
use Rattle.lc_enumeration.specs.Message.{messages}
use Rattle.lc_enumeration.specs.Search.{set_count, partial_words}
use Rattle.lc_place.specs.Place.{PlanSize, SpotState, spot_message}

pub record IsPlanOf (plan : PlanSize) (C : Matrix) : Type 0 where
  pub dimension : plan.k ≡ length C.rows
  pub field : plan.q ≡ size C.field
  pub some : 1 ≤ plan.m
  pub sets : plan.m ≤ set_count C

pub record StackState : Type 0 where
  pub code : Matrix
  pub spot : SpotState
  pub sums : List (List ℕ)

pub record IsStackAt (C : Matrix) (m : ℕ) (s : StackState) : Type 0 where
  pub code : s.code ≡ C
  pub set : s.spot.set < m
  pub message : Contains (messages (length C.rows) (size C.field) (length s.spot.support)) (spot_message s.spot)
  pub level : 0 < length s.spot.support
  pub sums : s.sums ≡ partial_words C m s.spot.set (spot_message s.spot)

abbrev pub top_sum : StackState → List ℕ
top_sum s = slice_index_or s.sums (length s.sums - 1) []
