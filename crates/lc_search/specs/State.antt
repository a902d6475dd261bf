-- A search, as contracts see it.
--   SearchState              a code, a budget of blocks, and how far the search is: the blocks done, the weight and the place of
--                            the best word
--   first_state C budget     a search that has done no block
--   answer_in s              what is answered in this state; None if the search goes on
--   after_search_round s longest limit   the state after a round of at most so many blocks
--   whole_plan C             the plan that goes through all information sets of the code
--   answer_of a              an answer of the program, as the definitions write it
--   IsKept C plan budget s levels      what is true of what a search keeps
--   IsRecordOf s done r      the record of a round of so many blocks that ends in this state
use Rattle.std.specs.Prelude.{◌≡◌, ℕ, ◌^◌, ◌≤◌, ◌<◌, List, length, Option, Some}
use Rattle.lc_algebra.specs.Field.{size}
use Rattle.lc_algebra.specs.Matrix.{Matrix}
use Rattle.lc_algebra.specs.Divisor.{divisor_of}
use Rattle.lc_enumeration.specs.Search.{Found, exact, bracket, set_count, levels_below, bound, finished, board_value}
use Rattle.lc_enumeration.specs.Search as search
use Rattle.lc_enumeration.specs.Records.{Progress, found_of, first_progress, round_length, after_round}
use Rattle.lc_place.specs.Place.{PlanSize}
use Rattle.lc_search.specs.declared.answer.Answer.{Answer}
use Rattle.lc_search.specs.declared.answer.Answer.TheVariants.{Exact, Bracket}
use Rattle.lc_search.specs.declared.answer.RoundRecord.{RoundRecord}

pub record SearchState : Type 0 where
  pub code : Matrix
  pub budget : ℕ
  pub progress : Progress

unfoldable pub first_state : Matrix → ℕ → SearchState
first_state C budget = record { code = C; budget = budget; progress = first_progress C }

abbrev pub answer_in : SearchState → Option search.Answer
answer_in s = finished (divisor_of s.code) s.code s.budget s.progress.blocks (found_of s.progress)

unfoldable pub after_search_round : SearchState → ℕ → ℕ → SearchState
after_search_round s longest limit = record { code = s.code; budget = s.budget; progress = after_round s.code s.progress (round_length s.code s.budget longest (Some limit) s.progress.blocks) }

abbrev pub whole_plan : Matrix → PlanSize
whole_plan C = record { k = length C.rows; q = size C.field; m = set_count C }

abbrev pub answer_of : Answer → search.Answer
answer_of (Exact weight place blocks) = exact (record { weight = weight; place = place }) blocks
answer_of (Bracket low weight place blocks) = bracket low (record { weight = weight; place = place }) blocks

pub record IsKept (C : Matrix) (plan : PlanSize) (budget : ℕ) (s : Progress) (levels : List ℕ) : Type 0 where
  pub plan_is : plan ≡ whole_plan C
  pub small : budget ≤ 2 ^ 40
  pub within : s.blocks ≤ budget
  pub light : s.weight ≤ 255
  pub near : s.place < 2 ^ 52
  pub levels_are : levels ≡ levels_below C s.blocks

pub record IsRecordOf (s : SearchState) (done : ℕ) (r : RoundRecord) : Type 0 where
  pub blocks : r.blocks ≡ s.progress.blocks
  pub bound_is : r.bound ≡ bound (divisor_of s.code) s.code s.progress.blocks s.progress.weight
  pub best : r.best ≡ s.progress.weight
  pub done_is : r.done ≡ done
  pub count : r.closed.count ≡ done
  pub claimed : r.closed.claimed ≡ done
  pub value : r.closed.best ≡ board_value (found_of s.progress)
