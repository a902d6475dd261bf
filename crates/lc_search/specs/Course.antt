-- The course of a search over its rounds.
--   IsTrueState s            the state's word is the best after its blocks, which are no more than the answer's
--   IsReached s t            t is the state after some rounds from s, each of a longest round and a limit of at least 1, none
--                            after an answer
use Rattle.std.specs.Prelude.{◌≡◌, ℕ, ◌≤◌, None}
use Rattle.lc_algebra.specs.Divisor.{divisor_of}
use Rattle.lc_enumeration.specs.Truth.{IsUnderway}
use Rattle.lc_search.specs.State.{SearchState, answer_in, after_search_round}

abbrev pub IsTrueState : SearchState → Type 0
IsTrueState s = IsUnderway (divisor_of s.code) s.code s.budget s.progress

pub data IsReached : SearchState → SearchState → Type 0 where
  no_round : (s : SearchState) → IsReached s s
  one_round : (s t : SearchState) (longest limit : ℕ) → 1 ≤ longest → 1 ≤ limit → answer_in s ≡ None → IsReached (after_search_round s longest limit) t → IsReached s t
