-- What the watchers of a session hear: a record after each round; and what a session keeps of each round. The needs of a
-- session are the codes of its queries, in order. A need's number is its index among them.
--   Note                              the number of the need (the query), the blocks done, the bound and the least weight
--   Progress                          how far the search of a need is: the blocks done, the weight and the place of the best word
--   first_progress C                  no blocks, and the word at place 0
--   end_of_phase C l                  the end of the phase that block l belongs to, and l if there is none
--   round_length C budget longest slice l      how many blocks a round at l does: at most the longest, and no more than are
--                                     left of the phase, of the budget and of the slice
--   default_round                     the longest round that a session has which asks for no other
--   after_round C state count         the state after so many blocks more
--   note_of d C need state            the record of a state
--   Rounds                            the states after some rounds, what is then left of the slice, and whether the slice
--                                     stopped the search: it is used up, and a further round would follow
--   rounds d C budget longest slice state      the rounds of one search from a state on; d divides all weights of the code
--   last_state state states           the last of some states, and the one before them if there is none
--   Start                             where a session starts: the needs that are settled, and the progress of the one after
--                                     them; None if its search begins
--   fresh_start                       nothing is settled, and nothing is begun
--   SessionStep                       a record, and what the checkpoint after it keeps: the settled needs and the progress
--   SessionRounds                     the steps of a session, what is settled at its end, what is left of the slice, and whether
--                                     the slice stopped it
--   session_rounds divisor needs budget longest slice start      the session from a start on; divisor is what divides the
--                                     weights of a need's code
--   records divisor needs budget longest slice start      its records
--   IsBestAt C state                  the state's word is the best after its blocks
use Rattle.std.specs.Prelude.{◌≡◌, ℕ, zero, suc, ◌+◌, ◌-◌, min, Bool, true, false, cond, nat_lt, List, [], ◌∷◌, ◌++◌, length, map, drop, find, unwrap_or, Option, Some, None, option_map}
use Rattle.lc_algebra.specs.Field.{size}
use Rattle.lc_algebra.specs.Matrix.{Matrix}
use Rattle.lc_enumeration.specs.Plan.{plan_phases}
use Rattle.lc_enumeration.specs.Search.{Found, set_count, found_first, found_from, least_of, best, bound, finished}

pub record Note : Type 0 where
  pub need : ℕ
  pub blocks : ℕ
  pub bound : ℕ
  pub best : ℕ

pub record Progress : Type 0 where
  pub blocks : ℕ
  pub weight : ℕ
  pub place : ℕ

unfoldable pub found_of : Progress → Found
found_of s = record { weight = s.weight; place = s.place }

unfoldable pub progress_of : ℕ → Found → Progress
progress_of l found = record { blocks = l; weight = found.weight; place = found.place }

unfoldable pub first_progress : Matrix → Progress
first_progress C = progress_of 0 (found_first C (set_count C))

unfoldable pub end_of_phase : Matrix → ℕ → ℕ
end_of_phase C l = unwrap_or (find (nat_lt l) (map (λ p. p.end) (plan_phases (length C.rows) (size C.field) (set_count C)))) l

unfoldable pub within_slice : Option ℕ → ℕ → ℕ
within_slice None count = count
within_slice (Some left) count = min left count

unfoldable pub default_round : ℕ
default_round = 256

unfoldable pub round_length : Matrix → ℕ → ℕ → Option ℕ → ℕ → ℕ
round_length C budget longest slice l = within_slice slice (min longest (min (end_of_phase C l - l) (budget - l)))

unfoldable pub after_round : Matrix → Progress → ℕ → Progress
after_round C s count = progress_of (s.blocks + count) (least_of (found_of s) (found_from C (set_count C) s.blocks count))

unfoldable pub note_of : ℕ → Matrix → ℕ → Progress → Note
note_of d C need s = record { need = need; blocks = s.blocks; bound = bound d C s.blocks s.weight; best = s.weight }

pub record Rounds : Type 0 where
  pub states : List Progress
  pub left : Option ℕ
  pub is_stopped : Bool

unfoldable pub is_used_up : Option ℕ → Bool
is_used_up None = false
is_used_up (Some zero) = true
is_used_up (Some (suc n)) = false

unfoldable pub state_first : Progress → Rounds → Rounds
state_first s r = record { states = s ∷ r.states; left = r.left; is_stopped = r.is_stopped }

-- no further round: the search is answered, or the slice is used up
unfoldable pub no_round : Option ℕ → Bool → Rounds
no_round slice stopped = record { states = []; left = slice; is_stopped = stopped }

-- the slice after so many blocks
unfoldable pub less_slice : Option ℕ → ℕ → Option ℕ
less_slice slice count = option_map (λ left. left - count) slice

-- at most so many rounds; each does a block at least, so that the budget's blocks are enough
unfoldable pub rounds_within : ℕ → ℕ → Matrix → ℕ → ℕ → Option ℕ → Progress → Rounds
rounds_within zero d C budget longest slice s = no_round slice false
rounds_within (suc most) d C budget longest slice s =
    elim (finished d C budget s.blocks (found_of s)) as (λ _. Rounds) [
      | Some _ ↦ no_round slice false
      | None ↦ elim (is_used_up slice) as (λ _. Rounds) [
        | true ↦ no_round slice true
        | false ↦
            let count = round_length C budget longest slice s.blocks in
            let next = after_round C s count in
            state_first next (rounds_within most d C budget longest (less_slice slice count) next)
      ]
    ]

unfoldable pub rounds : ℕ → Matrix → ℕ → ℕ → Option ℕ → Progress → Rounds
rounds d C budget longest slice s = rounds_within (suc (budget - s.blocks)) d C budget longest slice s

unfoldable pub last_state : Progress → List Progress → Progress
last_state s [] = s
last_state s (t ∷ states) = last_state t states

pub record Start : Type 0 where
  pub settled : List Progress
  pub current : Option Progress

unfoldable pub fresh_start : Start
fresh_start = record { settled = []; current = None }

pub record SessionStep : Type 0 where
  pub note : Note
  pub settled : List Progress
  pub state : Progress

pub record SessionRounds : Type 0 where
  pub steps : List SessionStep
  pub settled : List Progress
  pub left : Option ℕ
  pub is_stopped : Bool

unfoldable pub step_of : ℕ → Matrix → List Progress → Progress → SessionStep
step_of d C settled s = record { note = note_of d C (length settled) s; settled = settled; state = s }

unfoldable pub no_steps : List Progress → Option ℕ → Bool → SessionRounds
no_steps settled slice stopped = record { steps = []; settled = settled; left = slice; is_stopped = stopped }

unfoldable pub steps_first : List SessionStep → SessionRounds → SessionRounds
steps_first steps r = record { steps = steps ++ r.steps; settled = r.settled; left = r.left; is_stopped = r.is_stopped }

-- the needs after those that are settled; the search of the first of them begins at a state, if one is given
unfoldable pub session_from : (Matrix → ℕ) → List Matrix → ℕ → ℕ → Option ℕ → List Progress → Option Progress → SessionRounds
session_from divisor [] budget longest slice settled current = no_steps settled slice false
session_from divisor (C ∷ needs) budget longest slice settled current =
    let s = unwrap_or current (first_progress C) in
    let r = rounds (divisor C) C budget longest slice s in
    steps_first (map (step_of (divisor C) C settled) r.states)
    (cond r.is_stopped (no_steps settled r.left true)
    (session_from divisor needs budget longest r.left (settled ++ last_state s r.states ∷ []) None))

unfoldable pub session_rounds : (Matrix → ℕ) → List Matrix → ℕ → ℕ → Option ℕ → Start → SessionRounds
session_rounds divisor needs budget longest slice start = session_from divisor (drop (length start.settled) needs) budget longest slice start.settled start.current

unfoldable pub records : (Matrix → ℕ) → List Matrix → ℕ → ℕ → Option ℕ → Start → List Note
records divisor needs budget longest slice start = map (λ (s : SessionStep). s.note) (session_rounds divisor needs budget longest slice start).steps

abbrev pub IsBestAt : Matrix → Progress → Type 0
IsBestAt C s = found_of s ≡ best C (set_count C) s.blocks
