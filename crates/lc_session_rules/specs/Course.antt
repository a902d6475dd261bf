-- A session on its way through the statements of its script.
--   Beginning                what a session starts from: nothing, or the records of a checkpoint of a version
--   begins b needs           where its searches start, by its needs
--   AreFitting budget needs records      so many records fit the first needs, one after another
--   GoesSo budget longest begin slice needs next told now left      after these needs it has told these steps, and goes on from the
--                            start `now` with what is left of the slice, however its needs go on after `next`; `longest` is the most
--                            blocks of a round
--   IsWhole version needs    none of these needs makes a session start anew that resumes a checkpoint of this version
--   AtNeed                   a session about to search for its next need, which is C
--   state_at, states_at, steps_at, start_next      the search of a need from a start: where it begins, its states, its steps, and the
--                            start after it
--   Waits, Came, Stands      the records of the checkpoint aren't used up, or they are; the state of the searches in both cases
use Rattle.std.specs.Prelude.{◌≡◌, ℕ, true, ◌==◌, List, [], ◌∷◌, ◌++◌, length, map, unwrap_or, Option, Some, None}
use Rattle.lc_algebra.specs.Matrix.{Matrix}
use Rattle.lc_algebra.specs.Divisor.{divisor_of}
use Rattle.lc_enumeration.specs.Search.{fits_settled}
use Rattle.lc_enumeration.specs.Records.{Progress, Start, SessionStep, found_of, first_progress, rounds, last_state, step_of, fresh_start, steps_first, session_rounds}
use Rattle.lc_enumeration.specs.Fitting.{first_divisible, used_start, misfit}

pub data Beginning : Type 0 where
  afresh : Beginning
  after : ℕ → List Progress → Progress → Beginning

abbrev pub begins : Beginning → List Matrix → Start
begins afresh needs = fresh_start
begins (after version settled current) needs = used_start divisor_of needs version settled current

-- records that fit the needs, one after another
abbrev pub AreFitting : (Matrix → ℕ) → ℕ → List Matrix → List Progress → Type 0
AreFitting divisor budget [] [] = Unit {0}
AreFitting divisor budget [] (s ∷ records) = ⊥
AreFitting divisor budget (C ∷ needs) [] = ⊥
AreFitting divisor budget (C ∷ needs) (s ∷ records) = (fits_settled (divisor C) C budget s.blocks (found_of s) ≡ true) × AreFitting divisor budget needs records

-- after these needs a session has told these steps, and it goes on from `now` with this slice, however its needs go on after `next`
abbrev pub GoesSo : (Matrix → ℕ) → ℕ → ℕ → (List Matrix → Start) → Option ℕ → List Matrix → List Matrix → List SessionStep → Start → Option ℕ → Type 0
GoesSo divisor budget longest begin slice needs next told now left =
    (more : List Matrix) → session_rounds divisor (needs ++ (next ++ more)) budget longest slice (begin (needs ++ (next ++ more))) ≡ steps_first told (session_rounds divisor (needs ++ (next ++ more)) budget longest left now)

-- no need so far makes a session start anew that resumes a checkpoint of this version
abbrev pub IsWhole : (Matrix → ℕ) → ℕ → List Matrix → Type 0
IsWhole divisor version needs = (version == 1) ≡ true → first_divisible divisor needs ≡ None

-- the records of the checkpoint aren't used up: no round was done, and as many records as needs fit
pub record Waits (b : Beginning) (version budget : ℕ) (slice : Option ℕ) (needs : List Matrix) (told : List SessionStep) (settled : List Progress) (left : Option ℕ) (done : List Progress) (current : Progress) : Type 0 where
  pub begun : b ≡ after version settled current
  pub silent : told ≡ []
  pub same : left ≡ slice
  pub rest : List Progress
  pub split : settled ≡ done ++ rest
  pub fitting : AreFitting divisor_of budget needs done
  pub whole : IsWhole divisor_of version needs

-- they are used up, or there were none: each need is settled
pub record Came (b : Beginning) (budget longest : ℕ) (slice : Option ℕ) (needs : List Matrix) (told : List SessionStep) (settled : List Progress) (left : Option ℕ) (done : List Progress) : Type 0 where
  pub goes : GoesSo divisor_of budget longest (begins b) slice needs [] told (record { settled = settled; current = None }) left
  pub as_many : length settled ≡ length needs
  pub fits : (more : List Matrix) → misfit divisor_of (needs ++ more) budget (begins b (needs ++ more)) ≡ None
  pub all : done ≡ settled

abbrev pub Stands : Beginning → ℕ → ℕ → ℕ → Option ℕ → List Matrix → List SessionStep → List Progress → Option ℕ → List Progress → Option Progress → Type 0
Stands b version budget longest slice needs told settled left done (Some current) = Waits b version budget slice needs told settled left done current
Stands b version budget longest slice needs told settled left done None = Came b budget longest slice needs told settled left done

-- ---- the search of one need

abbrev pub state_at : Matrix → Start → Progress
state_at C now = unwrap_or now.current (first_progress C)

abbrev pub states_at : (Matrix → ℕ) → ℕ → ℕ → Matrix → Option ℕ → Start → List Progress
states_at divisor budget longest C left now = (rounds (divisor C) C budget longest left (state_at C now)).states

abbrev pub steps_at : (Matrix → ℕ) → ℕ → ℕ → Matrix → Option ℕ → Start → List SessionStep
steps_at divisor budget longest C left now = map (step_of (divisor C) C now.settled) (states_at divisor budget longest C left now)

abbrev pub start_next : (Matrix → ℕ) → ℕ → ℕ → Matrix → Option ℕ → Start → Start
start_next divisor budget longest C left now = record { settled = now.settled ++ last_state (state_at C now) (states_at divisor budget longest C left now) ∷ []; current = None }

-- a session about to search for its next need
pub record AtNeed (b : Beginning) (budget longest : ℕ) (slice : Option ℕ) (needs : List Matrix) (C : Matrix) (told : List SessionStep) (now : Start) (left : Option ℕ) (done : List Progress) : Type 0 where
  pub goes : GoesSo divisor_of budget longest (begins b) slice needs (C ∷ []) told now left
  pub as_many : length now.settled ≡ length needs
  pub fits : (more : List Matrix) → misfit divisor_of (needs ++ C ∷ more) budget (begins b (needs ++ C ∷ more)) ≡ None
  pub all : done ≡ now.settled
