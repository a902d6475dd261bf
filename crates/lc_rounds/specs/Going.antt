-- A session on its way through the needs of its script.
--   World                    what stays the same: what it starts from, its budget, its longest round, its slice, whether it keeps
--                            checkpoints, the SHA-256 of its script, and where it began to tell
--   started b budget longest slice keep digest turn now      the world of a session that begins now
--   IsOf w p                 the session at this pace is of that world
--   settled_in c             the settled needs of the session
--   rounds_from w needs      the rounds of the searches of these needs
--   IsRanged c               the numbers of a session are in range
--   Goes w needs answers c now       it has met these needs, with these answers, and goes on
--   IsNext w needs C answers c now   it is about to answer the need C after these: it passes over a settled record, or searches
--   Misfits b budget needs C         the record of C doesn't fit it
--   Stops w needs c now stop         it stops among the rounds of these needs
--   Halts w needs C c now halt       it ends at the need C after these
use Rattle.std.specs.Prelude.{◌≡◌, ◌≤◌, ◌*◌, ◌^◌, ◌⊎◌, ℕ, Bool, true, false, ◌==◌, nat_lt, List, [], ◌∷◌, ◌++◌, length, map, All, IfSome, slice_get, Option, Some, None, option_map}
use Rattle.lc_algebra.specs.Matrix.{Matrix}
use Rattle.lc_algebra.specs.Divisor.{divisor_of}
use Rattle.lc_enumeration.specs.Search.{Answer, answer, fits, fits_settled}
use Rattle.lc_enumeration.specs.Records.{Progress, SessionStep, SessionRounds, found_of, session_rounds}
use Rattle.lc_enumeration.specs.Fitting.{misfit}
use Rattle.lc_enumeration.specs.Truth.{AnswerHolds}
use Rattle.lc_formats.specs.Checkpoint.{IsProgress}
use Rattle.lc_checkpoint.specs.Seen.{settled_of}
use Rattle.lc_session_rules.specs.Answers.{Settle, HasWords}
use Rattle.lc_rounds.specs.declared.pace.Pace.{Pace}
use Rattle.lc_rounds.specs.declared.rounds.Stop.{Stop}
use Rattle.lc_rounds.specs.declared.rounds.Stop.TheVariants.{NoMemory}
use Rattle.lc_rounds.specs.Way.{Around, Origin, IsOnItsWay, HasStopped}
use Rattle.lc_session_rules.specs.Course.{Beginning, afresh, after, begins, Waits, Stands, AtNeed}
use Rattle.lc_rounds.specs.declared.course.Course.{Course}
use Rattle.lc_rounds.specs.declared.need.Halt.{Halt}
use Rattle.lc_rounds.specs.declared.need.Halt.TheVariants as halt

pub record World : Type 0 where
  pub beginning : Beginning
  pub budget : ℕ
  pub longest : ℕ
  pub slice : Option ℕ
  pub keep : Bool
  pub digest : List ℕ
  pub origin : Origin

abbrev pub started : Beginning → ℕ → ℕ → Option ℕ → Bool → List ℕ → ℕ → Around → World
started b budget longest slice keep digest turn now = record { beginning = b; budget = budget; longest = longest; slice = slice; keep = keep; digest = digest; origin = record { turn = turn; around = now } }

-- the session has the budget, the longest round, the script and the checkpoints of the world
pub record IsOf (w : World) (p : Pace) : Type 0 where
  pub keep : p.keep ≡ w.keep
  pub digest : p.point.script ≡ w.digest
  pub budget : p.point.budget ≡ w.budget
  pub longest : p.longest ≡ w.longest

abbrev pub settled_in : Course → List Progress
settled_in c = map settled_of c.pace.point.settled.items

abbrev pub rounds_from : World → List Matrix → SessionRounds
rounds_from w needs = session_rounds divisor_of needs w.budget w.longest w.slice (begins w.beginning needs)

pub record IsRanged (c : Course) : Type 0 where
  pub version : c.pace.point.version ≡ 2
  pub longest : (1 ≤ c.pace.longest) × (c.pace.longest ≤ 2 ^ 20)
  pub turn : c.pace.point.turn ≤ 2 ^ 60
  pub small : c.pace.point.budget ≤ 2 ^ 40
  pub settled : All (IsProgress c.pace.point.budget) (settled_in c)
  pub current : IfSome c.current (λ r. IsProgress c.pace.point.budget (settled_of r))
  pub told : c.pace.told ≤ c.met * 2 ^ 40
  pub slice : c.pace.keep ≡ false → c.pace.slice ≡ None
  pub many : c.met ≤ length c.pace.point.settled.items

-- what it has met is answered
pub record AreAnswered (budget : ℕ) (needs : List Matrix) (done : List Progress) (answers : List Answer) : Type 0 where
  pub settle : Settle budget needs done answers
  pub words : HasWords needs answers
  pub truth : All (λ C. AnswerHolds C (answer (divisor_of C) C budget)) needs

pub record Goes (w : World) (needs : List Matrix) (answers : List Answer) (c : Course) (now : Around) : Type 0 where
  pub told : List SessionStep
  pub done : List Progress
  pub stands : Stands w.beginning c.version w.budget w.longest w.slice needs told (settled_in c) c.pace.slice done (option_map settled_of c.current)
  pub way : IsOnItsWay w.origin told c.pace now
  pub met : c.met ≡ length needs
  pub of : IsOf w c.pace
  pub answered : AreAnswered w.budget needs done answers

abbrev pub IsUncut : ℕ → Matrix → Type 0
IsUncut version C = (version == 1) ≡ true → nat_lt 1 (divisor_of C) ≡ false

-- the records of a checkpoint are left, or none is
abbrev pub NextStands : Beginning → ℕ → ℕ → ℕ → Option ℕ → List Matrix → Matrix → List SessionStep → List Progress → Option ℕ → List Progress → Option Progress → Type 0
NextStands b version budget longest slice needs C told settled left done (Some current) = Waits b version budget slice needs told settled left done current × IsUncut version C
NextStands b version budget longest slice needs C told settled left done None = AtNeed b budget longest slice needs C told (record { settled = settled; current = None }) left done

pub record IsNext (w : World) (needs : List Matrix) (C : Matrix) (answers : List Answer) (c : Course) (now : Around) : Type 0 where
  pub told : List SessionStep
  pub done : List Progress
  pub stands : NextStands w.beginning c.version w.budget w.longest w.slice needs C told (settled_in c) c.pace.slice done (option_map settled_of c.current)
  pub way : IsOnItsWay w.origin told c.pace now
  pub met : c.met ≡ length needs
  pub of : IsOf w c.pace
  pub answered : AreAnswered w.budget needs done answers

-- the record of a settled need doesn't fit, or that of the current one
abbrev pub Misfits : Beginning → ℕ → List Matrix → Matrix → Type 0
Misfits afresh budget needs C = ⊥
Misfits (after version settled current) budget needs C =
    IsUncut version C
    × (((s : Progress) × (slice_get settled (length needs) ≡ Some s) × (fits_settled (divisor_of C) C budget s.blocks (found_of s) ≡ false))
    ⊎ ((length settled ≡ length needs) × (fits C current.blocks (found_of current) ≡ false)))

-- its records fit, unless memory was refused before they were looked at
pub record Stops (w : World) (needs : List Matrix) (c : Course) (now : Around) (stop : Stop) : Type 0 where
  pub told : List SessionStep
  pub left : List SessionStep
  pub front : (rounds_from w needs).steps ≡ told ++ left
  pub stopped : HasStopped w.origin told left (rounds_from w needs).is_stopped c.pace now stop
  pub of : IsOf w c.pace
  pub fitting : ((stop ≡ NoMemory) × (told ≡ [])) ⊎ (misfit divisor_of needs w.budget (begins w.beginning needs) ≡ None)

-- a record is misfit, and no round was done
pub record IsMisfit (w : World) (needs : List Matrix) (c : Course) (now : Around) (need told found : ℕ) : Type 0 where
  pub first : misfit divisor_of needs w.budget (begins w.beginning needs) ≡ Some (record { need = need; told = told; found = found })
  pub way : IsOnItsWay w.origin [] c.pace now
  pub of : IsOf w c.pace

abbrev pub Halts : World → List Matrix → Matrix → Course → Around → Halt → Type 0
Halts w needs C c now (halt.Stop stop) = Stops w needs c now stop ⊎ Stops w (needs ++ C ∷ []) c now stop
Halts w needs C c now (halt.Unfit told found) = IsMisfit w (needs ++ C ∷ []) c now (length needs) told found × Misfits w.beginning w.budget needs C × (c.met ≡ length needs)
