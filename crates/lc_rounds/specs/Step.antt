-- One round of a search of a session, for private clauses.
--   next_state pace s        the state of the search after its next round
--   after_next pace s        the search then
--   next_step pace s         the step of that round
--   IsDone pace s t r        the search t is s after that round, whose record is r
--   at_round pace s          how far the session is once the round is done
--   once_told pace note      how far it is once this record was told
--   after_step pace s        how far it is once the step was stored and its record was told
--   IsSameSession old new    what no step changes of how far a session is
--   PutsIf keep slot text old new     with keep, the text replaced the slot, else nothing changed
--   PutFails keep slot old new faults now unkept      why it didn't: the store failed, or memory was refused
--   StopsAt o told step pace now stop      a session that has told these steps, and stops at this one or after it
use Rattle.std.specs.Prelude.{◌≡◌, ◌+◌, ◌%◌, ◌^◌, ◌<◌, ℕ, Bool, true, false, List, [], ◌∷◌, ◌++◌, map, Option}
use Rattle.lc_algebra.specs.Divisor.{divisor_of}
use Rattle.lc_enumeration.specs.Search.{fits, bound}
use Rattle.lc_enumeration.specs.Records.{Progress, SessionStep, found_of, step_of, round_length, less_slice, after_round}
use Rattle.lc_io.specs.declared.vault.Slot.{Slot}
use Rattle.lc_io.specs.Outside.{HasRisen}
use Rattle.lc_io.specs.Vaults.{Slots, WhereTold, IsPut, IsTorn}
use Rattle.lc_checkpoint.specs.Seen.{settled_of}
use Rattle.lc_formats.specs.Checkpoint.{IsProgress}
use Rattle.lc_search.specs.State.{SearchState}
use Rattle.lc_search.specs.declared.answer.RoundRecord.{RoundRecord}
use Rattle.lc_session_rules.specs.Slots.{next_turn}
use Rattle.lc_session_rules.specs.Session.{record_of}
use Rattle.lc_io.specs.declared.watcher.Record.{Record}
use Rattle.lc_rounds.specs.declared.pace.Pace.{Pace}
use Rattle.lc_rounds.specs.declared.rounds.Stop.{Stop}
use Rattle.lc_rounds.specs.declared.rounds.Stop.TheVariants.{Paused, VaultFault, NoMemory}
use Rattle.lc_rounds.specs.declared.keeping.Unkept.{Unkept}
use Rattle.lc_rounds.specs.declared.keeping.Unkept.TheVariants as unkept
use Rattle.lc_rounds.specs.Way.{Around, Origin, HasStopped}

abbrev pub next_state : Pace → SearchState → Progress
next_state pace s = after_round s.code s.progress (round_length s.code s.budget pace.longest pace.slice s.progress.blocks)

abbrev pub after_next : Pace → SearchState → SearchState
after_next pace s = record { code = s.code; budget = s.budget; progress = next_state pace s }

abbrev pub next_step : Pace → SearchState → SessionStep
next_step pace s = step_of (divisor_of s.code) s.code (map settled_of pace.point.settled.items) (next_state pace s)

-- the search t is s after its next round, whose record is r. It fits, and is in the ranges of a checkpoint
pub record IsDone (pace : Pace) (s t : SearchState) (r : RoundRecord) : Type 0 where
  pub at : t ≡ after_next pace s
  pub fitting : fits t.code t.progress.blocks (found_of t.progress) ≡ true
  pub further : s.progress.blocks < t.progress.blocks
  pub progress : IsProgress s.budget (next_state pace s)
  pub done : r.done ≡ round_length s.code s.budget pace.longest pace.slice s.progress.blocks
  pub blocks : r.blocks ≡ (next_state pace s).blocks
  pub weight : r.best ≡ (next_state pace s).weight
  pub place : r.closed.best % 2 ^ 52 ≡ (next_state pace s).place
  pub bound : r.bound ≡ bound (divisor_of s.code) s.code (next_state pace s).blocks (next_state pace s).weight

-- once the round was done
abbrev pub at_round : Pace → SearchState → Pace
at_round pace s = record pace {
  slice = less_slice pace.slice (round_length s.code s.budget pace.longest pace.slice s.progress.blocks);
  point = record pace.point { blocks = (next_state pace s).blocks; weight = (next_state pace s).weight; place = (next_state pace s).place };
}

-- once it was told
abbrev pub once_told : Pace → Record → Pace
once_told pace note = record pace { told = pace.told + 1; last = note; point = record pace.point { turn = next_turn pace.point.turn } }

abbrev pub after_step : Pace → SearchState → Pace
after_step pace s = once_told (at_round pace s) (record_of (next_step pace s).note)

-- with keep, the text replaced the slot
abbrev pub PutsIf : Bool → Slot → List ℕ → Option Slots → Option Slots → Type 0
PutsIf true slot text old new = WhereTold old new (IsPut slot text)
PutsIf false slot text old new = new ≡ old

abbrev pub PutFails : Bool → Slot → Option Slots → Option Slots → ℕ → ℕ → Unkept → Type 0
PutFails keep slot old new faults now unkept.VaultFault = (keep ≡ true) × WhereTold old new (IsTorn slot) × HasRisen faults now
PutFails keep slot old new faults now unkept.NoMemory = (new ≡ old) × (now ≡ faults)

pub record IsSameSession (old new : Pace) : Type 0 where
  pub keep : new.keep ≡ old.keep
  pub longest : new.longest ≡ old.longest
  pub version : new.point.version ≡ old.point.version
  pub script : new.point.script ≡ old.point.script
  pub budget : new.point.budget ≡ old.point.budget
  pub settled : new.point.settled ≡ old.point.settled

-- whatever steps come after it
abbrev pub StopsAt : Origin → List SessionStep → SessionStep → Pace → Around → Stop → Type 0
StopsAt o told step pace now Paused = (left : List SessionStep) (used : Bool) → HasStopped o (told ++ step ∷ []) left used pace now Paused
StopsAt o told step pace now VaultFault = (left : List SessionStep) (used : Bool) → HasStopped o told (step ∷ left) used pace now VaultFault
StopsAt o told step pace now NoMemory = (left : List SessionStep) (used : Bool) → HasStopped o told (step ∷ left) used pace now NoMemory
