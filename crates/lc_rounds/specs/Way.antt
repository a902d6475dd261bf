-- A session on its way through the rounds of its searches.
--   rounds_left pace s       the rounds of a search from its state on: their states, what is then left of the slice, and whether
--                            the slice stops it
--   steps_left pace s        the steps of these rounds
--   Around                   what the rounds of a session move: the slots of the vault and how often it failed, and the watchers
--   around contents faults watchers      these together
--   Origin                   where a session began: the turn of its first checkpoint, and what was around it
--   Stored keep digest budget turn told old new      with keep, the checkpoints of these steps were stored in turn, else nothing
--   EndsAt told record       the last of these steps has this record
--   IsOnItsWay o told pace now      a session that has told these steps since it began, and goes on
--   StopsAs ..               how it stops: what is stored, what failed, and why it is paused
--   HasStopped o told left is_used_up pace now stop      a session that has told these steps, and stops before those that are left
--   Went before all ends     some of these steps were told, after those before, and some are left; so it ends with these
use Rattle.std.specs.Prelude.{◌≡◌, ◌⊎◌, ℕ, Bool, true, false, List, [], ◌∷◌, ◌++◌, length, map, Option, Some}
use Rattle.lc_algebra.specs.Divisor.{divisor_of}
use Rattle.lc_enumeration.specs.Records.{Rounds, SessionStep, step_of, rounds}
use Rattle.lc_io.specs.Outside.{HasRisen}
use Rattle.lc_io.specs.Vaults.{Slots, WhereTold, IsTorn}
use Rattle.lc_io.specs.Watchers.{Hearing}
use Rattle.lc_io.specs.Told.{Kept}
use Rattle.lc_io.specs.declared.watcher.Record.{Record}
use Rattle.lc_checkpoint.specs.Seen.{settled_of, point_of}
use Rattle.lc_search.specs.State.{SearchState}
use Rattle.lc_session_rules.specs.Slots.{slot_of, turn_after, slots_after}
use Rattle.lc_session_rules.specs.Session.{record_of, records_of}
use Rattle.lc_rounds.specs.declared.pace.Pace.{Pace}
use Rattle.lc_rounds.specs.declared.rounds.Stop.{Stop}
use Rattle.lc_rounds.specs.declared.rounds.Stop.TheVariants.{Paused, VaultFault, NoMemory}

-- the rounds of a search from its state on
abbrev pub rounds_left : Pace → SearchState → Rounds
rounds_left pace s = rounds (divisor_of s.code) s.code s.budget pace.longest pace.slice s.progress

abbrev pub steps_left : Pace → SearchState → List SessionStep
steps_left pace s = map (step_of (divisor_of s.code) s.code (map settled_of pace.point.settled.items)) (rounds_left pace s).states

pub record Around : Type 0 where
  pub vault : Option Slots
  pub faults : ℕ
  pub watchers : List Hearing

abbrev pub around : Option Slots → ℕ → List Hearing → Around
around vault faults watchers = record { vault = vault; faults = faults; watchers = watchers }

pub record Origin : Type 0 where
  pub turn : ℕ
  pub around : Around

abbrev pub Stored : Bool → List ℕ → ℕ → ℕ → List SessionStep → Option Slots → Option Slots → Type 0
Stored true digest budget turn told old new = WhereTold old new (λ before after. after ≡ slots_after 2 digest budget turn told before)
Stored false digest budget turn told old new = new ≡ old

abbrev pub EndsAt : List SessionStep → Record → Type 0
EndsAt told note = (before : List SessionStep) × (last : SessionStep) × (told ≡ before ++ last ∷ []) × (note ≡ record_of last.note)

-- it told these steps; if it keeps checkpoints no watcher paused it at the last of them
pub record IsOnItsWay (o : Origin) (told : List SessionStep) (pace : Pace) (now : Around) : Type 0 where
  pub count : pace.told ≡ length told
  pub turn : pace.point.turn ≡ turn_after o.turn told
  pub last : (told ≡ []) ⊎ EndsAt told pace.last
  pub begun : pace.slice ≡ Some 0 → EndsAt told pace.last
  pub is_paused : Bool
  pub unpaused : pace.keep ≡ true → is_paused ≡ false
  pub heard : Kept pace.keep (records_of told) is_paused o.around.watchers now.watchers
  pub stored : Stored pace.keep (point_of pace.point).script pace.point.budget o.turn told o.around.vault now.vault
  pub quiet : now.faults ≡ o.around.faults

-- how it stops: a watcher paused it or its slice is used up; the store of the next checkpoint failed; memory was refused. Only the
-- first comes after a pause, if checkpoints are kept
abbrev pub StopsAs : Origin → List SessionStep → List SessionStep → Bool → Bool → Pace → Around → Stop → Type 0
StopsAs o told left is_used_up is_paused pace now Paused =
    (pace.keep ≡ true) × EndsAt told pace.last × ((is_paused ≡ true) ⊎ ((left ≡ []) × (is_used_up ≡ true)))
    × Stored true (point_of pace.point).script pace.point.budget o.turn told o.around.vault now.vault × (now.faults ≡ o.around.faults)
StopsAs o told left is_used_up is_paused pace now VaultFault =
    (pace.keep ≡ true) × (is_paused ≡ false) × ¬ (left ≡ [])
    × WhereTold o.around.vault now.vault (λ before after. IsTorn (slot_of (turn_after o.turn told)) (slots_after 2 (point_of pace.point).script pace.point.budget o.turn told before) after)
    × HasRisen o.around.faults now.faults
StopsAs o told left is_used_up is_paused pace now NoMemory =
    (pace.keep ≡ true → is_paused ≡ false) × Stored pace.keep (point_of pace.point).script pace.point.budget o.turn told o.around.vault now.vault × (now.faults ≡ o.around.faults)

pub record HasStopped (o : Origin) (told left : List SessionStep) (is_used_up : Bool) (pace : Pace) (now : Around) (stop : Stop) : Type 0 where
  pub count : pace.told ≡ length told
  pub is_paused : Bool
  pub heard : Kept pace.keep (records_of told) is_paused o.around.watchers now.watchers
  pub stops : StopsAs o told left is_used_up is_paused pace now stop

-- what a search did to the session: it told some of its steps, and went on once all were told, or stopped before those that are left
pub record Went (before all : List SessionStep) (ends : List SessionStep → List SessionStep → Type 0) : Type 0 where
  pub told : List SessionStep
  pub left : List SessionStep
  pub front : all ≡ told ++ left
  pub ends_so : ends (before ++ told) left
