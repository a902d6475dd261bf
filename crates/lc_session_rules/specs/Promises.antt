-- The words in which one reads the promises off the contract of a session.
--   IsUsable table asked bytes held      a checkpoint is taken, for this script and budget, and its records fit
--   IsAnswer ending                      the session answered what was asked, or there was no memory
--   ends_early ending                    the session ended before its searches began: by its arguments, its source or what its
--                                        slots hold, and not by a fault of the vault
--   IsAmple table args old new asked course      the arguments are accepted, the source gives a script, nothing stops the session on
--                                        its way, the checkpoint that `resume` takes is usable, and nothing failed
--   PrintsText table budget bytes old new n      the sink took the text of the script under this budget, and n says whether a fault ends it
--   checkpoint_of asked course turn step the bytes of the checkpoint of a step
--   Holds old new slot bytes             the vault, if it tells its slots, holds these bytes in this slot
--   StartsTruly table command asked held course  a session of `run`, or one of `resume` whose checkpoint is true
--   IsSameOrTrue slot table bytes budget before after    a slot is as it was, or a session stored in it without a fault: it is
--                                        empty, or holds a true checkpoint
--   next_slot course                     the slot of the next checkpoint: that of the turn after the records told
--   StoresTruly table asked course old new       so are both slots, if the vault tells them, but for the one whose store failed: the
--                                        slot of the next checkpoint, or the one that `run` could not empty
--   StoresAfresh table asked course old new      each slot is empty or holds a true checkpoint, but for that of the next checkpoint, if
--                                        its store failed
--   FailsSo asked course before after    what a session whose vault failed left in the slots: in the slot of the next checkpoint
--                                        what was there, bytes that are no checkpoint, or the checkpoint of the next step; or in a
--                                        slot that `run` could not empty what it held, or bytes that are no checkpoint
use Rattle.std.specs.Prelude.{◌≡◌, ◌⊎◌, ℕ, Bool, ◌≤◌, IsTrue, List, length, Option, Some, None, true, false, []}
use Rattle.std.specs.Io.KnownBytes.{Appends}
use Rattle.sha2.specs.Sha256.{sha256}
use Rattle.lc_algebra.specs.Matrix.{Matrix}
use Rattle.lc_algebra.specs.Divisor.{divisor_of}
use Rattle.lc_enumeration.specs.Records.{SessionStep}
use Rattle.lc_enumeration.specs.Fitting.{Misfit, misfit}
use Rattle.lc_formats.specs.Checkpoint.{Checkpoint}
use Rattle.lc_formats.specs.Truth.{start_of}
use Rattle.lc_io.specs.declared.vault.Slot.{Slot}
use Rattle.lc_io.specs.Outside.{HasRisen}
use Rattle.lc_io.specs.declared.vault.Slot.TheVariants.{Zero, One}
use Rattle.lc_io.specs.Vaults.{Slots, empty_slots, in_slot, other, put, WhereTold}
use Rattle.lc_language.specs.declared.Call.{Call}
use Rattle.lc_language.specs.Evaluation.{IsText}
use Rattle.lc_session_rules.specs.Options.{Command, run, resume, check, summary, Settings, settings, all_options, options}
use Rattle.lc_session_rules.specs.Needs.{IsNeeds, MeetsFirst}
use Rattle.lc_session_rules.specs.Slots.{slot_of, turn_after, stored_bytes, takes, choice, is_for, IsTrueCheckpoint, IsEmptyOrTrue}
use Rattle.lc_session_rules.specs.Endings.{Ending, done, usage, paused, source_fault, sink_fault, vault_fault, no_memory, no_checkpoint, damaged_checkpoint, other_script, rejected, too_long, unfit}
use Rattle.lc_session_rules.specs.Session.{most_bytes, end_number, Outside, Course, GoesOnFrom, AreHalfEmptied, told_slots}
use Rattle.lc_session_rules.specs.Chain.{IsLeft, IsNextCheckpoint}

-- a checkpoint that a session of these arguments resumes: it is taken, it is for this script and budget, and its records fit
pub record IsUsable (table : List Call) (asked : Settings) (bytes : List ℕ) (held : Option Slots) : Type 0 where
  pub slots : Slots
  pub told : held ≡ Some slots
  pub p : Checkpoint
  pub taken : choice slots ≡ takes p
  pub same : IsTrue (is_for (sha256 bytes) asked.budget p)
  pub fits : (needs : List Matrix) (m : Misfit) → MeetsFirst table bytes needs → misfit divisor_of needs asked.budget (start_of needs p) ≡ Some m → (length needs ≤ m.need) × ¬ IsNeeds table bytes needs

-- an answer to what was asked, or no memory
abbrev pub IsAnswer : Ending → Type 0
IsAnswer (done n) = Unit {0}
IsAnswer (usage i) = ⊥
IsAnswer (paused query blocks) = ⊥
IsAnswer source_fault = ⊥
IsAnswer sink_fault = ⊥
IsAnswer (vault_fault told) = ⊥
IsAnswer (no_memory told) = Unit {0}
IsAnswer no_checkpoint = ⊥
IsAnswer damaged_checkpoint = ⊥
IsAnswer (other_script script budget) = ⊥
IsAnswer (rejected reason) = Unit {0}
IsAnswer too_long = ⊥
IsAnswer (unfit query told found) = ⊥

-- before the searches began
abbrev pub ends_early : Ending → Bool
ends_early (done n) = false
ends_early (usage i) = true
ends_early (paused query blocks) = false
ends_early source_fault = true
ends_early sink_fault = false
ends_early (vault_fault told) = false
ends_early (no_memory told) = false
ends_early no_checkpoint = true
ends_early damaged_checkpoint = true
ends_early (other_script script budget) = true
ends_early (rejected reason) = false
ends_early too_long = true
ends_early (unfit query told found) = true

-- nothing stops the session on its way, and nothing failed
pub record IsAmple (table : List Call) (args : List (List ℕ)) (old new : Outside) (asked : Settings) (course : Course) : Type 0 where
  pub arguments : options all_options args ≡ settings asked
  pub bytes : List ℕ
  pub source : old.source ≡ Some bytes
  pub within : length bytes ≤ most_bytes
  pub unsliced : asked.slice ≡ None
  pub unpaused : asked.keep ≡ true → course.is_paused ≡ false
  pub usable : asked.command ≡ resume → IsUsable table asked bytes old.vault
  pub source_works : ¬ HasRisen old.source_faults new.source_faults
  pub sink_works : ¬ HasRisen old.sink_faults new.sink_faults
  pub vault_works : ¬ HasRisen old.vault_faults new.vault_faults

-- the bytes of the checkpoint of a step in this session
abbrev pub checkpoint_of : Settings → Course → ℕ → SessionStep → List ℕ
checkpoint_of asked course turn step = stored_bytes 2 (sha256 course.bytes) asked.budget turn step

-- the vault, if it tells its slots, holds these bytes in this slot
abbrev pub Holds : Option Slots → Option Slots → Slot → List ℕ → Type 0
Holds old new slot bytes = WhereTold old new (λ before after. in_slot slot after ≡ bytes)

-- a session of `run`, or one of `resume` whose checkpoint is true
abbrev pub StartsTruly : List Call → Command → Settings → Option Slots → Course → Type 0
StartsTruly table run asked held course = Unit {0}
StartsTruly table resume asked held course = (p : Checkpoint) → GoesOnFrom asked held course p → IsTrueCheckpoint table course.bytes asked.budget p
StartsTruly table check asked held course = ⊥
StartsTruly table summary asked held course = ⊥

-- a slot is as it was, or a session stored in it without a fault
abbrev pub IsSameOrTrue : Slot → List Call → List ℕ → ℕ → Slots → Slots → Type 0
IsSameOrTrue slot table bytes budget before after = (in_slot slot after ≡ in_slot slot before) ⊎ IsEmptyOrTrue slot table bytes budget (in_slot slot after)

-- the slot of the next checkpoint
abbrev pub next_slot : Course → Slot
next_slot course = slot_of (turn_after course.turn course.told)

-- so are both slots, if the vault tells them, but for the one whose store failed
abbrev pub StoresTruly : List Call → Settings → Course → Outside → Outside → Type 0
StoresTruly table asked course old new = WhereTold old.vault new.vault (λ before after.
    ((slot : Slot) → IsSameOrTrue slot table course.bytes asked.budget before after)
    ⊎ (HasRisen old.vault_faults new.vault_faults × (IsSameOrTrue (other (next_slot course)) table course.bytes asked.budget before after ⊎ ((asked.command ≡ run) × (course.told ≡ []) × AreHalfEmptied before after))))

-- a session of `run` that emptied the slots: each is empty, or holds a true checkpoint, but for that of the next checkpoint, if its
-- store failed
abbrev pub StoresAfresh : List Call → Settings → Course → Outside → Outside → Type 0
StoresAfresh table asked course old new = WhereTold old.vault new.vault (λ before after.
    ((slot : Slot) → IsEmptyOrTrue slot table course.bytes asked.budget (in_slot slot after))
    ⊎ (HasRisen old.vault_faults new.vault_faults × IsEmptyOrTrue (other (next_slot course)) table course.bytes asked.budget (in_slot (other (next_slot course)) after)))

-- a session whose vault failed: the slot of the next checkpoint is left as a store may leave it that failed, or a slot that `run`
-- could not empty holds what it held, or bytes that are no checkpoint
abbrev pub FailsSo : Settings → Course → Slots → Slots → Type 0
FailsSo asked course before after =
    ((held : List ℕ) × (after ≡ put (next_slot course) held (told_slots asked course before)) × (IsLeft (in_slot (next_slot course) (told_slots asked course before)) held ⊎ IsNextCheckpoint asked course held))
    ⊎ ((asked.command ≡ run) × (course.told ≡ []) × ((held : List ℕ) × (((after ≡ put Zero held before) × IsLeft before.zero_slot held) ⊎ ((after ≡ put One held empty_slots) × IsLeft before.one_slot held))))

-- the sink took the text of the script under this budget
pub record PrintsText (table : List Call) (budget : ℕ) (bytes : List ℕ) (old new : Option (List ℕ)) (n : ℕ) : Type 0 where
  pub text : List ℕ
  pub is_faulty : Bool
  pub is_text : IsText table budget bytes text is_faulty
  pub written : Appends old new text
  pub number : n ≡ end_number is_faulty
