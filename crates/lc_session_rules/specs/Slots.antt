-- The checkpoints of a session in the two slots of a vault.
--   slot_of turn                      slot Zero for an even turn, slot One for an odd one
--   next_turn turn                    the turn of the next checkpoint: one more, up to 2^60
--   turn_after turn steps             the turn of the checkpoint after those of some steps, the first of which has this turn
--   point_of version digest budget turn step      the checkpoint of a step; a session writes version 2
--   stored_bytes version digest budget turn step  its bytes
--   slots_after version digest budget turn steps slots      the slots once the checkpoints of these steps were stored in turn
--   IsRecordOf p note                 p is a checkpoint of this record: its current need and the blocks of it are the record's
--   IsTrueCheckpoint table bytes budget p     a true checkpoint of a script: for the needs of its first statements, however many
--   IsTornOr parity table bytes budget read   what a slot is as sessions of a chain leave it: no checkpoint at all, or a true one
--                                     whose turn has the slot's parity
--   IsEmptyOrTrue slot table bytes budget held      what a slot holds that a session stored without a fault
--   AreTrueSlots table bytes budget slots      both slots as sessions of a chain leave them
--   later_of zero one                 of two checkpoints the one of the greater turn, the first where they are equal
--   chosen slots                      the checkpoint that `resume` takes
--   Choice, choice slots              nothing was stored; something was, but no slot decodes; or the checkpoint taken
--   is_for digest budget p            whether a checkpoint names this digest and this budget
--   start_in divisor needs p          where a session starts that resumes a checkpoint: a version 1 checkpoint is used up to the
--                                     first need whose code has a divisor above 1
use Rattle.std.specs.Prelude.{◌≡◌, ℕ, ◌%◌, ◌⊎◌, ◌+◌, ◌^◌, min, Bool, true, false, nat_lt, ◌==◌, ◌&&◌, if◌then◌else◌, List, [], ◌∷◌, length, Option, Some, None}
use Rattle.sha2.specs.Sha256.{sha256}
use Rattle.lc_algebra.specs.Matrix.{Matrix}
use Rattle.lc_enumeration.specs.Records.{Note, Start, SessionStep}
use Rattle.lc_enumeration.specs.Fitting.{used_start}
use Rattle.lc_formats.specs.Text.{same_bytes}
use Rattle.lc_formats.specs.Checkpoint.{Checkpoint, current_of, ReadCheckpoint, point, refused, checkpoint_text, checkpoint_in}
use Rattle.lc_formats.specs.Truth.{IsTrueFor}
use Rattle.lc_io.specs.declared.vault.Slot.{Slot}
use Rattle.lc_io.specs.declared.vault.Slot.TheVariants.{Zero, One}
use Rattle.lc_io.specs.Vaults.{Slots, put}
use Rattle.lc_language.specs.declared.Call.{Call}
use Rattle.lc_session_rules.specs.Needs.{MeetsFirst}

abbrev pub by_parity : Bool → Slot
by_parity true = Zero
by_parity false = One

abbrev pub slot_of : ℕ → Slot
slot_of turn = by_parity (turn % 2 == 0)

-- the turn of the next checkpoint
unfoldable pub next_turn : ℕ → ℕ
next_turn turn = min (turn + 1) (2 ^ 60)

abbrev pub turn_after : ℕ → List SessionStep → ℕ
turn_after turn [] = turn
turn_after turn (s ∷ steps) = turn_after (next_turn turn) steps

unfoldable pub point_of : ℕ → List ℕ → ℕ → ℕ → SessionStep → Checkpoint
point_of version digest budget turn step = record {
  version = version;
  script = digest;
  budget = budget;
  turn = turn;
  settled = step.settled;
  blocks = step.state.blocks;
  weight = step.state.weight;
  place = step.state.place;
}

unfoldable pub stored_bytes : ℕ → List ℕ → ℕ → ℕ → SessionStep → List ℕ
stored_bytes version digest budget turn step = checkpoint_text (point_of version digest budget turn step)

-- a checkpoint goes into the slot of its turn
abbrev pub slots_after : ℕ → List ℕ → ℕ → ℕ → List SessionStep → Slots → Slots
slots_after version digest budget turn [] slots = slots
slots_after version digest budget turn (s ∷ steps) slots = slots_after version digest budget (next_turn turn) steps (put (slot_of turn) (stored_bytes version digest budget turn s) slots)

pub record IsRecordOf (p : Checkpoint) (note : Note) : Type 0 where
  pub need : length p.settled ≡ note.need
  pub blocks : p.blocks ≡ note.blocks

abbrev pub IsTrueCheckpoint : List Call → List ℕ → ℕ → Checkpoint → Type 0
IsTrueCheckpoint table bytes budget p = (front : List Matrix) × MeetsFirst table bytes front × IsTrueFor front (sha256 bytes) budget p

abbrev pub IsTornOr : Slot → List Call → List ℕ → ℕ → ReadCheckpoint → Type 0
IsTornOr slot table bytes budget (point p) = IsTrueCheckpoint table bytes budget p × (slot_of p.turn ≡ slot)
IsTornOr slot table bytes budget (refused r) = Unit {0}

-- a slot that a session stored without a fault: the empty string, or a true checkpoint
abbrev pub IsEmptyOrTrue : Slot → List Call → List ℕ → ℕ → List ℕ → Type 0
IsEmptyOrTrue slot table bytes budget held =
    (held ≡ []) ⊎ ((p : Checkpoint) × (checkpoint_in held ≡ point p) × IsTrueCheckpoint table bytes budget p × (slot_of p.turn ≡ slot))

abbrev pub AreTrueSlots : List Call → List ℕ → ℕ → Slots → Type 0
AreTrueSlots table bytes budget slots = IsTornOr Zero table bytes budget (checkpoint_in slots.zero_slot) × IsTornOr One table bytes budget (checkpoint_in slots.one_slot)

unfoldable pub later_of : ReadCheckpoint → ReadCheckpoint → Option Checkpoint
later_of (point p) (point q) = (if nat_lt p.turn q.turn then Some q else Some p)
later_of (point p) (refused r) = Some p
later_of (refused r) (point q) = Some q
later_of (refused r) (refused s) = None

unfoldable pub chosen : Slots → Option Checkpoint
chosen slots = later_of (checkpoint_in slots.zero_slot) (checkpoint_in slots.one_slot)

pub data Choice : Type 0 where
  nothing_stored : Choice
  none_decodes : Choice
  takes : Checkpoint → Choice

unfoldable pub is_empty : List ℕ → Bool
is_empty [] = true
is_empty (b ∷ bytes) = false

unfoldable pub choice_among : Option Checkpoint → Choice
choice_among None = none_decodes
choice_among (Some p) = takes p

unfoldable pub choice : Slots → Choice
choice slots = (if is_empty slots.zero_slot && is_empty slots.one_slot then nothing_stored else choice_among (chosen slots))

unfoldable pub is_for : List ℕ → ℕ → Checkpoint → Bool
is_for digest budget p = same_bytes p.script digest && (p.budget == budget)

unfoldable pub start_in : (Matrix → ℕ) → List Matrix → Checkpoint → Start
start_in divisor needs p = used_start divisor needs p.version p.settled (current_of p)
