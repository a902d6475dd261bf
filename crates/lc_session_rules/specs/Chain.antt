-- Sessions that follow one another over the two slots of a vault, all with one script and one budget.
--   IsLeft before after                  what a store that failed, or was cut short, may leave in a slot of these bytes: bytes that are
--                                        no checkpoint, or the bytes that were there
--   Leaves version digest budget turn told before after      a session whose first checkpoint has this turn stored those of these
--                                        steps; a store after them may have failed
--   Goes version table bytes budget needs start told        these are the first steps of a session from a start on, by rounds of any
--                                        longest length
--   Chain version table bytes budget slots                  the slots after a chain of sessions: a `run` that emptied them, and then
--                                        any number of `resume`. Sessions that wrote version 1 come before those that write version 2
--   HasBegun ending course               a `run` emptied the slots: it ended with its text or paused, or it told a record
--   IsNextCheckpoint asked course held   these bytes are the checkpoint of the next step, the first of those that were to come
--   TearsSo asked course before after    a store of a session that failed left in its slot what was there, bytes that are no
--                                        checkpoint, or all of the bytes that it was given: the checkpoint of the next step
--   GoesOn table bytes budget new        the vault tells slots that are those of a chain
--   Rises C most blocks states           the states of a search rise, are best words, and have no more blocks than this
--   EndsAtAnswer d C budget longest slice s      its rounds do so up to the blocks of the answer, and end at it unless the slice stops them
--   IsGround table bytes budget          what the law of chains rests on
--   ChainsAreTrue table bytes budget     the law of chains: they leave the slots as `resume` asks for them
use Rattle.std.specs.Prelude.{◌≡◌, ℕ, ◌⊎◌, ◌≤◌, List, ◌++◌, Option, Some, [], ◌∷◌, ◌<◌, ◌^◌, false, slice_get, length}
use Rattle.sha2.specs.Sha256.{sha256}
use Rattle.lc_algebra.specs.Matrix.{Matrix}
use Rattle.lc_enumeration.specs.Search.{answer}
use Rattle.lc_enumeration.specs.Records.{Progress, Start, fresh_start, SessionStep, rounds, last_state, session_rounds, IsBestAt}
use Rattle.lc_formats.specs.Checkpoint.{Checkpoint, CheckpointRefusal, point, refused, checkpoint_text, checkpoint_in}
use Rattle.lc_enumeration.specs.Truth.{answer_blocks, IsSettled}
use Rattle.lc_formats.specs.Truth.{divisor_in}
use Rattle.lc_io.specs.Vaults.{Slots, empty_slots, in_slot, put}
use Rattle.lc_language.specs.declared.Call.{Call}
use Rattle.lc_session_rules.specs.Options.{Settings}
use Rattle.lc_session_rules.specs.Session.{Course, told_slots}
use Rattle.lc_session_rules.specs.Endings.{Ending, done, usage, paused, source_fault, sink_fault, vault_fault, no_memory, no_checkpoint, damaged_checkpoint, other_script, rejected, too_long, unfit}
use Rattle.lc_session_rules.specs.Needs.{MeetsFirst, OneScript, OneStep}
use Rattle.lc_session_rules.specs.Slots.{slot_of, next_turn, turn_after, stored_bytes, slots_after, chosen, start_in, IsTrueCheckpoint, AreTrueSlots}

abbrev pub IsLeft : List ℕ → List ℕ → Type 0
IsLeft before after = (after ≡ before) ⊎ ((r : CheckpointRefusal) × (checkpoint_in after ≡ refused r))

abbrev pub IsVersion : ℕ → Type 0
IsVersion version = (version ≡ 1) ⊎ (version ≡ 2)

abbrev pub Leaves : ℕ → List ℕ → ℕ → ℕ → List SessionStep → Slots → Slots → Type 0
Leaves version digest budget turn told slots after =
    (after ≡ slots_after version digest budget turn told slots)
    ⊎ ((held : List ℕ)
    × IsLeft (in_slot (slot_of (turn_after turn told)) (slots_after version digest budget turn told slots)) held
    × (after ≡ put (slot_of (turn_after turn told)) held (slots_after version digest budget turn told slots)))

-- the steps told are the first of those from the start on; the needs are those of the first statements. Sessions of a chain may
-- have longest rounds of different lengths
pub record Goes (version : ℕ) (table : List Call) (bytes : List ℕ) (budget : ℕ) (needs : List Matrix) (start : Start) (told : List SessionStep) : Type 0 where
  pub version_is : IsVersion version
  pub met : MeetsFirst table bytes needs
  pub longest : ℕ
  pub long : 0 < longest
  pub slice : Option ℕ
  pub left : List SessionStep
  pub rounds : (session_rounds (divisor_in version) needs budget longest slice start).steps ≡ told ++ left

pub data Chain (table : List Call) (bytes : List ℕ) (budget : ℕ) : ℕ → Slots → Type 0 where
  begun : (version : ℕ) (needs : List Matrix) (told : List SessionStep) (slots : Slots) → Goes version table bytes budget needs fresh_start told → Leaves version (sha256 bytes) budget 0 told empty_slots slots → Chain table bytes budget version slots
  resumed : (version later : ℕ) (needs : List Matrix) (p : Checkpoint) (told : List SessionStep) (before slots : Slots) → Chain table bytes budget version before → version ≤ later → chosen before ≡ Some p → Goes later table bytes budget needs (start_in (divisor_in later) needs p) told
      → Leaves later (sha256 bytes) budget (next_turn p.turn) told before slots → Chain table bytes budget later slots

-- the checkpoint of the next step: what a session gives to its next store
abbrev pub IsNextCheckpoint : Settings → Course → List ℕ → Type 0
IsNextCheckpoint asked course held = (s : SessionStep) × (rest : List SessionStep) × (course.left ≡ s ∷ rest) × (held ≡ stored_bytes 2 (sha256 course.bytes) asked.budget (turn_after course.turn course.told) s)

-- a store of a session that failed left in its slot what such a store may leave, or all of the bytes that it was given
abbrev pub TearsSo : Settings → Course → Slots → Slots → Type 0
TearsSo asked course before after =
    (held : List ℕ) → after ≡ put (slot_of (turn_after course.turn course.told)) held (told_slots asked course before)
    → IsLeft (in_slot (slot_of (turn_after course.turn course.told)) (told_slots asked course before)) held ⊎ IsNextCheckpoint asked course held

-- a `run` that emptied the slots, as its ending or its records show
abbrev pub HasBegun : Ending → Course → Type 0
HasBegun (done n) course = Unit {0}
HasBegun (usage i) course = ⊥
HasBegun (paused query blocks) course = Unit {0}
HasBegun source_fault course = ⊥
HasBegun sink_fault course = Unit {0}
HasBegun (vault_fault told) course = ¬ (course.told ≡ [])
HasBegun (no_memory told) course = ¬ (course.told ≡ [])
HasBegun no_checkpoint course = ⊥
HasBegun damaged_checkpoint course = ⊥
HasBegun (other_script script budget) course = ⊥
HasBegun (rejected reason) course = ⊥
HasBegun too_long course = ⊥
HasBegun (unfit query told found) course = ⊥

-- the states of a search rise, are the best words after their blocks, and have no more blocks than the answer
abbrev pub Rises : Matrix → ℕ → ℕ → List Progress → Type 0
Rises C most blocks [] = Unit {0}
Rises C most blocks (s ∷ states) = (blocks < s.blocks) × (s.blocks ≤ most) × IsBestAt C s × Rises C most s.blocks states

-- and its last one is the answer, unless the slice stopped it
pub record EndsAtAnswer (d : ℕ) (C : Matrix) (budget longest : ℕ) (slice : Option ℕ) (s : Progress) : Type 0 where
  pub rises : Rises C (answer_blocks (answer d C budget)) s.blocks (rounds d C budget longest slice s).states
  pub ends : (rounds d C budget longest slice s).is_stopped ≡ false → IsSettled d C budget (last_state s (rounds d C budget longest slice s).states)

-- what the law of chains rests on: facts of the language and of the format of checkpoints
pub record IsGround (table : List Call) (bytes : List ℕ) (budget : ℕ) : Type 0 where
  -- the bytes are one script, and a statement does one thing
  pub script : OneScript bytes
  pub step : OneStep table
  -- a budget is at most 2^40 blocks; every need has rows, and there are fewer than 2^17 of them
  pub small : budget ≤ 2 ^ 40
  pub rows : (needs : List Matrix) → MeetsFirst table bytes needs → (i : ℕ) (C : Matrix) → slice_get needs i ≡ Some C → 0 < length C.rows
  pub few : (needs : List Matrix) → MeetsFirst table bytes needs → length needs < 2 ^ 17
  -- true checkpoints are read back
  pub reads_back : (p : Checkpoint) → IsVersion p.version → IsTrueCheckpoint table bytes budget p → checkpoint_in (checkpoint_text p) ≡ point p

-- the law of chains
abbrev pub ChainsAreTrue : List Call → List ℕ → ℕ → Type 0
ChainsAreTrue table bytes budget = IsGround table bytes budget → (version : ℕ) (slots : Slots) → Chain table bytes budget version slots → AreTrueSlots table bytes budget slots

-- the slots, told after a session, are those of a chain
abbrev pub GoesOn : List Call → List ℕ → ℕ → Option Slots → Type 0
GoesOn table bytes budget new = (after : Slots) × (new ≡ Some after) × ((version : ℕ) × (version ≤ 2) × Chain table bytes budget version after)
