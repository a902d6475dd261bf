-- What the slots of a vault hold.
--   choice_of found          what was found, as the definitions of a session see it
--   IsInRangeIfTaken found   the checkpoint that is taken is in range
--   IsRead held bytes        what the bytes of a slot are: nothing, no checkpoint, or this one
--   IsRanged held            the checkpoint is in range
--   IsChosen zero one found  what is found, of what the two slots hold
--   CountsLoad e before now  the faults of a vault after a refusal: one more if a load failed, else as many as before
use Rattle.std.specs.Prelude.{◌≡◌, ℕ, false, List, []}
use Rattle.lc_formats.specs.Checkpoint.{IsInRange, checkpoint_in, point, refused}
use Rattle.lc_formats.specs.Checkpoint as formats
use Rattle.lc_io.specs.Outside.{HasRisen}
use Rattle.lc_session_rules.specs.Slots.{Choice, nothing_stored, none_decodes, takes, is_empty, choice}
use Rattle.lc_checkpoint.specs.Seen.{point_of}
use Rattle.lc_slots.specs.declared.choosing.Found.{Found}
use Rattle.lc_slots.specs.declared.choosing.Found.TheVariants.{Nothing, Damaged, Taken}
use Rattle.lc_slots.specs.declared.reading.Held.{Held}
use Rattle.lc_slots.specs.declared.reading.Held.TheVariants.{Empty, Refused, Holds}
use Rattle.lc_slots.specs.declared.reading.LoadRefusal.{LoadRefusal}
use Rattle.lc_slots.specs.declared.reading.LoadRefusal.TheVariants.{VaultFault, NoMemory}

abbrev pub choice_of : Found → Choice
choice_of Nothing = nothing_stored
choice_of Damaged = none_decodes
choice_of (Taken p) = takes (point_of p)

abbrev pub IsInRangeIfTaken : Found → Type 0
IsInRangeIfTaken Nothing = Unit {0}
IsInRangeIfTaken Damaged = Unit {0}
IsInRangeIfTaken (Taken p) = IsInRange (point_of p)

abbrev pub IsRead : Held → List ℕ → Type 0
IsRead Empty bytes = bytes ≡ []
IsRead Refused bytes = (is_empty bytes ≡ false) × ((r : formats.CheckpointRefusal) × (checkpoint_in bytes ≡ refused r))
IsRead (Holds p) bytes = (is_empty bytes ≡ false) × (checkpoint_in bytes ≡ point (point_of p))

abbrev pub IsRanged : Held → Type 0
IsRanged Empty = Unit {0}
IsRanged Refused = Unit {0}
IsRanged (Holds p) = IsInRange (point_of p)

pub record IsChosen (zero one : Held) (found : Found) : Type 0 where
  pub is : (u v : List ℕ) → IsRead zero u → IsRead one v → choice (record { zero_slot = u; one_slot = v }) ≡ choice_of found
  pub ranged : IsRanged zero → IsRanged one → IsInRangeIfTaken found

abbrev pub CountsLoad : LoadRefusal → ℕ → ℕ → Type 0
CountsLoad VaultFault before now = HasRisen before now
CountsLoad NoMemory before now = now ≡ before
