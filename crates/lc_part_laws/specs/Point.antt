-- The checkpoint that joined parts make, for `resume` to go on from.
--   joined_state C budget parts       how far parts bring the search of a code that are taken one after another from its beginning
--   joined_point digest budget s      the checkpoint of a state of the first search of a script: version 2, turn 0, and no need is
--                                     settled
--   HoldsPoint digest budget s slots  slot Zero reads as this checkpoint, and slot One as none
--   HoldsText digest budget s slots   slot Zero holds the text of this checkpoint, and slot One reads as none
use Rattle.std.specs.Prelude.{◌≡◌, ℕ, List, []}
use Rattle.lc_algebra.specs.Matrix.{Matrix}
use Rattle.lc_enumeration.specs.Records.{Progress, first_progress}
use Rattle.lc_formats.specs.Checkpoint.{Checkpoint, CheckpointRefusal, point, refused, checkpoint_text, checkpoint_in}
use Rattle.lc_io.specs.Vaults.{Slots}
use Rattle.lc_parts.specs.Part.{Part, facts_of}
use Rattle.lc_parts.specs.Along.{along}

unfoldable pub joined_state : Matrix → ℕ → List Part → Progress
joined_state C budget parts = along (facts_of C) budget (first_progress C) parts

unfoldable pub joined_point : List ℕ → ℕ → Progress → Checkpoint
joined_point digest budget s = record {
  version = 2;
  script = digest;
  budget = budget;
  turn = 0;
  settled = [];
  blocks = s.blocks;
  weight = s.weight;
  place = s.place;
}

pub record HoldsPoint (digest : List ℕ) (budget : ℕ) (s : Progress) (slots : Slots) : Type 0 where
  pub zero_is : checkpoint_in slots.zero_slot ≡ point (joined_point digest budget s)
  pub one_is : (r : CheckpointRefusal) × (checkpoint_in slots.one_slot ≡ refused r)

pub record HoldsText (digest : List ℕ) (budget : ℕ) (s : Progress) (slots : Slots) : Type 0 where
  pub zero_is : slots.zero_slot ≡ checkpoint_text (joined_point digest budget s)
  pub one_is : (r : CheckpointRefusal) × (checkpoint_in slots.one_slot ≡ refused r)
