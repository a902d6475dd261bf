-- Definitions that a proof opens together, under one name.
--   numbers_of_refusals      the numbers of refusals, case by case
use Rattle.std.specs.Prelude.{⊤}
use Rattle.lc_formats.specs.Checkpoint.{checkpoint_refusal_number}
use Rattle.lc_part_lines.specs.Seen.{refusal_of}

unfoldable pub numbers_of_refusals : ⊤
unfolding refusal_of checkpoint_refusal_number
numbers_of_refusals = tt
