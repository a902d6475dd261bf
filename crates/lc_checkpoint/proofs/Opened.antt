-- Definitions that a proof opens together, under one name.
--   ranges                   whether a settled need of the program is in range
--   numbers_of_refusals      the numbers of refusals, case by case
use Rattle.std.specs.Prelude.{⊤}
use Rattle.lc_formats.specs.Checkpoint.{is_in_range, checkpoint_refusal_number}
use Rattle.lc_checkpoint.specs.Reading.{number_of_refusal}
use Rattle.lc_checkpoint.specs.Seen.{settled_of}

unfoldable pub ranges : ⊤
unfolding is_in_range settled_of
ranges = tt

unfoldable pub numbers_of_refusals : ⊤
unfolding number_of_refusal checkpoint_refusal_number
numbers_of_refusals = tt
