-- Definitions that a proof opens together, under one name.
--   scripts_and_points      whether a checkpoint is of a script and a budget, and the checkpoint that a `Checkpoint` stands for
use Rattle.std.specs.Prelude.{⊤}
use Rattle.lc_checkpoint.specs.Seen.{point_of}
use Rattle.lc_session_rules.specs.Slots.{is_for}

unfoldable pub scripts_and_points : ⊤
unfolding is_for point_of
scripts_and_points = tt
