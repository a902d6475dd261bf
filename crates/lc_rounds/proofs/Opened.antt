-- Definitions that a proof opens together, under one name.
--   points_and_turns      the checkpoint that a `Checkpoint` stands for, and the turn of the next one
use Rattle.std.specs.Prelude.{⊤}
use Rattle.lc_checkpoint.specs.Seen.{point_of}
use Rattle.lc_session_rules.specs.Slots.{next_turn}

unfoldable pub points_and_turns : ⊤
unfolding point_of next_turn
points_and_turns = tt
