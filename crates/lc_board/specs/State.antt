-- How the machine's fields stand for a state of the round.
--   round_of s   the state that the fields stand for
--   IsKept s     what holds of the fields
use Rattle.std.specs.Prelude.{◌≤◌, length}
use Rattle.lc_board.specs.Round.{Round, IsSound}
use Rattle.lc_board.specs.declared.round.RoundState.TheInside.{Inside}

abbrev pub round_of : Inside → Round
round_of s = record { count = s.count; first = s.first; next = s.next; best = s.best; mode = s.mode; actors = s.actors.items }

pub record IsKept (s : Inside) : Type 0 where
  pub sound : IsSound (round_of s)
  pub few_blocks : s.count ≤ 256
  pub few_actors : length s.actors.items ≤ 256
