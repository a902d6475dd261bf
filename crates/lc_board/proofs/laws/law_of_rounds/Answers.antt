use Rattle.lc_board.proofs.Rounds.{always_sound, ends_with_the_least}
use Rattle.lc_board.proofs.laws.law_of_rounds.Goals as goal

pub returns : goal.returns
returns c = record { always = always_sound; ended = ends_with_the_least }
