-- A worked round of two blocks and two actors, by evaluation of the definitions.
--   first_steps     both actors draw, and the second reports 7
--   whole_round     then the first reports 8 and draws once more, which puts it past the blocks, and the round ends
--   resumed         a round that is killed and resumed starts anew
--   held_blocks     the blocks that actors hold or have finished after the first steps
--   least_of_all    the least of 9, 7 and 8
use Rattle.std.proofs.Common.{◌≡◌, refl}
use Rattle.std.specs.Prelude.{List, [], ◌∷◌, Some, None, true, false}
use Rattle.lc_board.specs.declared.round.Mode.TheVariants.{Running, Ended}
use Rattle.lc_board.specs.declared.round.Event.{Event}
use Rattle.lc_board.specs.declared.round.Event.TheVariants.{Claim, Report, EndRound, Kill, Resume}
use Rattle.lc_board.specs.Counting.{least}
use Rattle.lc_board.specs.Round.{Round, start, moved, blocks}

abbrev pub after : Round → List Event → Round
after r [] = r
after r (e ∷ es) = after (moved r e) es

abbrev pub first_three : List Event
first_three = Claim 0 ∷ Claim 1 ∷ Report 1 7 ∷ []

abbrev pub last_three : List Event
last_three = Report 0 8 ∷ Claim 0 ∷ EndRound ∷ []

pub first_steps : after (start 2 9 2) first_three ≡ record { count = 2; first = 9; next = 2; best = 7; mode = Running; actors = record { held = Some 0; past = false; finished = [] } ∷ record { held = None; past = false; finished = (1, 7) ∷ [] } ∷ [] }
first_steps = refl

pub whole_round : after (after (start 2 9 2) first_three) last_three ≡ record { count = 2; first = 9; next = 3; best = 7; mode = Ended; actors = record { held = None; past = true; finished = (0, 8) ∷ [] } ∷ record { held = None; past = false; finished = (1, 7) ∷ [] } ∷ [] }
whole_round = refl

pub resumed : after (start 2 9 2) (Claim 0 ∷ Kill ∷ Resume ∷ []) ≡ start 2 9 2
resumed = refl

pub held_blocks : blocks (after (start 2 9 2) first_three) ≡ 0 ∷ 1 ∷ []
held_blocks = refl

pub least_of_all : least 9 (7 ∷ 8 ∷ []) ≡ 7
least_of_all = refl
