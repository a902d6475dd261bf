use Rattle.std.proofs.Common.{◌≡◌, length, take, replicate}
use Rattle.lc_board.specs.Round.{idle}
use Rattle.lc_board.proofs.round.reset_all.Given as goal

abbrev pub invariant-loop-i : goal.invariant-loop-i
invariant-loop-i l = (length l.actors.items ≡ length l.initial.actors.items) × (take l.i l.actors.items ≡ replicate l.i idle)
