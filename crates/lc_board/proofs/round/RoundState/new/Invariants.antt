use Rattle.std.proofs.Common.{◌≡◌, replicate}
use Rattle.lc_board.specs.Round.{idle}
use Rattle.lc_board.proofs.round.RoundState.new.Given as goal

abbrev pub invariant-loop : goal.invariant-loop
invariant-loop l = l.list.items ≡ replicate l.counter idle
