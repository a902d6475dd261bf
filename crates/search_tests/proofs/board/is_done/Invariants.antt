use Rattle.std.proofs.Common.{◌≡◌, length}
use Rattle.search_tests.proofs.board.is_done.Given as goal

abbrev pub invariant-loop-event : goal.invariant-loop-event
invariant-loop-event l = length l.state.actors ≡ 2
