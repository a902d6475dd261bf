use Rattle.std.proofs.Common.{◌≡◌}
use Rattle.lc_board.specs.Board.{AllReported}
use Rattle.search_tests.proofs.board.work.Given as goal

abbrev pub invariant-loop : goal.invariant-loop
invariant-loop l = (l.worker.seat.table ≡ l.board.table) × AllReported l.worker.seat.view.book
