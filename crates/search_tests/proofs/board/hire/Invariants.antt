use Rattle.std.proofs.Common.{◌≡◌, ◌+◌, length, true}
use Rattle.std.specs.Prelude.{All}
use Rattle.lc_board.specs.Board.{AllReported}
use Rattle.search_tests.proofs.board.hire.Given as goal

abbrev pub invariant-loop : goal.invariant-loop
invariant-loop l =
    (l.root.table ≡ l.initial.root.table) × (l.root.view.root ≡ true) × (l.root.view.made ≡ length l.workers.items + 1) × (length l.workers.items ≡ l.counter)
    × All (λ w. (w.seat.table ≡ l.board.table) × AllReported w.seat.view.book) l.workers.items
