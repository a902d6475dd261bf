use Rattle.std.proofs.Common.{◌≡◌, ◌+◌, length, vec_len}
use Rattle.std.specs.Prelude.{All}
use Rattle.search_tests.proofs.board.close_all.Given as goal

abbrev pub invariant-loop-worker : goal.invariant-loop-worker
invariant-loop-worker l =
    (length l.seats.items + length l.workers.items ≡ length l.fn.workers.items)
    × All (λ s. s.table ≡ l.fn.board.table) l.seats.items × All (λ w. w.seat.table ≡ l.fn.board.table) l.workers.items

abbrev pub decreases-loop-worker : goal.decreases-loop-worker
decreases-loop-worker l = vec_len l.workers
