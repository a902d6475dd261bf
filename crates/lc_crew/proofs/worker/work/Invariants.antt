use Rattle.std.proofs.Common.{◌≡◌, ◌+◌, ◌-◌, ◌≤◌, length}
use Rattle.lc_board.specs.Board.{AllReported}
use Rattle.lc_crew.specs.Work.{HasReported}
use Rattle.lc_crew.proofs.WorkLaws.{above}
use Rattle.lc_crew.proofs.worker.work.Given as goal

abbrev pub invariant-loop-number : goal.invariant-loop-number
invariant-loop-number g l =
    (l.seat.table ≡ l.fn.round.board.now.table) × AllReported l.seat.view.book
    × HasReported (λ x. g.B.Blocks.value l.fn.round.blocks.now (l.fn.round.start + x)) (λ x. g.B.Blocks.share l.fn.round.blocks.now (l.fn.round.start + x)) l.fn.round.board.now.count l.fn.seat.view (g.B.Blocks.tally l.fn.round.blocks.now l.fn.room) l.seat.view (g.B.Blocks.tally l.fn.round.blocks.now l.room)
    × g.B.Blocks.fits l.fn.round.blocks.now l.room
    × (length l.seat.view.book.drawn ≤ length l.fn.seat.view.book.drawn + above l.seat.view.book.drawn)

abbrev pub decreases-loop-number : goal.decreases-loop-number
decreases-loop-number g l = l.round.board.now.count - above l.seat.view.book.drawn
