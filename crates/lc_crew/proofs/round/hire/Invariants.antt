use Rattle.std.proofs.Common.{◌≡◌, ◌+◌, ◌-◌, ◌≤◌, [], true, length, map, vec_capacity}
use Rattle.std.specs.Prelude.{All}
use Rattle.lc_enumeration.specs.Message.{numbers_from}
use Rattle.lc_crew.specs.Crew.{IsFresh, IsReady}
use Rattle.lc_crew.proofs.round.hire.Given as goal

abbrev pub invariant-loop-number : goal.invariant-loop-number
invariant-loop-number g l =
    (l.root.table ≡ l.fn.board.table) × (l.root.view.root ≡ true) × (l.root.view.made ≡ l.number) × (length l.list.items + 1 ≡ l.number)
    × (l.root.view.book.drawn ≡ []) × (l.root.view.book.reported ≡ []) × All (IsReady (g.B.Blocks.fits l.fn.blocks) (g.B.Blocks.tally l.fn.blocks) l.fn.board) l.list.items
    × All (IsFresh (g.B.Blocks.fits l.fn.blocks) (g.B.Blocks.tally l.fn.blocks)) l.spare.items × (l.fn.workers + 1 ≤ length l.spare.items + l.number)
    × (length l.spare.items + l.number ≡ length l.fn.spare.items + 1) × (vec_capacity l.spare ≡ vec_capacity l.fn.spare)
    × (map (λ w. w.number) l.list.items ≡ numbers_from 1 (l.number - 1))
