use Rattle.std.proofs.Common.{◌<◌, subst, sym, ap, ◌∙◌, arith}
use Rattle.lc_board.specs.Board.{Owes}
use Rattle.lc_board.specs.Seats.{Opened, Seated}
use Rattle.lc_board.proofs.Moves.{reports}
use Rattle.lc_board.proofs.board.Board.report.Goals as goal

pub fetch_min-requires : goal.fetch_min-requires
fetch_min-requires c =
    let i = c.seat.invariant in
    let t = c.self.inside.table.shared in
    let four = c.self.invariant.1 in (
      ap (λ (s : Seated). s.table) c.seat.view_is ∙ c.requires.board ∙ sym (ap (λ (b : Opened). b.table) c.self.view_is),
      omega (arith, four),
      reports t.key t.table_id.slots c.seat.inside.seat.id c.args.block c.args.value c.seat.inside.seat.me i.0
          (subst (λ (s : Seated). Owes s.view.book c.args.block) (sym c.seat.view_is) c.requires.owed.0)
          (subst (λ (b : Opened). c.args.block < b.count) (sym c.self.view_is) c.requires.owed.1),
    )
