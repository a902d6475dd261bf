use Rattle.std.proofs.Common.{subst, sym, ap, ◌∙◌, arith}
use Rattle.lc_board.specs.Board.{AllReported}
use Rattle.lc_board.specs.Seats.{Opened, Seated}
use Rattle.lc_board.proofs.Moves.{claims}
use Rattle.lc_board.proofs.board.Board.claim.Goals as goal

pub fetch_add-number-requires : goal.fetch_add-number-requires
fetch_add-number-requires c =
    let i = c.seat.invariant in
    let t = c.self.inside.table.shared in
    let four = c.self.invariant.1 in (
      ap (λ (s : Seated). s.table) c.seat.view_is ∙ c.requires.board ∙ sym (ap (λ (b : Opened). b.table) c.self.view_is),
      omega (arith, four),
      claims t.key t.table_id.slots c.seat.inside.seat.id c.seat.inside.seat.me i.0 (subst (λ (s : Seated). AllReported s.view.book) (sym c.seat.view_is) c.requires.reported),
    )
