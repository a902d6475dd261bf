use Rattle.std.proofs.Common.{◌<◌, subst, sym, ap, ◌∙◌, arith}
use Rattle.lc_board.specs.Seats.{Opened, Seated}
use Rattle.lc_board.proofs.Moves.{splits}
use Rattle.lc_board.proofs.board.Board.split.Goals as goal

pub split_seat-new-requires : goal.split_seat-new-requires
split_seat-new-requires c =
    let i = c.seat.invariant in
    let t = c.self.inside.table.shared in
    let four = c.self.invariant.1 in (
      ap (λ (s : Seated). s.table) c.seat.view_is ∙ c.requires.board ∙ sym (ap (λ (b : Opened). b.table) c.self.view_is),
      omega (arith, four),
      splits t.key c.seat.inside.seat.id c.seat.inside.seat.me.0 i.0
          (ap (λ (s : Seated). s.view.root) c.seat.view_is ∙ c.requires.root)
          (subst (λ (s : Seated). s.view.made < 256) (sym c.seat.view_is) c.requires.room),
    )
