use Rattle.std.proofs.Common.{◌≡◌, refl, sym, subst}
use Rattle.std.specs.Prelude.{All}
use Rattle.lc_board.specs.Seats.{Seated}
use Rattle.lc_crew.proofs.CrewLaws.{last_is_root, tables_of, closed}
use Rattle.lc_crew.proofs.round.close_all.Goals as goal

pub close-requires-clause-root : goal.close-requires-clause-root
close-requires-clause-root g c =
    let parts = c.in-Some.ensures.items in (
      (tables_of c.args.board _ _ _ parts c.requires.table).0,
      (last_is_root _ _ _ c.requires.root parts).0,
    )

pub close-requires-clause-seats : goal.close-requires-clause-seats
close-requires-clause-seats g c =
    subst (All (λ (s : Seated). s.table ≡ c.args.board.table)) (sym c.dismiss-seats.ensures.seats) (tables_of c.args.board _ _ _ c.in-Some.ensures.items c.requires.table).1

pub returns-clause-closed : goal.returns-clause-closed
returns-clause-closed g c = λ tally value share start done.
    closed tally value share start c.args.board _ _ c.in-Some.last _ _ c.close.ensures.drawn.0 _ _ c.in-Some.ensures.items refl c.dismiss-seats.ensures.seats done c.close.ensures.drawn.1 c.close.ensures.drawn.2 c.close.ensures.best
