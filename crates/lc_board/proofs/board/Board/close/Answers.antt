use Rattle.std.proofs.Common.{◌≡◌, ◌∷◌, ℕ, map, subst, sym, ap, ◌∙◌, arith}
use Rattle.lc_board.specs.Seats.{Opened, Seated}
use Rattle.lc_board.specs.Counting.{StandOnce, least}
use Rattle.lc_board.specs.Board.{drawn_numbers, reported_values}
use Rattle.lc_board.specs.declared.views.Book.{Book}
use Rattle.lc_board.proofs.Moves.{closed_by}
use Rattle.lc_board.proofs.board.Board.close.Goals as goal
use Rattle.lc_board.proofs.board.Board.close.Goals.{then-next-count, else-next-count}

pub free-requires : goal.free-requires
free-requires c = λ k l.
    let n = c.close_with-closed.ensures.counts.1 in
    let z = c.self.invariant.2 in
    absurd (omega arith)

pub returns-clause-drawn : goal.returns-clause-drawn
returns-clause-drawn c =
    let k = closed_by c.self.inside.table.shared.key c.take_in-all.result.id c.root.inside.seat.me.0 c.take_in-all.result.me.0 c.args.seats.items _ _ c.word-next.result c.word-best.result
    c.take_in-all.ensures.2 c.root.invariant.0 c.root.invariant.1 (ap (λ (s : Seated). s.view.root) c.root.view_is ∙ c.requires.root.1)
    (c.requires.all ∙ sym (ap (λ (s : Seated). s.view.made) c.root.view_is)) c.close_with-closed.ensures.values.2 c.word-next.ensures c.word-best.ensures in
    let b : c.root.inside.seat.me.0.book ≡ c.args.root.view.book = ap (λ (s : Seated). s.view.book) c.root.view_is in
    let n : c.self.inside.count ≡ c.args.self.count = c.self.invariant.0 ∙ ap (λ (b : Opened). b.count) c.self.view_is in (
      c.word-next.result,
      subst (λ (b : Book). StandOnce c.word-next.result (drawn_numbers (b ∷ map (λ (s : Seated). s.view.book) c.args.seats.items))) b k.0,
      elim c.if-next-count.branch [ then-next-count w ↦ omega arith | else-next-count w ↦ omega arith ],
    )

pub returns-clause-best : goal.returns-clause-best
returns-clause-best c =
    let k = closed_by c.self.inside.table.shared.key c.take_in-all.result.id c.root.inside.seat.me.0 c.take_in-all.result.me.0 c.args.seats.items _ _ c.word-next.result c.word-best.result
    c.take_in-all.ensures.2 c.root.invariant.0 c.root.invariant.1 (ap (λ (s : Seated). s.view.root) c.root.view_is ∙ c.requires.root.1)
    (c.requires.all ∙ sym (ap (λ (s : Seated). s.view.made) c.root.view_is)) c.close_with-closed.ensures.values.2 c.word-next.ensures c.word-best.ensures in
    let b : c.root.inside.seat.me.0.book ≡ c.args.root.view.book = ap (λ (s : Seated). s.view.book) c.root.view_is in
    let f : c.self.inside.table.shared.key.first ≡ c.args.self.first = ap (λ (b : Opened). b.first) c.self.view_is in
    k.1 ∙ ap (λ (n : ℕ). least n (reported_values (c.root.inside.seat.me.0.book ∷ map (λ (s : Seated). s.view.book) c.args.seats.items))) f
    ∙ ap (λ (b : Book). least c.args.self.first (reported_values (b ∷ map (λ (s : Seated). s.view.book) c.args.seats.items))) b
