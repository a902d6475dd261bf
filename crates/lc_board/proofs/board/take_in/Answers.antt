use Rattle.std.proofs.Common.{◌≡◌, ◌∷◌, subst, ap, ◌∙◌, arith, rules}
use Rattle.std.specs.Prelude.{All}
use Rattle.std.proofs.lemmas.List.Elements.{All-head, All-tail}
use Rattle.atomic_table.specs.Table.{Me}
use Rattle.lc_board.specs.Seats.{Seated}
use Rattle.lc_board.specs.declared.views.View.{View}
use Rattle.lc_board.proofs.Moves.{joins, joined_more}
use Rattle.lc_board.proofs.board.take_in.Goals as goal

pub join_seat-requires : goal.join_seat-requires
join_seat-requires c =
    let i = c.loop-other.invariant in
    let o = c.other.invariant in
    let r = c.requires.root in
    let four = c.requires.words in
    let of_table : c.in-Some.other.table ≡ c.args.table.now.table_id = (let rest : c.loop-other.other-iterator.rest.items ≡ c.in-Some.other ∷ c.next.new.self.rest.items = search rules in All-head (λ (s : Seated). s.table ≡ c.args.table.now.table_id) c.in-Some.other c.next.new.self.rest.items (subst (All (λ (s : Seated). s.table ≡ c.args.table.now.table_id)) rest i.3)) in (
      i.0 ∙ r.0,
      ap (λ (s : Seated). s.table) c.other.view_is ∙ of_table,
      o.2,
      omega (arith, four),
      joins c.args.table.now.key c.loop-other.root.id c.other.inside.seat.id c.loop-other.root.me.0 c.other.inside.seat.me.0
          (ap (λ (v : View). v.spent) i.2 ∙ r.1) (ap (λ (v : View). v.root) i.2 ∙ r.2) o.0,
    )

pub loop-other-preserved : goal.loop-other-preserved
loop-other-preserved c =
    let i = c.loop-other.invariant in
    let j = c.join_seat.ensures in
    let rest : c.loop-other.other-iterator.rest.items ≡ c.in-Some.other ∷ c.next.new.self.rest.items = search rules in (
      j.0 ∙ i.0,
      j.1 ∙ i.1,
      ap (λ (m : Me (Unit {0}) View). m.0) j.2 ∙ joined_more c.args.root.me.0 c.loop-other.root.me.0 c.other.inside.seat.me.0 c.loop-other.yielded c.in-Some.other i.2 (ap (λ (s : Seated). s.view) c.other.view_is),
      All-tail (λ (s : Seated). s.table ≡ c.args.table.now.table_id) c.in-Some.other c.next.new.self.rest.items (subst (All (λ (s : Seated). s.table ≡ c.args.table.now.table_id)) rest i.3),
    )
