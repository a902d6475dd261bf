use Rattle.std.proofs.Common.{◌≡◌, ℕ, List, length, map, filter, not, slice_index, slice_index_or, [], ap, subst, ◌∙◌}
use Rattle.lc_algebra.specs.Span.{below}
use Rattle.lc_enumeration.specs.InformationSet.{is_member, columns_in_order}
use Rattle.lc_matrix.specs.Elimination.{IsReducedTo}
use Rattle.lc_infoset.specs.Choice.{AreTurned}
use Rattle.lc_infoset.proofs.ChoiceLaws.{IsReducedFrom}
use Rattle.lc_infoset.proofs.NextLaws.{turn_inside, next_state}
use Rattle.lc_infoset.proofs.choose.next_set.Goals as goal

pub rows_at-requires : goal.rows_at-requires
rows_at-requires c =
    let order = c.in_ok-order.order.items in
    let at = c.in_ok-reduced.at.items in
    let pivots = c.in_ok-pivots.pivots.items in
    let turn = c.in_ok-basis.turn.items in
    let rows = c.in_ok-reduced.reduced.rows in
    let reduced : IsReducedTo order (length order) at rows = subst (λ xs. IsReducedTo xs (length xs) at rows) c.deref.ensures.value c.in_ok-reduced.ensures.reduced in
    let picked : pivots ≡ map (slice_index order) at = c.in_ok-pivots.ensures.are ∙ ap (λ xs. map (slice_index xs) c.deref-3.result.now) c.deref-2.ensures.value ∙ ap (map (slice_index order)) c.deref-3.ensures.value in
    let turned : AreTurned c.in_ok-basis.basis.items pivots turn = subst (λ xs. AreTurned c.in_ok-basis.basis.items xs turn) c.deref-4.ensures.value c.in_ok-basis.ensures.turned in
    record { inside = rw c.deref-6.ensures.value (turn_inside c.in_ok-basis.basis.items pivots turn order at rows turned picked reduced) }

pub returns : goal.returns
returns c =
    let code = c.args.code.now in
    let used = c.args.used.now in
    let order = c.in_ok-order.order.items in
    let at = c.in_ok-reduced.at.items in
    let pivots = c.in_ok-pivots.pivots.items in
    let basis = c.in_ok-basis.basis.items in
    let turn = c.in_ok-basis.turn.items in
    let rows = c.in_ok-reduced.reduced.rows in
    let columns : c.cols-n.result ≡ code.columns = c.cols-n.ensures.is in
    let made : IsReducedFrom code.field code.columns order at code.rows rows = record {
      original = c.rows-height.ensures.words;
      words = c.in_ok-reduced.ensures.words;
      same = c.in_ok-reduced.ensures.same;
      count = c.in_ok-reduced.ensures.count;
      reduced = subst (λ xs. IsReducedTo xs (length xs) at rows) c.deref.ensures.value c.in_ok-reduced.ensures.reduced;
    } in
    let in_order : order ≡ columns_in_order code.columns used = c.in_ok-order.ensures.are ∙ ap (λ n. columns_in_order n used) columns in
    let picked : pivots ≡ map (slice_index order) at = c.in_ok-pivots.ensures.are ∙ ap (λ xs. map (slice_index xs) c.deref-3.result.now) c.deref-2.ensures.value ∙ ap (map (slice_index order)) c.deref-3.ensures.value in
    let rising : basis ≡ filter (is_member pivots) (below code.columns) = c.in_ok-basis.ensures.columns ∙ ap (λ (xs : List ℕ). filter (is_member xs) (below c.cols-n.result)) c.deref-4.ensures.value ∙ ap (λ n. filter (is_member pivots) (below n)) columns in
    let turned : AreTurned basis pivots turn = subst (λ xs. AreTurned basis xs turn) c.deref-4.ensures.value c.in_ok-basis.ensures.turned in
    let fresh : c.in_ok-fresh.fresh.items ≡ filter (λ x. not (is_member used x)) basis = c.in_ok-fresh.ensures.are ∙ ap (filter (λ x. not (is_member used x))) c.deref-5.ensures.value in
    let generator = c.in_ok-generator.generator in
    let field : generator.field ≡ code.field = c.in_ok-generator.ensures.field ∙ c.in_ok-reduced.ensures.field in
    let width : generator.columns ≡ code.columns = c.in_ok-generator.ensures.columns ∙ c.in_ok-reduced.ensures.columns in
    let taken : generator.rows ≡ map (λ r. slice_index_or rows r []) turn = c.in_ok-generator.ensures.rows ∙ ap (map (λ r. slice_index_or rows r [])) c.deref-6.ensures.value in
    record { is = next_state code used order at pivots basis turn c.in_ok-fresh.fresh.items rows generator made c.requires.independent in_order picked rising turned fresh field width taken }
