use Rattle.std.proofs.Common.{◌≡◌, ◌-◌, length, slice_index, sym, ap, ◌∙◌, arith}
use Rattle.lc_algebra.specs.SpanLaws.{restrict}
use Rattle.lc_algebra.proofs.ColumnLaws.{length_restrict}
use Rattle.lc_enumeration.specs.Search.{generator_at}
use Rattle.lc_infoset.specs.Bound.{set_at}
use Rattle.lc_coset.proofs.FrameLaws.{combine_end, first_put, rest_word}
use Rattle.lc_coset.proofs.EntryLaws.{generates}
use Rattle.lc_coset.proofs.frame.add_first.Goals as goal

pub loop-i-init : goal.loop-i-init
loop-i-init c =
    let C = c.args.sets.now in
    let basis = (set_at C c.args.j).basis in
    let many : length basis ≡ length C.rows = ap length (sym c.basis-basis.ensures.is) ∙ c.basis-basis.ensures.count in (
      omega (arith, c.dimension-i.ensures.is),
      c.requires.zero ∙ sym (combine_end C.field C.columns (restrict basis c.args.word.now) (generator_at C c.args.j) c.dimension-i.result (omega (arith, length_restrict basis c.args.word.now, many, c.dimension-i.ensures.is))),
    )

pub add_scaled-requires-clause-to : goal.add_scaled-requires-clause-to
add_scaled-requires-clause-to c =
    let C = c.args.sets.now in
    rw c.field.ensures.is (rest_word C c.args.j c.loop-i.i (restrict (set_at C c.args.j).basis c.args.word.now) c.loop-i.first c.dimension-i.ensures.rows c.dimension-i.ensures.independent c.requires.set c.loop-i.invariant.1).fits

pub add_scaled-requires-clause-lengths : goal.add_scaled-requires-clause-lengths
add_scaled-requires-clause-lengths c =
    let C = c.args.sets.now in
    (rest_word C c.args.j c.loop-i.i (restrict (set_at C c.args.j).basis c.args.word.now) c.loop-i.first c.dimension-i.ensures.rows c.dimension-i.ensures.independent c.requires.set c.loop-i.invariant.1).long ∙ sym c.row.ensures.word.long

pub loop-i-preserved : goal.loop-i-preserved
loop-i-preserved c =
    let C = c.args.sets.now in
    let basis = (set_at C c.args.j).basis in
    let g = generates C c.args.j c.dimension-i.ensures.rows c.dimension-i.ensures.independent c.requires.set in
    let many : length basis ≡ length C.rows = ap length (sym c.basis-basis.ensures.is) ∙ c.basis-basis.ensures.count in (
      omega (arith, c.loop-i.invariant.0),
      first_put C.field C.columns c.args.word.now basis (generator_at C c.args.j) c.loop-i.i _ c.loop-i.first c.add_scaled.new.to c.row.result.now (omega (arith, c.loop-i-test.true)) (omega (arith, c.loop-i.invariant.0, many)) (g.count ∙ sym many)
          c.loop-i.invariant.1 c.row.ensures.is (ap (λ b. slice_index c.args.word.now (slice_index b (c.loop-i.i - 1))) c.basis-basis.ensures.is) (rw c.field.ensures.is at c.add_scaled.ensures.is),
    )
