use Rattle.std.proofs.Common.{◌≡◌, ◌+◌, ◌-◌, ◌*◌, ◌/◌, ◌%◌, ◌<◌, ◌≤◌, [], length, slice_index, slice_index_or, set, vec_len, refl, sym, ap, subst, ◌∙◌, arith}
use Rattle.std.proofs.Math.Nat.{mod-lt, mul-le-mul_right, le-mul_of_pos_right}
use Rattle.std.proofs.lemmas.Nat.{div-add-mod'}
use Rattle.std.proofs.lemmas.List.{get_or_default}
use Rattle.lc_algebra.specs.Field.{size}
use Rattle.lc_algebra.proofs.CommonLaws.{below_product}
use Rattle.lc_distances.specs.Planes.{IsPlaneSum}
use Rattle.lc_kernel.specs.Sweeps.{IsGrown}
use Rattle.lc_kernel.proofs.MultipleLaws.{symbol_size}
use Rattle.lc_distances.proofs.RowLaws.{row_of_place, row_some}
use Rattle.lc_kernel.proofs.TableLaws.{kept_part}
use Rattle.lc_kernel.proofs.SweepLaws.{support_is, AreGrown, grown_here, grown_next, heads_grown}
use Rattle.lc_kernel.proofs.sweeps.grow.Goals as goal

pub overflow_mul-row : goal.overflow_mul-row
overflow_mul-row c =
    let s = support_is (length c.args.sweep.now.block.sets.now.rows) c.args.support.now c.requires.rises in
    let row : slice_index c.args.support.now c.args.i ≤ 255 = omega (arith, s.high c.args.i c.requires.entry, c.args.sweep.now.block.few) in
    omega (arith, mul-le-mul_right c.nonzero-elements.result row, c.nonzero-elements.ensures.most)

pub overflow_add-row : goal.overflow_add-row
overflow_add-row c =
    let s = support_is (length c.args.sweep.now.block.sets.now.rows) c.args.support.now c.requires.rises in
    let row : slice_index c.args.support.now c.args.i ≤ 255 = omega (arith, s.high c.args.i c.requires.entry, c.args.sweep.now.block.few) in
    omega (arith, mul-le-mul_right c.nonzero-elements.result row, c.nonzero-elements.ensures.most, c.place_before-above.ensures.inside)

pub index-requires : goal.index-requires
index-requires c =
    let C = c.args.sweep.now.block.sets.now in
    let kept = kept_part C c.args.sweep.now.set c.args.sweep.now.part c.args.sweep.now.grid.now c.index-table.result.now c.index-table.result.now.rows.items c.requires.grid c.requires.part c.index-table.ensures refl in
    let u = c.args.support.now in
    let d = size C.field - 1 in
    let s = support_is (length C.rows) u c.requires.rises in
    let row : slice_index u c.args.i < length C.rows = omega (arith, s.high c.args.i c.requires.entry, c.requires.entry) in
    let inside = below_product (length C.rows) d (slice_index u c.args.i) c.place_before-above.result.1 row (omega (arith, c.place_before-above.ensures.inside, c.nonzero-elements.ensures.is)) in
    let room : slice_index u c.args.i * d + c.place_before-above.result.1 < vec_len c.index-table.result.now.rows = omega (arith, inside, kept.multiples.count, c.index-table.result.now.rows.ok.0) in
    rw c.nonzero-elements.ensures.is room

pub loop-e-init : goal.loop-e-init
loop-e-init c = record {
  inside = omega arith;
  place = div-add-mod' c.args.many c.nonzero-elements.result;
  low = mod-lt c.args.many c.nonzero-elements.ensures.least;
  done = λ x l m. absurd (omega (arith, l, m));
  left = λ x l. refl;
}

pub place_before-above-requires-clause-later : goal.place_before-above-requires-clause-later
place_before-above-requires-clause-later c = λ none. row_some c.loop-e.head c.loop-e.element c.loop-e.e c.nonzero-elements.result c.loop-e.invariant.place (omega (arith, c.loop-e-test.true)) none

pub bounds-heads-above : goal.bounds-heads-above
bounds-heads-above c =
    let rows = le-mul_of_pos_right c.place_before-above.result.0 c.nonzero-elements.ensures.least in
    omega (arith, rows, c.place_before-above.ensures.place, c.loop-e.invariant.place, c.loop-e.invariant.inside, c.loop-e.auto.heads, c.requires.room)

pub sum_planes-sum-requires : goal.sum_planes-sum-requires
sum_planes-sum-requires c = record { symbol = subst (λ g. size g ≤ 16) (sym c.field.ensures.is) (symbol_size c.args.sweep.now.block.sets.now c.field.ensures.symbol) }

pub loop-e-preserved : goal.loop-e-preserved
loop-e-preserved c =
    let C = c.args.sweep.now.block.sets.now in
    let kept = kept_part C c.args.sweep.now.set c.args.sweep.now.part c.args.sweep.now.grid.now c.index-table.result.now c.index-table.result.now.rows.items c.requires.grid c.requires.part c.index-table.ensures refl in
    let u = c.args.support.now in
    let d = size C.field - 1 in
    let a = slice_index u c.args.i in
    let n = c.loop-e.e - 1 in
    let many = c.args.many in
    let f = C.field in
    let rows = c.index-table.result.now.rows.items in
    let initial = c.args.heads.now in
    let old = c.loop-e.heads in
    let z = c.sum_planes-sum.result in
    let some : 0 < d = omega (arith, c.nonzero-elements.ensures.is, c.nonzero-elements.ensures.least) in
    let s = support_is (length C.rows) u c.requires.rises in
    let row : a < length C.rows = omega (arith, s.high c.args.i c.requires.entry, c.requires.entry) in
    let inside = below_product (length C.rows) d a (n % d) row (mod-lt n some) in
    let e = c.nonzero-elements.result in
    let above = c.place_before-above.result.0 in
    let last = c.place_before-above.result.1 in
    let place : above * e + last ≡ n = omega (arith, c.place_before-above.ensures.place, c.loop-e.invariant.place, c.loop-e-test.true) in
    let parts = row_of_place above last n e c.place_before-above.ensures.inside place in
    let at : a * e + last ≡ a * d + n % d = ap (λ t. a * t + last) c.nonzero-elements.ensures.is ∙ ap (λ t. a * d + t) (sym parts.1 ∙ ap (λ t. n % t) c.nonzero-elements.ensures.is) in
    let row_is : c.index.result.now ≡ slice_index_or rows (a * d + n % d) [] = c.index.ensures ∙ ap (λ t. slice_index_or rows t c.index.result.now) at ∙ get_or_default rows (a * d + n % d) c.index.result.now [] (omega (arith, inside, kept.multiples.count)) in
    let next : n + 1 ≡ c.loop-e.e = omega (arith, c.loop-e-test.true) in
    let before : AreGrown f d a rows initial old (n + 1) many = rw next (record { done = c.loop-e.invariant.done; left = c.loop-e.invariant.left }) in
    let divided : above ≡ n / d = sym parts.0 ∙ ap (λ t. n / t) c.nonzero-elements.ensures.is in
    let sum : IsPlaneSum f (slice_index_or old above []) c.index.result.now z = subst (λ g. IsPlaneSum g (slice_index_or old above []) c.index.result.now z) c.field.ensures.is c.sum_planes-sum.ensures.is in
    let here : IsGrown f d a rows initial (set old n z) n = grown_here f d a n rows initial old c.index.result.now z some (omega (arith, next, c.loop-e.invariant.inside, c.requires.room, c.loop-e.auto.heads)) before.left row_is (subst (λ t. IsPlaneSum f (slice_index_or old t []) c.index.result.now z) divided sum) in
    let after = grown_next f d a n many rows initial old z before here in
    record { inside = omega (arith, c.loop-e.invariant.inside); place = place; low = c.place_before-above.ensures.inside; done = after.done; left = after.left }

pub returns : goal.returns
returns c =
    let C = c.args.sweep.now.block.sets.now in
    let kept = kept_part C c.args.sweep.now.set c.args.sweep.now.part c.args.sweep.now.grid.now c.index-table.result.now c.index-table.result.now.rows.items c.requires.grid c.requires.part c.index-table.ensures refl in
    record {
      heads = heads_grown C c.args.sweep.now.set c.args.sweep.now.part c.args.sweep.now.grid.now.planes c.args.i c.args.support.now c.index-table.result.now.rows.items c.args.heads.now c.loop-e.heads c.args.sweep.now.block.rows c.args.sweep.now.block.independent c.requires.set c.requires.rises kept c.requires.some c.requires.entry c.requires.heads
          (λ e l. c.loop-e.invariant.done e (omega (arith, c.loop-e-test.false)) (omega (arith, l, c.requires.many)));
    }
