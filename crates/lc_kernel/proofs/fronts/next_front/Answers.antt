use Rattle.std.proofs.Common.{◌≡◌, ◌+◌, ◌-◌, ◌*◌, ◌<◌, ◌≤◌, [], length, slice_index, slice_index_or, vec_len, refl, sym, ap, subst, ◌∙◌, arith}
use Rattle.std.proofs.Math.Nat.{mul-le-mul_right}
use Rattle.std.proofs.lemmas.List.{get_or_default}
use Rattle.lc_algebra.specs.Field.{size}
use Rattle.lc_algebra.proofs.CommonLaws.{below_product}
use Rattle.lc_distances.specs.Planes.{IsPlaneSum}
use Rattle.lc_kernel.proofs.FrontLaws.{entries_are}
use Rattle.lc_kernel.proofs.MultipleLaws.{symbol_size}
use Rattle.lc_kernel.proofs.TableLaws.{kept_part}
use Rattle.lc_kernel.proofs.FrontPlanes.{front_planes_next}
use Rattle.lc_kernel.proofs.fronts.next_front.Goals as goal

pub overflow_mul-row : goal.overflow_mul-row
overflow_mul-row c =
    let e = entries_are c.args.sets.now c.args.spot.now c.requires.message in
    let row : slice_index c.args.spot.now.support c.args.i ≤ 255 = omega (arith, e.row c.args.i c.requires.entry, c.dimension-k.ensures.is, c.dimension-k.ensures.most, c.length-n.ensures.is, c.length-n.ensures.most) in
    rw c.support-support.ensures.places (omega (arith, mul-le-mul_right c.nonzero.result row, c.nonzero.ensures.most))

pub bounds-coefficients-i : goal.bounds-coefficients-i
bounds-coefficients-i c = omega (arith, c.requires.entry, (entries_are c.args.sets.now c.args.spot.now c.requires.message).many, ap length c.coefficients-coefficients.ensures.entries)

pub overflow_sub-element : goal.overflow_sub-element
overflow_sub-element c =
    let e = entries_are c.args.sets.now c.args.spot.now c.requires.message in
    rw c.coefficients-coefficients.ensures.entries (e.fitting.some c.args.i (omega (arith, c.requires.entry, e.many)))

pub overflow_add-row : goal.overflow_add-row
overflow_add-row c =
    let e = entries_are c.args.sets.now c.args.spot.now c.requires.message in
    let row : slice_index c.args.spot.now.support c.args.i ≤ 255 = omega (arith, e.row c.args.i c.requires.entry, c.dimension-k.ensures.is, c.dimension-k.ensures.most, c.length-n.ensures.is, c.length-n.ensures.most) in
    rw (c.support-support.ensures.places, c.coefficients-coefficients.ensures.entries) (omega (arith, mul-le-mul_right c.nonzero.result row, c.nonzero.ensures.most, c.nonzero.ensures.is, e.element c.args.i c.requires.entry))

pub index-requires : goal.index-requires
index-requires c =
    let C = c.args.sets.now in
    let kept = kept_part C c.args.spot.now.set c.args.table.now.part c.args.table.now.grid.now c.index-part.result.now c.index-part.result.now.rows.items c.requires.grid c.requires.part c.index-part.ensures refl in
    let s = c.args.spot.now in
    let i = c.args.i in
    let d = size C.field - 1 in
    let e = entries_are C s c.requires.message in
    let some = e.fitting.some i (omega (arith, c.requires.entry, e.many)) in
    let inside = below_product (length C.rows) d (slice_index s.support i) (slice_index s.coefficients i - 1) (e.row i c.requires.entry) (omega (arith, e.element i c.requires.entry, some)) in
    let room : slice_index s.support i * d + (slice_index s.coefficients i - 1) < vec_len c.index-part.result.now.rows = omega (arith, inside, kept.multiples.count, c.index-part.result.now.rows.ok.0) in
    rw (c.support-support.ensures.places, c.coefficients-coefficients.ensures.entries, c.nonzero.ensures.is) room

pub sum_planes-requires : goal.sum_planes-requires
sum_planes-requires c = record { symbol = subst (λ g. size g ≤ 16) (sym c.field.ensures.is) (symbol_size c.args.sets.now c.field.ensures.symbol) }

pub returns : goal.returns
returns c =
    let C = c.args.sets.now in
    let kept = kept_part C c.args.spot.now.set c.args.table.now.part c.args.table.now.grid.now c.index-part.result.now c.index-part.result.now.rows.items c.requires.grid c.requires.part c.index-part.ensures refl in
    let s = c.args.spot.now in
    let i = c.args.i in
    let d = size C.field - 1 in
    let rows = c.index-part.result.now.rows.items in
    let e = entries_are C s c.requires.message in
    let some = e.fitting.some i (omega (arith, c.requires.entry, e.many)) in
    let place = slice_index s.support i * d + (slice_index s.coefficients i - 1) in
    let inside : place < length C.rows * d = below_product (length C.rows) d (slice_index s.support i) (slice_index s.coefficients i - 1) (e.row i c.requires.entry) (omega (arith, e.element i c.requires.entry, some)) in
    let at : slice_index c.support-support.result.now i * c.nonzero.result + (slice_index c.coefficients-coefficients.result.now i - 1) ≡ place = rw (c.support-support.ensures.places, c.coefficients-coefficients.ensures.entries, c.nonzero.ensures.is) refl in
    let row : c.index.result.now ≡ slice_index_or rows place [] = c.index.ensures ∙ ap (λ t. slice_index_or rows t c.index.result.now) at ∙ get_or_default rows place c.index.result.now [] (omega (arith, inside, kept.multiples.count)) in
    record { is = front_planes_next C s c.args.table.now.part c.args.table.now.grid.now.planes i rows c.args.front.now c.index.result.now c.sum_planes.result c.dimension-k.ensures.rows c.dimension-k.ensures.independent c.requires.set c.requires.message kept c.requires.entry c.requires.front row (subst (λ g. IsPlaneSum g c.args.front.now c.index.result.now c.sum_planes.result) c.field.ensures.is c.sum_planes.ensures.is) }
