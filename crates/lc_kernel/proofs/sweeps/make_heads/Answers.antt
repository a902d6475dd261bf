use Rattle.std.proofs.Common.{◌≡◌, ◌+◌, ◌-◌, ◌*◌, ◌^◌, ◌<◌, ◌≤◌, [], length, slice_index, slice_index_or, set, vec_len, refl, sym, ap, ◌∙◌, arith}
use Rattle.std.proofs.Math.Nat.{pow-zero, one-le-pow, mul-le-mul_right}
use Rattle.std.proofs.lemmas.List.{get_or_default, get_or-set_same, length-set}
use Rattle.lc_algebra.specs.Field.{size}
use Rattle.lc_algebra.proofs.CommonLaws.{below_product}
use Rattle.lc_kernel.specs.Sweeps.{list_count}
use Rattle.lc_kernel.proofs.TableLaws.{kept_part}
use Rattle.lc_kernel.proofs.SweepLaws.{support_is, heads_first, pair_of_heads, heads_less}
use Rattle.lc_kernel.proofs.sweeps.make_heads.Goals as goal

pub overflow_mul-support : goal.overflow_mul-support
overflow_mul-support c =
    let s = support_is (length c.args.sweep.now.block.sets.now.rows) c.args.support.now c.requires.rises in
    let row : slice_index c.args.support.now 0 ≤ 255 = omega (arith, s.high 0 (omega (arith, c.requires.level)), c.args.sweep.now.block.few) in
    omega (arith, mul-le-mul_right c.nonzero-elements.result row, c.nonzero-elements.ensures.most)

pub index-requires : goal.index-requires
index-requires c =
    let C = c.args.sweep.now.block.sets.now in
    let kept = kept_part C c.args.sweep.now.set c.args.sweep.now.part c.args.sweep.now.grid.now c.index-table.result.now c.index-table.result.now.rows.items c.requires.grid c.requires.part c.index-table.ensures refl in
    let u = c.args.support.now in
    let d = size C.field - 1 in
    let s = support_is (length C.rows) u c.requires.rises in
    let row : slice_index u 0 < length C.rows = omega (arith, s.high 0 (omega (arith, c.requires.level)), c.requires.level) in
    let inside = below_product (length C.rows) d (slice_index u 0) 0 row (omega (arith, c.nonzero-elements.ensures.is, c.nonzero-elements.ensures.least)) in
    let room : slice_index u 0 * d < vec_len c.index-table.result.now.rows = omega (arith, inside, kept.multiples.count, c.index-table.result.now.rows.ok.0) in
    rw c.nonzero-elements.ensures.is room

pub bounds-heads-0 : goal.bounds-heads-0
bounds-heads-0 c =
    let some : 1 ≤ list_count c.args.sweep.now.block.sets.now (length c.args.support.now - 2) = one-le-pow (length c.args.support.now - 2 - 1) (size c.args.sweep.now.block.sets.now.field - 1) (omega (arith, c.nonzero-elements.ensures.is, c.nonzero-elements.ensures.least)) in
    omega (arith, some, c.requires.room)

pub loop-i-init : goal.loop-i-init
loop-i-init c =
    let C = c.args.sweep.now.block.sets.now in
    let kept = kept_part C c.args.sweep.now.set c.args.sweep.now.part c.args.sweep.now.grid.now c.index-table.result.now c.index-table.result.now.rows.items c.requires.grid c.requires.part c.index-table.ensures refl in
    let u = c.args.support.now in
    let d = size C.field - 1 in
    let rows = c.index-table.result.now.rows.items in
    let s = support_is (length C.rows) u c.requires.rises in
    let row : slice_index u 0 < length C.rows = omega (arith, s.high 0 (omega (arith, c.requires.level)), c.requires.level) in
    let inside = below_product (length C.rows) d (slice_index u 0) 0 row (omega (arith, c.nonzero-elements.ensures.is, c.nonzero-elements.ensures.least)) in
    let some : 1 ≤ list_count C (length u - 2) = one-le-pow (length u - 2 - 1) d (omega (arith, c.nonzero-elements.ensures.is, c.nonzero-elements.ensures.least)) in
    let at : slice_index u 0 * c.nonzero-elements.result ≡ slice_index u 0 * d = ap (λ z. slice_index u 0 * z) c.nonzero-elements.ensures.is in
    let row_is : c.index.result.now ≡ slice_index_or rows (slice_index u 0 * d) [] = c.index.ensures ∙ ap (λ t. slice_index_or rows t c.index.result.now) at ∙ get_or_default rows (slice_index u 0 * d) c.index.result.now [] (omega (arith, inside, kept.multiples.count)) in
    record {
      many = sym (pow-zero d);
      heads = heads_first C c.args.sweep.now.set c.args.sweep.now.part c.args.sweep.now.grid.now.planes u rows (set c.args.heads.now 0 c.index.result.now) c.args.sweep.now.block.rows c.args.sweep.now.block.independent c.requires.set c.requires.rises kept (omega (arith, c.requires.level)) (get_or-set_same c.args.heads.now 0 c.index.result.now [] (omega (arith, some, c.requires.room)) ∙ row_is);
    }

pub overflow_mul-many : goal.overflow_mul-many
overflow_mul-many c =
    let d = size c.args.sweep.now.block.sets.now.field - 1 in
    let less = heads_less d c.loop-i.i (length c.args.support.now - 2) (omega (arith, c.nonzero-elements.ensures.is, c.nonzero-elements.ensures.least)) (omega (arith, c.loop-i-test.true, c.loop-i.auto.i-end)) in
    let small : c.loop-i.many ≤ 1024 = omega (arith, less, c.loop-i.invariant.many, c.requires.few) in
    omega (arith, mul-le-mul_right c.nonzero-elements.result small, c.nonzero-elements.ensures.most)

pub grow-requires-clause-many : goal.grow-requires-clause-many
grow-requires-clause-many c =
    let d = size c.args.sweep.now.block.sets.now.field - 1 in
    ap (λ z. z * c.nonzero-elements.result) c.loop-i.invariant.many ∙ ap (λ z. d ^ (c.loop-i.i - 1) * z) c.nonzero-elements.ensures.is ∙ pair_of_heads d c.loop-i.i (omega (arith, c.loop-i.auto.i))

pub grow-requires-clause-room : goal.grow-requires-clause-room
grow-requires-clause-room c =
    let d = size c.args.sweep.now.block.sets.now.field - 1 in
    let less = heads_less d (c.loop-i.i + 1) (length c.args.support.now - 2) (omega (arith, c.nonzero-elements.ensures.is, c.nonzero-elements.ensures.least)) (omega (arith, c.loop-i-test.true, c.loop-i.auto.i-end)) in
    let is : c.loop-i.many * c.nonzero-elements.result ≡ d ^ (c.loop-i.i + 1 - 1) = ap (λ z. z * c.nonzero-elements.result) c.loop-i.invariant.many ∙ ap (λ z. d ^ (c.loop-i.i - 1) * z) c.nonzero-elements.ensures.is ∙ pair_of_heads d c.loop-i.i (omega (arith, c.loop-i.auto.i)) in
    omega (arith, is, less, c.requires.room, c.loop-i.auto.heads, length-set c.args.heads.now 0 c.index.result.now)

pub loop-i-preserved : goal.loop-i-preserved
loop-i-preserved c =
    let d = size c.args.sweep.now.block.sets.now.field - 1 in
    record {
      many = ap (λ z. z * c.nonzero-elements.result) c.loop-i.invariant.many ∙ ap (λ z. d ^ (c.loop-i.i - 1) * z) c.nonzero-elements.ensures.is ∙ pair_of_heads d c.loop-i.i (omega (arith, c.loop-i.auto.i));
      heads = c.grow.ensures.heads;
    }
