use Rattle.std.proofs.Common.{◌≡◌, ◌+◌, ◌<◌, suc, length, bit_xor, slice_index, sym, ap, ◌∙◌, arith}
use Rattle.lc_kernel.specs.Packed.{others, bits_at}
use Rattle.lc_planes.specs.Planes.{part_at}
use Rattle.lc_kernel.specs.Sums.{front_word}
use Rattle.lc_kernel.proofs.FrontLaws.{entries_are}
use Rattle.lc_kernel.proofs.PackLaws.{bits_none, bits_more}
use Rattle.lc_kernel.proofs.TableLaws.{one_part}
use Rattle.lc_kernel.proofs.runs.head_bits.Goals as goal

pub loop-i-init : goal.loop-i-init
loop-i-init c = sym (bits_none c.args.sets.now (part_at (others c.args.sets.now c.args.spot.now.set) c.args.part) c.args.spot.now c.dimension-k.ensures.rows c.dimension-k.ensures.independent c.requires.set)

pub offset_bounds-rows-support : goal.offset_bounds-rows-support
offset_bounds-rows-support c =
    let t = entries_are c.args.sets.now c.args.spot.now c.requires.message in
    let inside : c.loop-i.i < length c.args.spot.now.support = omega (arith, c.loop-i-test.true, c.loop-i.auto.i-end, ap length c.support.ensures.places) in
    rw c.support-in-loop-i.ensures.places (omega (arith, t.row c.loop-i.i inside, c.dimension-k.ensures.is, c.dimension-k.ensures.most, c.length-n.ensures.is, c.length-n.ensures.most))

pub bounds-rows-support : goal.bounds-rows-support
bounds-rows-support c =
    let t = entries_are c.args.sets.now c.args.spot.now c.requires.message in
    let inside : c.loop-i.i < length c.args.spot.now.support = omega (arith, c.loop-i-test.true, c.loop-i.auto.i-end, ap length c.support.ensures.places) in
    let p = one_part c.args.sets.now c.args.spot.now.set c.args.table.now.tail c.args.part c.args.table.now.parts.items c.index.result.now c.requires.table.are c.requires.part c.index.ensures in
    rw c.support-in-loop-i.ensures.places (omega (arith, t.row c.loop-i.i inside, p.tails.count, ap length c.as_slice-rows.ensures.value))

pub loop-i-preserved : goal.loop-i-preserved
loop-i-preserved c =
    let C = c.args.sets.now in
    let s = c.args.spot.now in
    let i = c.loop-i.i in
    let cols = part_at (others C s.set) c.args.part in
    let inside : i < length s.support = omega (arith, c.loop-i-test.true, c.loop-i.auto.i-end, ap length c.support.ensures.places) in
    let p = one_part c.args.sets.now c.args.spot.now.set c.args.table.now.tail c.args.part c.args.table.now.parts.items c.index.result.now c.requires.table.are c.requires.part c.index.ensures in
    let more = bits_more C cols s c.index.result.now.rows.items i c.requires.table.field c.dimension-k.ensures.rows c.dimension-k.ensures.independent c.requires.set c.requires.message p.bits inside in
    let step : suc i ≡ i + 1 = omega arith in
    let front = bits_at cols (front_word C s i) in
    ap (λ b. bit_xor b (slice_index c.as_slice-rows.result.now (slice_index c.support-in-loop-i.result.now i))) c.loop-i.invariant
    ∙ ap (λ u. bit_xor front (slice_index c.as_slice-rows.result.now (slice_index u i))) c.support-in-loop-i.ensures.places
    ∙ ap (λ r. bit_xor front (slice_index r (slice_index s.support i))) c.as_slice-rows.ensures.value
    ∙ sym more ∙ ap (λ n. bits_at cols (front_word C s n)) step
