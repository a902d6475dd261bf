use Rattle.std.proofs.Common.{◌≡◌, ◌+◌, ◌-◌, ◌*◌, ◌<◌, Some, length, slice_get, slice_index, sym, ap, ◌∙◌, arith}
use Rattle.std.proofs.Math.Nat.{mul-le-mul_right}
use Rattle.std.proofs.lemmas.List.{take_all}
use Rattle.lc_algebra.specs.Field.{size}
use Rattle.lc_algebra.proofs.FieldLaws.{one_inside}
use Rattle.lc_enumeration.specs.Message.{messages, leading_lists}
use Rattle.lc_place.specs.Place.{spot_message}
use Rattle.lc_place.proofs.Messages.{from_contains, message_shape}
use Rattle.lc_kernel.proofs.FrontLaws.{entries_are}
use Rattle.lc_kernel.proofs.SweepLaws.{list_first, list_more, list_small}
use Rattle.lc_kernel.proofs.sweeps.list_of.Goals as goal

pub loop-i-init : goal.loop-i-init
loop-i-init c =
    let k = length c.args.sets.now.rows in
    let q = size c.args.sets.now.field in
    let s = c.args.spot.now in
    let w = length s.support in
    let n = from_contains (messages k q w) (spot_message s) c.requires.message in
    let shape = message_shape k q w n.0 (spot_message s) n.1 in
    list_first q s.coefficients (one_inside c.args.sets.now.field) (omega (arith, shape.many, c.requires.level)) (shape.first (omega (arith, c.requires.level)))

pub overflow_mul-list : goal.overflow_mul-list
overflow_mul-list c =
    let e = entries_are c.args.sets.now c.args.spot.now c.requires.message in
    let small = list_small (size c.args.sets.now.field) c.loop-i.i (length c.args.spot.now.support) c.loop-i.list _ (one_inside c.args.sets.now.field) (omega (arith, c.loop-i-test.true, c.loop-i.auto.i-end, e.many, ap length c.coefficients-coefficients.ensures.entries)) c.requires.few c.loop-i.invariant in
    omega (arith, mul-le-mul_right c.nonzero-elements.result (small), c.nonzero-elements.ensures.most)

pub overflow_sub-list : goal.overflow_sub-list
overflow_sub-list c =
    let e = entries_are c.args.sets.now c.args.spot.now c.requires.message in
    rw c.coefficients-coefficients.ensures.entries (e.fitting.some c.loop-i.i (omega (arith, c.loop-i-test.true, c.loop-i.auto.i-end, ap length c.coefficients-coefficients.ensures.entries)))

pub overflow_add-list : goal.overflow_add-list
overflow_add-list c =
    let e = entries_are c.args.sets.now c.args.spot.now c.requires.message in
    let inside : c.loop-i.i < length c.args.spot.now.support = omega (arith, c.loop-i-test.true, c.loop-i.auto.i-end, e.many, ap length c.coefficients-coefficients.ensures.entries) in
    let small = list_small (size c.args.sets.now.field) c.loop-i.i (length c.args.spot.now.support) c.loop-i.list _ (one_inside c.args.sets.now.field) (omega (arith, inside)) c.requires.few c.loop-i.invariant in
    rw c.coefficients-coefficients.ensures.entries (omega (arith, mul-le-mul_right c.nonzero-elements.result (small), c.nonzero-elements.ensures.most, c.nonzero-elements.ensures.is, e.element c.loop-i.i inside))

pub loop-i-preserved : goal.loop-i-preserved
loop-i-preserved c =
    let q = size c.args.sets.now.field in
    let s = c.args.spot.now in
    let i = c.loop-i.i in
    let e = entries_are c.args.sets.now s c.requires.message in
    let inside : i < length s.coefficients = omega (arith, c.loop-i-test.true, c.loop-i.auto.i-end, ap length c.coefficients-coefficients.ensures.entries) in
    let next = list_more q i c.loop-i.list s.coefficients (omega (arith, c.loop-i.auto.i)) inside (e.fitting.some i inside) (e.element i (omega (arith, inside, e.many))) c.loop-i.invariant in
    let place : c.loop-i.list * c.nonzero-elements.result + (slice_index c.coefficients-coefficients.result.now i - 1) ≡ c.loop-i.list * (q - 1) + (slice_index s.coefficients i - 1) = ap (λ z. c.loop-i.list * z + (slice_index c.coefficients-coefficients.result.now i - 1)) c.nonzero-elements.ensures.is ∙ ap (λ z. c.loop-i.list * (q - 1) + (slice_index z i - 1)) c.coefficients-coefficients.ensures.entries in
    ap (slice_get (leading_lists q (i + 1))) place ∙ next

pub returns : goal.returns
returns c =
    let q = size c.args.sets.now.field in
    let s = c.args.spot.now in
    let e = entries_are c.args.sets.now s c.requires.message in
    let end : c.loop-i.i ≡ length s.coefficients = omega (arith, c.loop-i-test.false, c.loop-i.auto.i-end, e.many, c.requires.level, ap length c.coefficients-coefficients.ensures.entries, c.loop-i.auto.i) in
    record { is = ap (λ z. slice_get (leading_lists q z) c.loop-i.list) (sym (end ∙ e.many)) ∙ c.loop-i.invariant ∙ ap Some (take_all c.loop-i.i s.coefficients (omega (arith, end))) }
