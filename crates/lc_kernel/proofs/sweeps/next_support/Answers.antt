use Rattle.std.proofs.Common.{◌≡◌, suc, ◌+◌, ◌-◌, ◌<◌, length, slice_get, slice_index, sym, ap, ◌∙◌, arith}
use Rattle.lc_enumeration.specs.Message.{supports_from}
use Rattle.lc_place.proofs.Supports.{support_next, support_moved, support_last}
use Rattle.lc_kernel.proofs.SweepLaws.{support_is, take_same}
use Rattle.lc_kernel.proofs.sweeps.next_support.Goals as goal

pub overflow_add-support : goal.overflow_add-support
overflow_add-support c =
    let s = support_is c.args.k c.args.support.now c.requires.rises in
    rw c.loop-place.invariant.same (omega (arith, s.high (c.loop-place.place - 1) (omega (arith, c.loop-place-test.true, c.loop-place.invariant.within)), c.requires.few))

pub returns-then-support-place-clause-next : goal.returns-then-support-place-clause-next
returns-then-support-place-clause-next c n at =
    let k = c.args.k in
    let u = c.args.support.now in
    let v = c.move_on.new.support in
    let i = c.loop-place.place - 1 in
    let s = support_is k u c.requires.rises in
    let same = c.loop-place.invariant.same in
    let inside : i < length u = omega (arith, c.loop-place-test.true, c.loop-place.invariant.within) in
    let next : n + 1 ≡ suc n = omega arith in
    ap (slice_get (supports_from 0 k (length u))) next ∙ support_next 0 k (length u) n u at
    ∙ support_moved 0 k u v i s.rises (λ l. omega arith) (c.move_on.auto.support ∙ ap length same) inside (rw (sym same) (omega (arith, c.if-support-place.true)))
    (λ x l. c.move_on.ensures.before x l ∙ ap (λ z. slice_index z x) same)
    (λ x l m. c.move_on.ensures.later x l (omega (arith, m, ap length same)) ∙ ap (λ z. slice_index z i + 1 + (x - i)) same)
    (λ x l m. omega (arith, c.loop-place.invariant.later x (omega (arith, l, c.loop-place-test.true)) (omega (arith, m, ap length same)), ap (λ z. slice_index z x) same, ap length same))

pub returns-then-support-place-clause-same : goal.returns-then-support-place-clause-same
returns-then-support-place-clause-same c =
    let same = c.loop-place.invariant.same in
    take_same c.move_on.new.support c.args.support.now (c.loop-place.place - 1) (c.move_on.auto.support ∙ ap length same) (λ x l. c.move_on.ensures.before x l ∙ ap (λ z. slice_index z x) same)

pub returns-clause-last : goal.returns-clause-last
returns-clause-last c n at =
    let k = c.args.k in
    let u = c.args.support.now in
    let s = support_is k u c.requires.rises in
    let same = c.loop-place.invariant.same in
    let next : n + 1 ≡ suc n = omega arith in
    ap (slice_get (supports_from 0 k (length u))) next ∙ support_next 0 k (length u) n u at
    ∙ support_last 0 k u s.rises (λ l. omega arith) (λ x m. omega (arith, c.loop-place.invariant.later x (omega (arith, c.loop-place-test.false)) (omega (arith, m, ap length same)), ap (λ z. slice_index z x) same, ap length same))
