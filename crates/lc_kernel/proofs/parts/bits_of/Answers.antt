use Rattle.std.proofs.Common.{◌≡◌, suc, ◌+◌, ◌-◌, ◌*◌, drop, slice_index, sym, ap, ◌∙◌, arith}
use Rattle.lc_algebra.specs.SpanLaws.{restrict}
use Rattle.lc_vec.specs.Packed.{packed}
use Rattle.lc_vec.proofs.PackLaws.{bit_small}
use Rattle.lc_kernel.specs.Packed.{bits_at}
use Rattle.lc_kernel.proofs.PackLaws.{pack_none, pack_step, pack_room}
use Rattle.lc_kernel.proofs.parts.bits_of.Goals as goal

pub loop-t-init : goal.loop-t-init
loop-t-init c = record { inside = omega arith; bits = pack_none c.args.columns.now c.args.word.now }

pub overflow_mul-bits : goal.overflow_mul-bits
overflow_mul-bits c =
    let columns = c.args.columns.now in
    let word = c.args.word.now in
    let t = c.loop-t.t - 1 in
    let e : t + 1 ≡ c.loop-t.t = omega (arith, c.loop-t-test.true) in
    let at : suc t ≡ c.loop-t.t = omega (arith, e) in
    let room = pack_room columns word t c.requires.bits c.requires.few (omega (arith, c.loop-t-test.true, c.loop-t.invariant.inside)) in
    let same : packed (drop (suc t) (restrict columns word)) ≡ c.loop-t.bits = ap (λ n. packed (drop n (restrict columns word))) at ∙ sym c.loop-t.invariant.bits in
    omega (arith, room, same)

pub overflow_add-bits : goal.overflow_add-bits
overflow_add-bits c =
    let columns = c.args.columns.now in
    let word = c.args.word.now in
    let t = c.loop-t.t - 1 in
    let at : suc t ≡ c.loop-t.t = omega (arith, c.loop-t-test.true) in
    let room = pack_room columns word t c.requires.bits c.requires.few (omega (arith, c.loop-t-test.true, c.loop-t.invariant.inside)) in
    let same : packed (drop (suc t) (restrict columns word)) ≡ c.loop-t.bits = ap (λ n. packed (drop n (restrict columns word))) at ∙ sym c.loop-t.invariant.bits in
    let small = bit_small word (slice_index columns t) c.requires.bits in
    omega (arith, room, same, small)

pub loop-t-preserved : goal.loop-t-preserved
loop-t-preserved c =
    let columns = c.args.columns.now in
    let word = c.args.word.now in
    let t = c.loop-t.t - 1 in
    let at : suc t ≡ c.loop-t.t = omega (arith, c.loop-t-test.true) in
    let same : packed (drop (suc t) (restrict columns word)) ≡ c.loop-t.bits = ap (λ n. packed (drop n (restrict columns word))) at ∙ sym c.loop-t.invariant.bits in
    let step = pack_step columns word t (omega (arith, c.loop-t-test.true, c.loop-t.invariant.inside)) in
    record {
      inside = omega (arith, c.loop-t.invariant.inside);
      bits = sym (step ∙ ap (λ x. x * 2 + slice_index word (slice_index columns t)) same);
    }

pub returns : goal.returns
unfolding bits_at
returns c =
    let e : c.loop-t.t ≡ 0 = omega (arith, c.loop-t-test.false) in
    record { is = c.loop-t.invariant.bits ∙ ap (λ n. packed (drop n (restrict c.args.columns.now c.args.word.now))) e }
