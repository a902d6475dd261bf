use Rattle.std.proofs.Common.{◌≡◌, suc, ◌+◌, ◌-◌, ◌*◌, ◌^◌, sym, ap, ◌∙◌, arith}
use Rattle.std.proofs.Math.Nat.{pow-suc}
use Rattle.lc_algebra.specs.Field.{size}
use Rattle.lc_kernel.proofs.TableCounts.{heads_above}
use Rattle.lc_kernel.proofs.sweeps.head_count.Goals as goal

pub loop-place-preserved : goal.loop-place-preserved
loop-place-preserved c =
    let d = size c.args.sets.now.field - 1 in
    let i = c.loop-place._place in
    let next : i + 1 - 3 ≡ suc (i - 3) = omega (arith, c.loop-place.auto._place) in
    record {
      is = ap (λ z. z * c.nonzero-elements.result) c.loop-place.invariant.is ∙ ap (λ z. d ^ (i - 3) * z) c.nonzero-elements.ensures.is ∙ sym (pow-suc d (i - 3)) ∙ ap (λ z. d ^ z) (sym next);
      few = omega (arith, c.if-many-gt-MOST_HEADS.false);
    }

pub returns-then-many-gt-MOST_HEADS-clause-none : goal.returns-then-many-gt-MOST_HEADS-clause-none
returns-then-many-gt-MOST_HEADS-clause-none c =
    heads_above c.args.sets.now c.args.level c.loop-place._place c.loop-place.many c.nonzero-elements.result c.nonzero-elements.ensures.is c.loop-place.invariant.is (omega (arith, c.loop-place.auto._place)) (omega (arith, c.loop-place-test.true, c.loop-place.auto._place-end)) c.if-many-gt-MOST_HEADS.true
