use Rattle.std.proofs.Common.{arith}
use Rattle.lc_macwilliams.proofs.RefusalLaws.{power_next, power_fits, power_passed}
use Rattle.lc_macwilliams.proofs.refusals.is_power_above.Goals as goal

pub returns-then-product-most : goal.returns-then-product-most
returns-then-product-most c = record {
  is = power_passed c.args.q c.loop-counter._counter c.args.e c.loop-counter.product c.from-most.result c.args.bound c.requires.base c.loop-counter.invariant (omega (arith, c.loop-counter-test.true)) c.from-most.ensures (omega (arith, c.if-product-most.true));
}

pub overflow_mul-product : goal.overflow_mul-product
overflow_mul-product c =
    let s = power_fits c.loop-counter.product c.from-factor.result c.from-most.result c.args.bound c.args.q c.from-most.ensures c.from-factor.ensures (omega (arith, c.ranges.bound.fits)) (omega (arith, c.ranges.q.fits)) (omega (arith, c.if-product-most.false)) in
    omega (arith, s)

pub loop-counter-preserved : goal.loop-counter-preserved
loop-counter-preserved c = power_next c.args.q c.loop-counter._counter c.loop-counter.product c.from-factor.result c.loop-counter.invariant c.from-factor.ensures
