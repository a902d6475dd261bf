use Rattle.std.proofs.Common.{◌+◌, arith, refl, sym}
use Rattle.std.proofs.Math.Nat.{pow-zero}
use Rattle.lc_basic.specs.Column.{points}
use Rattle.lc_basic.proofs.ColumnLaws.{points_more}
use Rattle.lc_basic.proofs.HammingLaws.{power_small, points_next, points_one, length_passed}
use Rattle.lc_basic.proofs.hamming_codes.length_of.Goals as goal

pub loop-i-init : goal.loop-i-init
unfolding points
loop-i-init c = (refl, omega arith, sym (pow-zero c.args.q))

pub overflow_add-n : goal.overflow_add-n
overflow_add-n c =
    omega (arith, c.loop-i.invariant.1, c.loop-i.invariant.2, power_small c.args.q c.loop-i._i c.requires.least c.requires.most (omega (arith, c.loop-i.invariant.0, c.loop-i.invariant.1)))

pub returns-then-n-gt255-clause-long : goal.returns-then-n-gt255-clause-long
returns-then-n-gt255-clause-long c = λ h.
    length_passed c.args.q c.args.r c.loop-i._i (c.loop-i.n + c.loop-i.power) c.requires.least (omega (arith, c.loop-i-test.true, c.loop-i.auto._i-end)) (omega (arith, points_next c.args.q c.loop-i._i, c.loop-i.invariant.0, c.loop-i.invariant.2)) h

pub returns-clause-positive : goal.returns-clause-positive
returns-clause-positive c =
    omega (arith, c.loop-i.invariant.0, points_one c.args.q, points_more c.args.q 1 c.loop-i._i (omega (arith, c.loop-i-test.false, c.requires.checks, c.loop-i.auto._i-end)))
