use Rattle.std.proofs.Common.{arith, sym}
use Rattle.lc_algebra.proofs.FieldLaws.{one_inside}
use Rattle.lc_algebra.proofs.PowerLaws.{pow_zero, zero_pow, pow_inside}
use Rattle.lc_field.proofs.LogarithmLaws.{power_read}
use Rattle.lc_field.proofs.logarithms.Logarithms.pow.Goals as goal

pub returns-then-e-eq0-clause-is : goal.returns-then-e-eq0-clause-is
returns-then-e-eq0-clause-is c = rw c.if-e-eq0.true (sym (pow_zero c.args.self.now c.args.a))

pub returns-then-e-eq0-clause-below : goal.returns-then-e-eq0-clause-below
returns-then-e-eq0-clause-below c = one_inside c.args.self.now

pub returns-then-a-eq0-clause-is : goal.returns-then-a-eq0-clause-is
returns-then-a-eq0-clause-is c = rw c.if-a-eq0.true (sym (zero_pow c.args.self.now c.args.e (omega arith)))

pub returns-clause-is : goal.returns-clause-is
returns-clause-is c = power_read _ _ _ _ _ _ _ _ _ c.self.view_is c.self.invariant.0 c.self.invariant.1 c.self.invariant.2 c.index.ensures c.index-2.ensures (omega arith) c.requires.element

pub returns-clause-below : goal.returns-clause-below
returns-clause-below c = rw (returns-clause-is c) (pow_inside c.args.self.now c.args.a c.args.e)
