use Rattle.std.proofs.Common.{arith}
use Rattle.lc_algebra.proofs.FieldLaws.{mul_inside}
use Rattle.lc_field.proofs.LogarithmLaws.{product_read}
use Rattle.lc_field.proofs.logarithms.Logarithms.mul.Goals as goal

pub returns-clause-is : goal.returns-clause-is
returns-clause-is c = product_read _ _ _ _ _ _ _ _ _ c.self.view_is c.self.invariant.1 c.self.invariant.2 c.index.ensures c.index-2.ensures c.index-3.ensures (omega arith) (omega arith) c.requires.first c.requires.second

pub returns-clause-below : goal.returns-clause-below
returns-clause-below c = rw (returns-clause-is c) (mul_inside c.args.self.now c.args.a c.args.b)
