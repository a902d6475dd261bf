use Rattle.std.proofs.Common.{arith}
use Rattle.lc_poly.proofs.ListLaws.{added_whole}
use Rattle.lc_poly.proofs.arithmetic.add_multiple.Goals as goal

pub returns-clause-sum : goal.returns-clause-sum
returns-clause-sum c = added_whole c.args.field.now c.args.at c.args.from.now c.args.factor c.loop-i.i c.args.to.now c.loop-i.to c.loop-i.invariant (omega arith) c.requires.to
