use Rattle.std.proofs.Common.{arith}
use Rattle.std.proofs.lemmas.Grind.{common_steps}
use Rattle.lc_algebra.specs.Field.{is_symbol}
use Rattle.lc_algebra.proofs.FieldLaws.{mul_inside}
use Rattle.lc_field.proofs.field.Field.products_of.Goals as goal

pub returns-clause-entries : goal.returns-clause-entries
unfolding is_symbol
returns-clause-entries c = grind (arith, common_steps)

pub returns-clause-below : goal.returns-clause-below
returns-clause-below c = λ a l. rw (returns-clause-entries c a l) (mul_inside c.args.self.now c.args.c a)
