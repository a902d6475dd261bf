use Rattle.lc_algebra.proofs.ReducedLaws.{systematic_unique}
use Rattle.lc_enumeration.specs.InformationSet.{systematic}
use Rattle.lc_validity.proofs.DependentLaws.{set_systematic}
use Rattle.lc_validity.proofs.information_sets_have_systematic_matrices.Goals as goal

pub returns-clause-systematic : goal.returns-clause-systematic
returns-clause-systematic c = λ n rows set r many columns. set_systematic c.args.field n rows set r many columns

pub returns-clause-unique : goal.returns-clause-unique
returns-clause-unique c = λ n rows set e r many columns is. systematic_unique c.args.field n rows set (systematic c.args.field n rows set) e (set_systematic c.args.field n rows set r many columns) is
