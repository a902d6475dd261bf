use Rattle.lc_algebra.proofs.DivisorLaws.{divisor_is, divisor_unique, divisor_positive, divisor_shared}
use Rattle.lc_algebra.proofs.divisor_laws.weights_have_a_divisor.Goals as goal

pub returns-clause-greatest : goal.returns-clause-greatest
returns-clause-greatest c = divisor_is c.args.field

pub returns-clause-one : goal.returns-clause-one
returns-clause-one c = λ n d e rows. divisor_unique c.args.field n rows d e

pub returns-clause-positive : goal.returns-clause-positive
returns-clause-positive c = divisor_positive c.args.field

pub returns-clause-told_by_words : goal.returns-clause-told_by_words
returns-clause-told_by_words c = divisor_shared c.args.field
