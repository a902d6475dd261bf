use Rattle.lc_algebra.proofs.DivisorLaws.{rounded_is, rounded_within, rounded_one}
use Rattle.lc_algebra.proofs.divisor_laws.rounding_up_is_least.Goals as goal

pub returns-clause-least : goal.returns-clause-least
returns-clause-least _ = rounded_is

pub returns-clause-within : goal.returns-clause-within
returns-clause-within _ = rounded_within

pub returns-clause-by_one : goal.returns-clause-by_one
returns-clause-by_one _ = rounded_one
