use Rattle.lc_constructions.proofs.LocatorLaws.{locator_is, no_locator}
use Rattle.lc_constructions.proofs.laws.locator_field_is_least.Goals as goal

pub returns-clause-found : goal.returns-clause-found
returns-clause-found c = locator_is c.args.field

pub returns-clause-none : goal.returns-clause-none
returns-clause-none c = no_locator c.args.field
