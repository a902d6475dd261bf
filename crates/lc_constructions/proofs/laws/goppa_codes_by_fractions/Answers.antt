use Rattle.lc_constructions.proofs.GoppaLaws.{goppa_by_fractions, goppa_by_any_fractions}
use Rattle.lc_constructions.proofs.laws.goppa_codes_by_fractions.Goals as goal

pub returns-clause-some : goal.returns-clause-some
returns-clause-some c = goppa_by_fractions c.args.field c.args.locator

pub returns-clause-any : goal.returns-clause-any
returns-clause-any c = goppa_by_any_fractions c.args.field c.args.locator
