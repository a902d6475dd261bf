use Rattle.lc_certify.proofs.ValidLaws.{valid_at, exact_at}
use Rattle.lc_certify.proofs.AcceptedLaws.{shaped_at, printed}
use Rattle.lc_certify.proofs.laws.printed_certificates_are_accepted.Goals as goal

pub returns-clause-shaped : goal.returns-clause-shaped
returns-clause-shaped _ = shaped_at

pub returns-clause-valid : goal.returns-clause-valid
returns-clause-valid _ = valid_at

pub returns-clause-exact : goal.returns-clause-exact
returns-clause-exact _ = exact_at

pub returns-clause-printed : goal.returns-clause-printed
returns-clause-printed _ = printed
