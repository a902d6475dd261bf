use Rattle.lc_script_laws.proofs.CertifiedLaws.{printed_certified}
use Rattle.lc_script_laws.proofs.laws.printed_forms_are_accepted.Goals as goal

pub returns : goal.returns
returns _ = printed_certified
