use Rattle.lc_script_laws.proofs.CountedLaws.{distributions_true}
use Rattle.lc_script_laws.proofs.laws.printed_distributions_are_true.Goals as goal

pub returns : goal.returns
returns _ = distributions_true
