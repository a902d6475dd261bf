use Rattle.lc_parse.proofs.Outcomes.{one_script}
use Rattle.lc_parse.proofs.laws.one_script.Goals as goal

pub returns : goal.returns
returns c = one_script
