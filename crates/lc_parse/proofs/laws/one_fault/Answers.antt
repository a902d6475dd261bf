use Rattle.lc_parse.proofs.Outcomes.{one_fault}
use Rattle.lc_parse.proofs.laws.one_fault.Goals as goal

pub returns : goal.returns
returns c = one_fault
