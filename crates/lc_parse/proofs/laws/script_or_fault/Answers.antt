use Rattle.lc_parse.proofs.Outcomes.{no_both, either}
use Rattle.lc_parse.proofs.laws.script_or_fault.Goals as goal

pub returns : goal.returns
returns c = record { apart = no_both; one = either }
