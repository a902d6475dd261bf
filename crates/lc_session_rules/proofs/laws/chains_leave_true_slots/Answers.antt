use Rattle.lc_session_rules.proofs.ChainLaws.{chains_are_true}
use Rattle.lc_session_rules.proofs.laws.chains_leave_true_slots.Goals as goal

pub returns : goal.returns
returns _ = chains_are_true
