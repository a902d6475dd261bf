use Rattle.lc_infoset.proofs.SessionLaws.{session_steps, session_settles, session_stops, fresh_is_true, resumed_is_true}
use Rattle.lc_infoset.proofs.laws.true_starts_have_true_steps.Goals as goal

pub returns-clause-steps : goal.returns-clause-steps
returns-clause-steps _ = session_steps

pub returns-clause-settled : goal.returns-clause-settled
returns-clause-settled _ = session_settles

pub returns-clause-stopped : goal.returns-clause-stopped
returns-clause-stopped _ = session_stops

pub returns-clause-fresh : goal.returns-clause-fresh
returns-clause-fresh _ = fresh_is_true

pub returns-clause-resumed : goal.returns-clause-resumed
returns-clause-resumed _ = resumed_is_true
