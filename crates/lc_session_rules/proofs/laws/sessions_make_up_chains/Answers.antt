use Rattle.lc_session_rules.proofs.SessionChains.{run_begins, resume_goes_on}
use Rattle.lc_session_rules.proofs.laws.sessions_make_up_chains.Goals as goal

pub returns-clause-begins : goal.returns-clause-begins
returns-clause-begins _ = run_begins

pub returns-clause-goes_on : goal.returns-clause-goes_on
returns-clause-goes_on _ = resume_goes_on
