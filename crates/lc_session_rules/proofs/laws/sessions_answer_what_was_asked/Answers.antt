use Rattle.lc_session_rules.proofs.SessionLaws.{asks_for, refused_exactly, completed}
use Rattle.lc_session_rules.proofs.laws.sessions_answer_what_was_asked.Goals as goal

pub returns-clause-settings : goal.returns-clause-settings
returns-clause-settings _ = asks_for

pub returns-clause-usage : goal.returns-clause-usage
returns-clause-usage _ = refused_exactly

pub returns-clause-complete : goal.returns-clause-complete
returns-clause-complete _ = completed
