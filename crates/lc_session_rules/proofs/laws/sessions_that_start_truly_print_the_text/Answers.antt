use Rattle.lc_session_rules.proofs.HonestLaws.{fresh_text, resumed_text}
use Rattle.lc_session_rules.proofs.laws.sessions_that_start_truly_print_the_text.Goals as goal

pub returns-clause-fresh : goal.returns-clause-fresh
returns-clause-fresh _ = fresh_text

pub returns-clause-resumed : goal.returns-clause-resumed
returns-clause-resumed _ = resumed_text
