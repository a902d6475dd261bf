use Rattle.lc_session_rules.proofs.ScriptTruth.{fresh_answers, true_answers}
use Rattle.lc_session_rules.proofs.needs.unstopped_sessions_answer_by_the_search.Goals as goal

pub returns-clause-fresh : goal.returns-clause-fresh
returns-clause-fresh c = fresh_answers

pub returns-clause-resumed : goal.returns-clause-resumed
returns-clause-resumed c = true_answers
