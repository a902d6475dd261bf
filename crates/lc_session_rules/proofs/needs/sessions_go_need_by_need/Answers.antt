use Rattle.lc_session_rules.proofs.FrontLaws.{at_need, searched, ends_here}
use Rattle.lc_session_rules.proofs.needs.sessions_go_need_by_need.Goals as goal

pub returns-clause-met : goal.returns-clause-met
returns-clause-met c = at_need

pub returns-clause-on : goal.returns-clause-on
returns-clause-on c = searched

pub returns-clause-ends : goal.returns-clause-ends
returns-clause-ends c = ends_here
