use Rattle.lc_parts.proofs.AlongLaws.{with_underway, along_underway, from_first, answered_settled}
use Rattle.lc_parts.proofs.laws.parts_keep_a_search_under_way.Goals as goal

pub returns-clause-one : goal.returns-clause-one
returns-clause-one _ = with_underway

pub returns-clause-all : goal.returns-clause-all
returns-clause-all _ = along_underway

pub returns-clause-first : goal.returns-clause-first
returns-clause-first _ = from_first

pub returns-clause-answered : goal.returns-clause-answered
returns-clause-answered _ = answered_settled
