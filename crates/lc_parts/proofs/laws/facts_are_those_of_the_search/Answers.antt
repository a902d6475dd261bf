use Rattle.lc_parts.proofs.FactsLaws.{first_is, end_is, bound_is, finished_is}
use Rattle.lc_parts.proofs.laws.facts_are_those_of_the_search.Goals as goal

pub returns-clause-first : goal.returns-clause-first
returns-clause-first _ = first_is

pub returns-clause-end : goal.returns-clause-end
returns-clause-end _ = end_is

pub returns-clause-bound : goal.returns-clause-bound
returns-clause-bound _ = bound_is

pub returns-clause-finished : goal.returns-clause-finished
returns-clause-finished _ = finished_is
