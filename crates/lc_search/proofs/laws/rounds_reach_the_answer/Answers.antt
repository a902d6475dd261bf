use Rattle.lc_search.proofs.CourseLaws.{first_true, round_true, reached_true, answer_true, answer_holds, whole_exact}
use Rattle.lc_search.proofs.laws.rounds_reach_the_answer.Goals as goal

pub returns-clause-first : goal.returns-clause-first
returns-clause-first _ = first_true

pub returns-clause-round : goal.returns-clause-round
returns-clause-round _ = round_true

pub returns-clause-reached : goal.returns-clause-reached
returns-clause-reached _ = reached_true

pub returns-clause-answer : goal.returns-clause-answer
returns-clause-answer _ = answer_true

pub returns-clause-holds : goal.returns-clause-holds
returns-clause-holds _ = answer_holds

pub returns-clause-distance : goal.returns-clause-distance
returns-clause-distance _ = λ s x l words independent rows small h e. answer_holds s _ words independent rows small h e

pub returns-clause-whole : goal.returns-clause-whole
returns-clause-whole _ = whole_exact
