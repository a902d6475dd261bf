use Rattle.lc_infoset.proofs.SearchTruth.{best_is_word, done_is_distance, true_answer, own_answer, answer_by_one}
use Rattle.lc_infoset.proofs.PlanCount.{whole_budget}
use Rattle.lc_infoset.proofs.laws.answers_are_true.Goals as goal

pub returns-clause-best : goal.returns-clause-best
returns-clause-best _ = best_is_word

pub returns-clause-done : goal.returns-clause-done
returns-clause-done _ = done_is_distance

pub returns-clause-holds : goal.returns-clause-holds
returns-clause-holds _ = true_answer

pub returns-clause-own : goal.returns-clause-own
returns-clause-own _ = own_answer

pub returns-clause-by_one : goal.returns-clause-by_one
returns-clause-by_one _ = answer_by_one

pub returns-clause-whole : goal.returns-clause-whole
returns-clause-whole _ = whole_budget
