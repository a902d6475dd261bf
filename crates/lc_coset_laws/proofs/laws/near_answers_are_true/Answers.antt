use Rattle.lc_coset_laws.proofs.NearTruth.{answer_is_true}
use Rattle.lc_coset_laws.proofs.NearCount.{whole_budget}
use Rattle.lc_coset_laws.proofs.laws.near_answers_are_true.Goals as goal

pub returns-clause-holds : goal.returns-clause-holds
returns-clause-holds _ = answer_is_true

pub returns-clause-whole : goal.returns-clause-whole
returns-clause-whole _ = whole_budget
