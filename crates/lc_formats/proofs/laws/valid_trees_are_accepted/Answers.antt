use Rattle.lc_formats.proofs.ClaimLaws.{outcome_one, verdict_one, accepted_tree, valid_tree_accepted}
use Rattle.lc_formats.proofs.laws.valid_trees_are_accepted.Goals as goal

pub returns-clause-outcome : goal.returns-clause-outcome
returns-clause-outcome _ = outcome_one

pub returns-clause-verdict : goal.returns-clause-verdict
returns-clause-verdict _ = verdict_one

pub returns-clause-accepted : goal.returns-clause-accepted
returns-clause-accepted _ = λ b. (accepted_tree b, valid_tree_accepted b)
