use Rattle.lc_coset_laws.proofs.NearTruth.{least_distance, whole_distance, done_distance, best_is_word}
use Rattle.lc_coset_laws.proofs.NearBest.{near_after}
use Rattle.lc_coset_laws.proofs.laws.near_blocks_bound_the_distance.Goals as goal

pub returns-clause-least : goal.returns-clause-least
returns-clause-least _ = least_distance

pub returns-clause-whole : goal.returns-clause-whole
returns-clause-whole _ = whole_distance

pub returns-clause-done : goal.returns-clause-done
returns-clause-done _ = done_distance

pub returns-clause-word : goal.returns-clause-word
returns-clause-word _ = best_is_word

pub returns-clause-after : goal.returns-clause-after
returns-clause-after _ = near_after
