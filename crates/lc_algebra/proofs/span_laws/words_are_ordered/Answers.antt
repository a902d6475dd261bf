use Rattle.lc_algebra.proofs.WordLaws.{at_most_reflexive, at_most_transitive, at_most_total, at_most_antisymmetric, no_later_reflexive, no_later_transitive, no_later_total, no_later_antisymmetric}
use Rattle.lc_algebra.proofs.span_laws.words_are_ordered.Goals as goal

pub returns-clause-lexicographic_reflexive : goal.returns-clause-lexicographic_reflexive
returns-clause-lexicographic_reflexive _ = at_most_reflexive

pub returns-clause-lexicographic_transitive : goal.returns-clause-lexicographic_transitive
returns-clause-lexicographic_transitive _ = at_most_transitive

pub returns-clause-lexicographic_total : goal.returns-clause-lexicographic_total
returns-clause-lexicographic_total _ = at_most_total

pub returns-clause-lexicographic_antisymmetric : goal.returns-clause-lexicographic_antisymmetric
returns-clause-lexicographic_antisymmetric _ = at_most_antisymmetric

pub returns-clause-reflexive : goal.returns-clause-reflexive
returns-clause-reflexive _ = no_later_reflexive

pub returns-clause-transitive : goal.returns-clause-transitive
returns-clause-transitive _ = no_later_transitive

pub returns-clause-total : goal.returns-clause-total
returns-clause-total _ = no_later_total

pub returns-clause-antisymmetric : goal.returns-clause-antisymmetric
returns-clause-antisymmetric _ = no_later_antisymmetric
