use Rattle.std.proofs.Common.{IsTrue}
use Rattle.lc_algebra.proofs.ReducedLaws.{reduced_told, reduced_independent, reduced_at_most, pivots_unique, reduced_unique, echelon_unique, generator_unique}
use Rattle.lc_algebra.proofs.span_laws.reduced_matrix_is_unique.Goals as goal

pub returns-clause-same_words : goal.returns-clause-same_words
returns-clause-same_words c = reduced_unique c.args.field

pub returns-clause-same_rows : goal.returns-clause-same_rows
returns-clause-same_rows c = echelon_unique c.args.field

pub returns-clause-same_set : goal.returns-clause-same_set
returns-clause-same_set c = λ n member d e. generator_unique c.args.field n (λ w. IsTrue (member w)) d e

pub returns-clause-same_places : goal.returns-clause-same_places
returns-clause-same_places c = pivots_unique c.args.field

pub returns-clause-count : goal.returns-clause-count
returns-clause-count _ = reduced_at_most

pub returns-clause-independent : goal.returns-clause-independent
returns-clause-independent c = reduced_independent c.args.field

pub returns-clause-told_by_places : goal.returns-clause-told_by_places
returns-clause-told_by_places c = reduced_told c.args.field
