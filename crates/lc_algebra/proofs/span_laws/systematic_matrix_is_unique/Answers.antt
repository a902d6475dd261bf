use Rattle.lc_algebra.proofs.ReducedLaws.{systematic_told, systematic_independent, systematic_unique}
use Rattle.lc_algebra.proofs.span_laws.systematic_matrix_is_unique.Goals as goal

pub returns-clause-one : goal.returns-clause-one
returns-clause-one c = systematic_unique c.args.field

pub returns-clause-independent : goal.returns-clause-independent
returns-clause-independent c = systematic_independent c.args.field

pub returns-clause-told_by_places : goal.returns-clause-told_by_places
returns-clause-told_by_places c = systematic_told c.args.field
