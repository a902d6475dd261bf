use Rattle.lc_algebra.proofs.WordLaws.{dot_inside, dot_comm, dot_sum, dot_scale, dot_zero}
use Rattle.lc_algebra.proofs.span_laws.dot_is_bilinear.Goals as goal

pub returns-clause-inside : goal.returns-clause-inside
returns-clause-inside c = dot_inside c.args.field

pub returns-clause-symmetric : goal.returns-clause-symmetric
returns-clause-symmetric c = dot_comm c.args.field

pub returns-clause-sums : goal.returns-clause-sums
returns-clause-sums c = dot_sum c.args.field

pub returns-clause-multiples : goal.returns-clause-multiples
returns-clause-multiples c = dot_scale c.args.field

pub returns-clause-zeros : goal.returns-clause-zeros
returns-clause-zeros c = dot_zero c.args.field
