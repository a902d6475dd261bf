use Rattle.lc_algebra.proofs.WordLaws.{weight_scale, weight_sum_at_most, distance_turned, weight_zero, distance_zero, distance_triangle}
use Rattle.lc_algebra.proofs.span_laws.distance_is_a_metric.Goals as goal

pub returns-clause-no_weight : goal.returns-clause-no_weight
returns-clause-no_weight _ = weight_zero

pub returns-clause-weight_of_multiple : goal.returns-clause-weight_of_multiple
returns-clause-weight_of_multiple c = weight_scale c.args.field

pub returns-clause-weight_of_sum : goal.returns-clause-weight_of_sum
returns-clause-weight_of_sum c = weight_sum_at_most c.args.field

pub returns-clause-apart : goal.returns-clause-apart
returns-clause-apart c = distance_zero c.args.field

pub returns-clause-symmetric : goal.returns-clause-symmetric
returns-clause-symmetric c = distance_turned c.args.field

pub returns-clause-triangle : goal.returns-clause-triangle
returns-clause-triangle c = distance_triangle c.args.field
