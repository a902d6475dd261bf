use Rattle.lc_relations.proofs.DistanceLaws.{apart_zero, apart_turned, apart_triangle, apart_weight}
use Rattle.lc_relations.proofs.laws.distance_is_a_metric.Goals as goal

pub returns : goal.returns
returns c = record {
  zero = apart_zero;
  turned = apart_turned;
  triangle = apart_triangle;
  weight = apart_weight;
}
