use Rattle.lc_relations.proofs.UnionLaws.{union_dual, union_dimension, augmented_union}
use Rattle.lc_relations.proofs.laws.sums_of_codes.Goals as goal

pub returns : goal.returns
returns c = record {
  dual = union_dual;
  dimension = union_dimension;
  augmented = augmented_union;
}
