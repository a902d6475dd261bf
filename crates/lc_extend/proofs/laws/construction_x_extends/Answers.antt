use Rattle.lc_extend.proofs.ExtendedLaws.{extended_dimension, extended_zero_tail, extended_bound, extended_split, extended_only_zero}
use Rattle.lc_extend.proofs.laws.construction_x_extends.Goals as goal

pub returns : goal.returns
returns c = record {
  dimension = extended_dimension;
  zero_tail = extended_zero_tail;
  bound = extended_bound;
  parted = extended_split;
  only_zero = extended_only_zero;
}
