use Rattle.lc_residual.proofs.WeightLaws.{weights_added, residual_whole, residual_bound, residual_least}
use Rattle.lc_residual.proofs.DimensionLaws.{residual_dimension}
use Rattle.lc_residual.proofs.laws.residual_codes_keep_their_weights.Goals as goal

pub returns : goal.returns
returns c = record {
  added = weights_added;
  whole = residual_whole;
  bound = residual_bound;
  least = residual_least;
  dimension = residual_dimension;
}
