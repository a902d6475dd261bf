use Rattle.lc_combine.proofs.DimensionLaws.{sum_dimension, uuv_dimension}
use Rattle.lc_combine.proofs.laws.dimensions_of_sums.Goals as goal

pub returns : goal.returns
returns c = record { direct_sum = sum_dimension; uuv = uuv_dimension }
