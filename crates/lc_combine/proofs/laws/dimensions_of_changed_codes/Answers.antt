use Rattle.lc_combine.proofs.ImageDimension.{punctured_dimension, extended_dimension}
use Rattle.lc_combine.proofs.laws.dimensions_of_changed_codes.Goals as goal

pub returns : goal.returns
returns c = record { punctured = punctured_dimension; extended = extended_dimension }
