use Rattle.lc_combine.proofs.ProductBounds.{product_dimension}
use Rattle.lc_combine.proofs.NestedBounds.{concatenated_dimension}
use Rattle.lc_combine.proofs.laws.dimensions_of_products.Goals as goal

pub returns : goal.returns
returns c = record { direct_product = product_dimension; concatenated = concatenated_dimension }
