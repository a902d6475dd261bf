use Rattle.lc_combine.proofs.BoundLaws.{sum_bound, uuv_bound, shortened_bound, extended_bound}
use Rattle.lc_combine.proofs.ChangedBounds.{punctured_bound, extended_even_bound}
use Rattle.lc_combine.proofs.ProductBounds.{product_bound}
use Rattle.lc_combine.proofs.NestedBounds.{concatenated_bound}
use Rattle.lc_combine.proofs.laws.combined_codes_are_heavy.Goals as goal

pub returns : goal.returns
returns c = record {
  direct_sum = sum_bound;
  uuv = uuv_bound;
  shortened = shortened_bound;
  direct_product = product_bound;
  concatenated = concatenated_bound;
  extended = extended_bound;
  punctured = punctured_bound;
  extended_evenly = extended_even_bound;
}
