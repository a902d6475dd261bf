use Rattle.lc_poly.proofs.ConjugateLaws.{product_divides}
use Rattle.lc_poly.proofs.QuotientLaws.{value_embedded_product}
use Rattle.lc_poly.proofs.laws.divisors_multiply.Goals as goal

pub returns : goal.returns
returns c = record {
  divides = λ s a g u v m p n d z. product_divides c.args.small c.args.large s a g u v m p.fits n d z;
  values = λ s g u x h k. value_embedded_product c.args.small c.args.large s g u x h k;
}
