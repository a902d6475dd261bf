use Rattle.lc_poly.proofs.FactorLaws.{product_zeros, product_multiples, product_divides_x_power}
use Rattle.lc_poly.proofs.laws.products_of_minimal_polynomials.Goals as goal

pub returns : goal.returns
returns c = record {
  zeros = λ s b n ts g o h e. product_zeros c.args.small c.args.large s b n ts g o h e;
  multiples = λ s b n ts g o h e. product_multiples c.args.small c.args.large s b n ts g o h e;
  divides = λ s b n ts g o h e. product_divides_x_power c.args.small c.args.large s b n ts g o h e;
}
