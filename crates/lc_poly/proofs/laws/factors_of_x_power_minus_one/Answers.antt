use Rattle.lc_poly.proofs.FactorLaws.{spread, common_number, new_is_apart}
use Rattle.lc_poly.proofs.laws.factors_of_x_power_minus_one.Goals as goal

pub returns : goal.returns
returns c = record {
  spread = λ s u b n i xs h o d z. spread c.args.small c.args.large s u b n i xs h o d z;
  equal = λ s b n o. common_number c.args.small c.args.large s b n o;
  one_more = λ s b n o. new_is_apart c.args.small c.args.large s b n o;
}
