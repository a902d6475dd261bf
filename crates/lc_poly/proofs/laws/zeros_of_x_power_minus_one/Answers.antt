use Rattle.std.proofs.Common.{ap, ◌∙◌}
use Rattle.lc_algebra.specs.Field.{subtract}
use Rattle.lc_algebra.specs.Polynomial.{value_at}
use Rattle.lc_poly.proofs.MinimalLaws.{embedded_x_power, value_x_power}
use Rattle.lc_poly.proofs.laws.zeros_of_x_power_minus_one.Goals as goal

pub returns : goal.returns
unfolding subtract
returns c = record { value = λ s n a l. ap (λ u. value_at c.args.large u a) (embedded_x_power c.args.small c.args.large n s l) ∙ value_x_power c.args.large n a l }
