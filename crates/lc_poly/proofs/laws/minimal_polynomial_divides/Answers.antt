use Rattle.lc_poly.proofs.QuotientLaws.{minimal_divides}
use Rattle.lc_poly.proofs.laws.minimal_polynomial_divides.Goals as goal

pub returns : goal.returns
returns c = record { divides = λ s a u v m p z. minimal_divides c.args.small c.args.large s a u v m p z }
