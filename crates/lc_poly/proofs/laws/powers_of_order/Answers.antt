use Rattle.lc_algebra.proofs.OrderLaws.{primitive_power, order_of_element}
use Rattle.lc_poly.proofs.laws.powers_of_order.Goals as goal

pub returns : goal.returns
returns c = record { order = λ n l d. primitive_power c.args.field n l d; divides = λ b n h. order_of_element c.args.field b n h }
