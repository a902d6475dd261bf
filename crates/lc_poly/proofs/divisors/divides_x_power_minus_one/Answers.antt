use Rattle.std.proofs.Common.{arith}
use Rattle.lc_poly.proofs.DivisorLaws.{trimmed_fits, take_zeros}
use Rattle.lc_poly.proofs.divisors.divides_x_power_minus_one.Goals as goal

pub divides_over-requires-clause-by : goal.divides_over-requires-clause-by
divides_over-requires-clause-by c = trimmed_fits c.args.field.now c.args.list.now c.trimmed.result.now c.requires.list c.trimmed.ensures.is

pub divides_over-requires-clause-zeros : goal.divides_over-requires-clause-zeros
divides_over-requires-clause-zeros c = take_zeros c.args.n 256 (omega (arith, c.requires.most))
