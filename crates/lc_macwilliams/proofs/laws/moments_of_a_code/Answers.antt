use Rattle.std.proofs.Common.{◌-◌, arith}
use Rattle.lc_macwilliams.proofs.MomentLaws.{moments}
use Rattle.lc_macwilliams.proofs.laws.moments_of_a_code.Goals as goal

pub returns : goal.returns
returns c = record { law = λ n t rows checks r d l. moments c.args.field n t (n - t) rows checks (omega (arith, l)) r d }
