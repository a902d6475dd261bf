use Rattle.lc_combine.proofs.ExtendedDual.{extended_dual}
use Rattle.lc_combine.proofs.laws.dual_of_an_extended_code.Goals as goal

pub returns : goal.returns
returns c = record { dual = extended_dual }
