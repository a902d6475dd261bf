use Rattle.lc_infoset.proofs.FittingLaws.{true_start_fits, settled_is_best}
use Rattle.lc_infoset.proofs.laws.true_checkpoints_fit.Goals as goal

pub returns-clause-fits : goal.returns-clause-fits
returns-clause-fits _ = true_start_fits

pub returns-clause-settled : goal.returns-clause-settled
returns-clause-settled _ = settled_is_best
