use Rattle.lc_validity.proofs.StartLaws.{true_start, true_fits}
use Rattle.lc_validity.proofs.true_checkpoints_start_true_sessions.Goals as goal

pub returns-clause-starts : goal.returns-clause-starts
returns-clause-starts _ = true_start

pub returns-clause-fits : goal.returns-clause-fits
returns-clause-fits _ = true_fits
