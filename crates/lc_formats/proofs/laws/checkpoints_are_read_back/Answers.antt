use Rattle.lc_formats.proofs.CheckpointBack.{checkpoint_back, longer_is_damaged}
use Rattle.lc_formats.proofs.CheckpointRange.{checkpoint_ranged}
use Rattle.lc_formats.proofs.CheckpointSize.{text_fits}
use Rattle.lc_formats.proofs.laws.checkpoints_are_read_back.Goals as goal

pub returns-clause-ranged : goal.returns-clause-ranged
returns-clause-ranged _ = checkpoint_ranged

pub returns-clause-back : goal.returns-clause-back
returns-clause-back _ = checkpoint_back

pub returns-clause-longer : goal.returns-clause-longer
returns-clause-longer _ = longer_is_damaged

pub returns-clause-short : goal.returns-clause-short
returns-clause-short _ = text_fits
