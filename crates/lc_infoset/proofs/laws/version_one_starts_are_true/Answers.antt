use Rattle.lc_infoset.proofs.FittingLaws.{used_is_true, used_later}
use Rattle.lc_infoset.proofs.laws.version_one_starts_are_true.Goals as goal

pub returns-clause-one : goal.returns-clause-one
returns-clause-one _ = used_is_true

pub returns-clause-two : goal.returns-clause-two
returns-clause-two _ = used_later
