use Rattle.lc_formats.proofs.VerdictLaws.{accepted_is_valid, valid_is_accepted, rejected_is_not_valid, not_valid_is_rejected}
use Rattle.lc_formats.proofs.laws.valid_certificates_are_accepted.Goals as goal

pub returns-clause-accepted : goal.returns-clause-accepted
returns-clause-accepted _ = λ c h. (accepted_is_valid c h, valid_is_accepted c h)

pub returns-clause-rejected : goal.returns-clause-rejected
returns-clause-rejected _ = λ c h. (rejected_is_not_valid c h, not_valid_is_rejected c h)
