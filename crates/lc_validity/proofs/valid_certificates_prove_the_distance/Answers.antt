use Rattle.lc_formats.proofs.CertificateShaped.{certificate_shaped}
use Rattle.lc_formats.proofs.VerdictLaws.{accepted_is_valid}
use Rattle.lc_validity.proofs.ValidityLaws.{certificates_are_sound}
use Rattle.lc_validity.proofs.valid_certificates_prove_the_distance.Goals as goal

pub returns-clause-sound : goal.returns-clause-sound
returns-clause-sound _ = certificates_are_sound

pub returns-clause-checked : goal.returns-clause-checked
returns-clause-checked _ = λ bytes c e v. let h = certificate_shaped bytes c e in certificates_are_sound c h (accepted_is_valid c h v)
