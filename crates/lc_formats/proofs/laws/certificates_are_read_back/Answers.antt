use Rattle.lc_formats.proofs.CertificateBack.{certificate_back}
use Rattle.lc_formats.proofs.CertificateShaped.{certificate_shaped}
use Rattle.lc_formats.proofs.laws.certificates_are_read_back.Goals as goal

pub returns-clause-shaped : goal.returns-clause-shaped
returns-clause-shaped _ = certificate_shaped

pub returns-clause-back : goal.returns-clause-back
returns-clause-back _ = certificate_back
