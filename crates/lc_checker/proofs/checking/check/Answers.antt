use Rattle.lc_certificate.specs.Seen.{certificate_of}
use Rattle.lc_checker.specs.Verdict.{verdict_of}
use Rattle.lc_checker.proofs.CheckLaws.{accepted_exactly}
use Rattle.lc_checker.proofs.checking.check.Goals as goal

pub returns-clause-accepted : goal.returns-clause-accepted
returns-clause-accepted c = accepted_exactly (certificate_of c.args.cert.now) (verdict_of c.in_ok-verdict.verdict) c.requires.shaped c.in_ok-verdict.ensures.is
