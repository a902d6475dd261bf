use Rattle.std.proofs.Common.{◌∙◌, ap}
use Rattle.lc_formats.specs.Certificate.{or_else}
use Rattle.lc_certificate.specs.Seen.{certificate_of}
use Rattle.lc_checker.specs.Verdict.{reason_of, reasons_of, verdict_of}
use Rattle.lc_checker.proofs.CheckLaws.{verdict_word}
use Rattle.lc_checker.proofs.checking.verdict_on.Goals as goal

pub returns-in-Some : goal.returns-in-Some
unfolding verdict_of reasons_of
returns-in-Some c = record { is = verdict_word (certificate_of c.args.cert.now) (reason_of c.in-Some.reason) (λ later. c.in_ok-reason.ensures.is later ∙ ap (λ o. or_else (reasons_of o) later) c.in-Some.is) }

pub verdict_of_sets-requires-clause-word : goal.verdict_of_sets-requires-clause-word
unfolding reasons_of or_else
verdict_of_sets-requires-clause-word c = λ later. c.in_ok-reason.ensures.is later ∙ ap (λ o. or_else (reasons_of o) later) c.in-None.is
