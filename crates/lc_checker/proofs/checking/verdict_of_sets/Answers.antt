use Rattle.std.proofs.Common.{◌∙◌, ap}
use Rattle.lc_formats.specs.Certificate.{or_else}
use Rattle.lc_certificate.specs.Seen.{certificate_of}
use Rattle.lc_checker.specs.Verdict.{reason_of, reasons_of, verdict_of}
use Rattle.lc_checker.proofs.CheckLaws.{verdict_set}
use Rattle.lc_checker.proofs.checking.verdict_of_sets.Goals as goal

pub returns-in-Some : goal.returns-in-Some
unfolding verdict_of reasons_of
returns-in-Some c = record { is = verdict_set (certificate_of c.args.cert.now) (reason_of c.in-Some.reason) c.requires.word (λ later. c.in_ok-reason.ensures.is later ∙ ap (λ o. or_else (reasons_of o) later) c.in-Some.is) }

pub verdict_of_words-requires-clause-sets : goal.verdict_of_words-requires-clause-sets
unfolding reasons_of or_else
verdict_of_words-requires-clause-sets c = λ later. c.in_ok-reason.ensures.is later ∙ ap (λ o. or_else (reasons_of o) later) c.in-None.is
