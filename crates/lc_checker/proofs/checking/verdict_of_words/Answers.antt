use Rattle.std.proofs.Common.{◌∙◌, sym}
use Rattle.lc_certificate.specs.Seen.{certificate_of}
use Rattle.lc_checker.specs.Verdict.{reason_of, verdict_of}
use Rattle.lc_checker.proofs.CheckLaws.{verdict_seen, verdict_clear}
use Rattle.lc_checker.proofs.checking.verdict_of_words.Goals as goal

pub returns-in-Some : goal.returns-in-Some
unfolding verdict_of reason_of
returns-in-Some c = record { is = verdict_seen (certificate_of c.args.cert.now) _ c.requires.word c.requires.sets (sym c.in-Some.is ∙ c.in_ok-word.ensures.is) }

pub returns-in-None : goal.returns-in-None
unfolding verdict_of reason_of
returns-in-None c = record { is = verdict_clear (certificate_of c.args.cert.now) c.requires.word c.requires.sets (sym c.in-None.is ∙ c.in_ok-word.ensures.is) }
