use Rattle.std.proofs.Common.{◌∙◌, map, sym}
use Rattle.lc_certificate.specs.Seen.{claim_of}
use Rattle.lc_checker.specs.Verdict.{reason_of, reasons_of}
use Rattle.lc_checker.proofs.CheckLaws.{sets_dependent}
use Rattle.lc_checker.proofs.reasons.levels_reason.Goals as goal

pub returns-in-Some : goal.returns-in-Some
unfolding reasons_of reason_of
returns-in-Some c = record { is = λ d m h t. sets_dependent d (map claim_of c.args.claims.now) c.in-Some.number (sym c.in-Some.is ∙ c.in_ok-number.ensures.is d h) }
