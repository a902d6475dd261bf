use Rattle.std.proofs.Common.{◌∙◌, map, sym}
use Rattle.lc_certificate.specs.Seen.{claim_of}
use Rattle.lc_checker.specs.Verdict.{reason_of, reasons_of}
use Rattle.lc_checker.proofs.CheckLaws.{sets_overlap, sets_rest}
use Rattle.lc_checker.proofs.reasons.apart_reason.Goals as goal

pub returns-in-Some : goal.returns-in-Some
unfolding reasons_of reason_of
returns-in-Some c = record { is = λ d m h t free. sets_overlap d (map claim_of c.args.claims.now) c.in-Some.place free (sym c.in-Some.is ∙ c.least_overlap.ensures.is d (sym h.columns ∙ sym c.cols.ensures.is)) }

pub returns-in-None : goal.returns-in-None
returns-in-None c = record { is = λ d m h t free. sets_rest d (map claim_of c.args.claims.now) (reasons_of c.bound_reason.result) free (sym c.in-None.is ∙ c.least_overlap.ensures.is d (sym h.columns ∙ sym c.cols.ensures.is)) (c.bound_reason.ensures.is d c.args.code.now m h (sym c.rows.ensures.is) t) }
