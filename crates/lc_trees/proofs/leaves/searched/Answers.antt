use Rattle.std.proofs.Common.{refl, sym, ap, subst, ◌∙◌, arith}
use Rattle.lc_algebra.specs.Span.{InSpan}
use Rattle.lc_constructions.specs.Code.{IsCode}
use Rattle.lc_formats.specs.Certificate.{code_length}
use Rattle.lc_certificate.specs.Seen.{certificate_of}
use Rattle.lc_checker.specs.Verdict.{reason_of, verdict_of}
use Rattle.lc_trees.proofs.OutcomeLaws.{search_refused, search_made}
use Rattle.lc_trees.proofs.leaves.searched.Goals as goal

pub from_rows-requires-clause-least : goal.from_rows-requires-clause-least
unfolding certificate_of code_length
from_rows-requires-clause-least c = omega (arith, c.len.ensures.is, c.requires.shaped.1.has_columns)

pub from_rows-requires-clause-most : goal.from_rows-requires-clause-most
unfolding certificate_of code_length
from_rows-requires-clause-most c = omega (arith, c.len.ensures.is, c.requires.shaped.1.few_columns)

pub from_rows-requires-clause-rows : goal.from_rows-requires-clause-rows
unfolding certificate_of code_length
from_rows-requires-clause-rows c = rw (c.deref.ensures.value, sym c.requires.shaped.0, c.len.ensures.is) c.requires.shaped.1.rows_fit

pub returns-in-Rejected : goal.returns-in-Rejected
unfolding verdict_of
returns-in-Rejected c =
    record { is = search_refused c.args.field.now c.args.number c.number.result (certificate_of c.args.cert.now) (reason_of c.in-Rejected.reason) (ap verdict_of (sym c.in-Rejected.is) ∙ c.in_ok-reason.ensures.is) c.number.ensures.is }

pub returns-in_ok-code-in-Accepted : goal.returns-in_ok-code-in-Accepted
unfolding certificate_of code_length verdict_of
returns-in_ok-code-in-Accepted c =
    let f = c.args.field.now in
    let C = c.in_ok-code-in-Accepted.code in
    let code = subst (λ n. IsCode f n (InSpan f n c.args.cert.now.rows.items) C) c.len.ensures.is (subst (λ rows. IsCode f c.len.result (InSpan f c.len.result rows) C) c.deref.ensures.value c.in_ok-code-in-Accepted.ensures.code) in
    record { is = search_made f c.args.number c.args.cert.now.distance (certificate_of c.args.cert.now) C c.own.result (ap verdict_of (sym c.in-Accepted.is) ∙ c.in_ok-reason.ensures.is) code refl c.own.ensures.is }
