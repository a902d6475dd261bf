use Rattle.std.proofs.Common.{rules}
use Rattle.std.proofs.lemmas.Result.{err_from_is_err_and}
use Rattle.serde_json.specs.View.{view}
use Rattle.lc_json.specs.Inside.{members_in}
use Rattle.lc_certificate.specs.Seen.{certificate_of}
use Rattle.lc_certificate.proofs.PartLaws.{version_is, still_refused, then_refused}
use Rattle.lc_certificate.proofs.reading.certificate_from.Goals as goal

pub returns-in_err-cert-clause-refused : goal.returns-in_err-cert-clause-refused
returns-in_err-cert-clause-refused c =
    let p = err_from_is_err_and c.from_residual.result c.from_residual.ensures.1 in
    rw (p.1, p.2) (still_refused (view c.args.value.now) c.in-Some.field c.in_err-cert.field-0.0 (search rules) (search rules) (search rules) c.in_err-cert.ensures.refused)

pub returns-in_err-cert-clause-needed : goal.returns-in_err-cert-clause-needed
returns-in_err-cert-clause-needed c = λ none. (version_is (members_in (view c.args.value.now)) (search rules), search rules, search rules)

pub returns-in_err-check_closed-clause-refused : goal.returns-in_err-check_closed-clause-refused
returns-in_err-check_closed-clause-refused c =
    let p = err_from_is_err_and c.from_residual-in_err-check_closed.result c.from_residual-in_err-check_closed.ensures.1 in
    rw (p.1, p.2) (then_refused (view c.args.value.now) c.in-Some.field c.in_err-check_closed.field-0.0 (certificate_of c.in_ok-cert.cert) (search rules) (search rules) (search rules) c.in_ok-cert.ensures.is c.in_err-check_closed.ensures.refused)
