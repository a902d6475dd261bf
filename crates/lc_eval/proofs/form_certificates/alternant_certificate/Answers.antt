use Rattle.std.proofs.Common.{◌+◌, ap}
use Rattle.std.proofs.lemmas.Result.{err_from_is_err_and}
use Rattle.lc_constructions.specs.Alternant.{AlternantForm}
use Rattle.lc_language.specs.Evaluation.{prints, fails}
use Rattle.lc_calls.specs.Value.{refused_of}
use Rattle.lc_eval.proofs.FormCertificateLaws.{certificate_none, certificate_fault, certificate_missed, certificate_told, of_value}
use Rattle.lc_eval.proofs.form_certificates.alternant_certificate.Goals as goal

pub returns-in_default : goal.returns-in_default
returns-in_default c = rw (← c.code.view_is, c.in_default.is) (certificate_none c.args.offset c.code.inside.code c.args.list.now c.fault.result c.fault.ensures)

pub returns-in_err-word : goal.returns-in_err-word
returns-in_err-word c =
    let p = err_from_is_err_and c.from_residual.result c.from_residual.ensures.1 in
    rw (p.1, p.2, ← c.code.view_is, c.in-Some.is) (certificate_fault c.args.offset c.code.inside.code c.in-Some.form c.args.list.now c.in_err-word.field-0.0 c.in_err-word.ensures)

pub returns-then-not-branch : goal.returns-then-not-branch
returns-then-not-branch c =
    of_value c.args.offset c.code.inside.code c.in-Some.form c.args.code.now c.code.inside.form c.args.list.now (fails (refused_of c.in_ok-refused.refused)) c.code.view_is c.in-Some.is
    (certificate_missed c.args.offset c.code.inside.code c.in-Some.form c.args.list.now c.in_ok-word.word (c.form.inside.r + 1) c.in_ok-is_attained.field-0 c.in_ok-refused.refused c.in_ok-word.ensures (ap (λ (form : AlternantForm). form.r + 1) c.form.view_is)
    (rw c.symbols.ensures.are at c.in_ok-is_attained.ensures) c.if-not-branch.true (rw c.symbols-then-not-branch.ensures.are at c.in_ok-refused.ensures))

pub returns : goal.returns
returns c =
    of_value c.args.offset c.code.inside.code c.in-Some.form c.args.code.now c.code.inside.form c.args.list.now (prints c.in_ok-form_line.field-0.items) c.code.view_is c.in-Some.is
    (certificate_told c.args.offset c.code.inside.code c.in-Some.form c.args.list.now c.in_ok-word.word c.in_ok-form_line.field-0.items (c.form.inside.r + 1) c.in_ok-is_attained.field-0 c.in_ok-word.ensures (ap (λ (form : AlternantForm). form.r + 1) c.form.view_is)
    (rw c.symbols.ensures.are at c.in_ok-is_attained.ensures) c.if-not-branch.false c.in_ok-form_line.ensures)
