use Rattle.std.proofs.Common.{sym, ◌∙◌}
use Rattle.lc_eval.proofs.FormCertificateLaws.{alternant_few}
use Rattle.lc_eval.proofs.FormLaws.{alternant_applies}
use Rattle.lc_eval.proofs.forms.alternant_code.Goals as goal

pub returns : goal.returns
returns c =
    alternant_applies c.args.offset c.args.form.now.r c.args.form.now.points.now c.args.form.now.multipliers.now c.symbols.result.now c.symbols-2.result.now c.args.form.now.locator.now c.args.field.now c.alternant-code.result c.formed.result
    (sym c.is_wide.ensures ∙ c.if-is_wide.false) (sym c.is_wide-else-is_wide.ensures ∙ c.if-is_wide-2.false)
    (c.symbols.ensures.are ∙ c.in_ok-x.ensures) (c.symbols-2.ensures.are ∙ c.in_ok-y.ensures)
    c.alternant-code.ensures.code c.alternant-code.ensures.form c.alternant-code.ensures.refused c.formed.ensures

pub formed-requires-clause-few : goal.formed-requires-clause-few
formed-requires-clause-few c = alternant_few c.args.field.now c.args.form.now.locator.now c.args.form.now.r c.symbols.result.now c.symbols-2.result.now c.alternant-code.result c.alternant-code.ensures.refused c.alternant-code.ensures.form
