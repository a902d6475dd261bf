use Rattle.std.proofs.Common.{sym, ◌∙◌}
use Rattle.lc_eval.proofs.FormCertificateLaws.{goppa_few}
use Rattle.lc_eval.proofs.FormLaws.{goppa_applies}
use Rattle.lc_eval.proofs.forms.goppa_code.Goals as goal

pub returns : goal.returns
returns c =
    goppa_applies c.args.offset c.args.list.now c.args.points.now c.symbols.result.now c.symbols-2.result.now c.args.locator.now c.args.field.now c.goppa-code.result c.formed.result
    (sym c.is_wide.ensures ∙ c.if-is_wide.false) (sym c.is_wide-else-is_wide.ensures ∙ c.if-is_wide-2.false)
    (c.symbols.ensures.are ∙ c.in_ok-g.ensures) (c.symbols-2.ensures.are ∙ c.in_ok-points.ensures)
    c.goppa-code.ensures.code c.goppa-code.ensures.form c.goppa-code.ensures.refused c.formed.ensures

pub formed-requires-clause-few : goal.formed-requires-clause-few
formed-requires-clause-few c = goppa_few c.args.field.now c.args.locator.now c.symbols.result.now c.symbols-2.result.now c.goppa-code.result c.goppa-code.ensures.refused c.goppa-code.ensures.form
