use Rattle.std.proofs.Common.{◌∙◌}
use Rattle.lc_summary.proofs.CodeLaws.{code_made}
use Rattle.lc_summary.proofs.generated.summary_code.Goals as goal

pub returns : goal.returns
returns c = record { code = code_made c.args.seed c.in_ok-field.field c.deref.result.now c.from_rows.result c.in_ok-field.ensures (c.deref.ensures.value ∙ c.in_ok-rows.ensures) c.from_rows.ensures.code }
