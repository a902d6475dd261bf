use Rattle.lc_goppa.proofs.RefusalLaws.{subfield_told}
use Rattle.lc_eval.proofs.wide.is_subfield.Goals as goal

pub returns : goal.returns
returns c = subfield_told c.args.field.now c.args.locator.now c.holds.result c.holds.ensures.is
