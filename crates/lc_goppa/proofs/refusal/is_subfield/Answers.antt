use Rattle.lc_goppa.proofs.RefusalLaws.{subfield_told}
use Rattle.lc_goppa.proofs.refusal.is_subfield.Goals as goal

pub returns-clause-is : goal.returns-clause-is
returns-clause-is c = subfield_told c.args.field.now c.args.locator.now c.holds.result c.holds.ensures.is
