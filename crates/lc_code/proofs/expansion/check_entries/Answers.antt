use Rattle.std.proofs.Common.{◌∙◌}
use Rattle.lc_code.proofs.CoordinateSteps.{entries_none}
use Rattle.lc_code.proofs.expansion.check_entries.Goals as goal

pub loop-k-init : goal.loop-k-init
loop-k-init c = c.in_ok-entries.ensures.items ∙ entries_none c.args.form.now.locator c.args.form.now.points c.args.form.now.multipliers c.args.j
