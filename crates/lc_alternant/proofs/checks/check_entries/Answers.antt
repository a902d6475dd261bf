use Rattle.std.proofs.Common.{◌∙◌}
use Rattle.lc_code.proofs.CoordinateSteps.{entries_none}
use Rattle.lc_alternant.proofs.checks.check_entries.Goals as goal

pub loop-k-init : goal.loop-k-init
loop-k-init c = c.in_ok-entries.ensures.items ∙ entries_none c.args.locator.now c.args.points.now c.args.multipliers.now c.args.j
