use Rattle.lc_alternant.specs.Checks.{AreCheckRows}
use Rattle.lc_alternant.proofs.checks.check_rows.Given as goal

abbrev pub invariant-loop-j : goal.invariant-loop-j
invariant-loop-j l = AreCheckRows l.locator l.points l.multipliers l.j l.rows.items
