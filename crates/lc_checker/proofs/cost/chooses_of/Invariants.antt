use Rattle.std.proofs.Common.{◌+◌}
use Rattle.lc_checker.specs.Cost.{IsChooseRow}
use Rattle.lc_checker.proofs.cost.chooses_of.Given as goal

abbrev pub invariant-loop-i : goal.invariant-loop-i
invariant-loop-i l = IsChooseRow l.i (l.n + 1) l.row.items
