use Rattle.std.proofs.Common.{◌+◌}
use Rattle.lc_checker.specs.Cost.{IsChooseRow}
use Rattle.lc_checker.proofs.cost.next_row.Given as goal

abbrev pub invariant-loop-j : goal.invariant-loop-j
invariant-loop-j l = IsChooseRow (l._n + 1) l.j l.next.items
