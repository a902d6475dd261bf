use Rattle.lc_checker.specs.Cost.{IsChooseRow}
use Rattle.lc_checker.proofs.cost.first_row.Given as goal

abbrev pub invariant-loop-j : goal.invariant-loop-j
invariant-loop-j l = IsChooseRow 0 l._j l.row.items
