use Rattle.std.proofs.Common.{◌≡◌, ◌++◌, take}
use Rattle.lc_combine.specs.Rows.{right_rows}
use Rattle.lc_combine.proofs.sums.push_right.Given as goal

abbrev pub invariant-loop-i : goal.invariant-loop-i
invariant-loop-i l = l.rows.items ≡ l.initial.rows.items ++ right_rows l.m (take l.i l.b.rows)
