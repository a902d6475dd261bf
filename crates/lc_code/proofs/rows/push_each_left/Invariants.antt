use Rattle.std.proofs.Common.{◌≡◌, ◌++◌, take}
use Rattle.lc_code.specs.Rows.{left_rows}
use Rattle.lc_code.proofs.rows.push_each_left.Given as goal

abbrev pub invariant-loop-i : goal.invariant-loop-i
invariant-loop-i l = l.rows.items ≡ l.initial.rows.items ++ left_rows l.n (take l.i l.a.rows)
