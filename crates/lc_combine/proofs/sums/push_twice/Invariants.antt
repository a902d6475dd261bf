use Rattle.std.proofs.Common.{◌≡◌, ◌++◌, take}
use Rattle.lc_combine.specs.Rows.{twice_rows}
use Rattle.lc_combine.proofs.sums.push_twice.Given as goal

abbrev pub invariant-loop-i : goal.invariant-loop-i
invariant-loop-i l = l.rows.items ≡ l.initial.rows.items ++ twice_rows (take l.i l.a.rows)
