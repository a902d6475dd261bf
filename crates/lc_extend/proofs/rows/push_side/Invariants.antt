use Rattle.std.proofs.Common.{◌≡◌, ◌++◌, take}
use Rattle.lc_extend.specs.Rows.{side_rows}
use Rattle.lc_extend.proofs.rows.push_side.Given as goal

abbrev pub invariant-loop-i : goal.invariant-loop-i
invariant-loop-i l = l.rows.items ≡ l.initial.rows.items ++ side_rows (take l.i l.b.rows) (take l.i l.e.rows)
