use Rattle.std.proofs.Common.{◌≡◌, ◌++◌, take}
use Rattle.lc_code.proofs.rows.push_each.Given as goal

abbrev pub invariant-loop-i : goal.invariant-loop-i
invariant-loop-i l = l.rows.items ≡ l.initial.rows.items ++ take l.i l.code.rows
