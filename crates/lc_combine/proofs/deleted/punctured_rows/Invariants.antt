use Rattle.std.proofs.Common.{◌≡◌, take}
use Rattle.lc_combine.specs.Rows.{punctured_rows}
use Rattle.lc_combine.proofs.deleted.punctured_rows.Given as goal

abbrev pub invariant-loop-i : goal.invariant-loop-i
invariant-loop-i l = l.rows.items ≡ punctured_rows l.coordinates (take l.i l.code.rows)
