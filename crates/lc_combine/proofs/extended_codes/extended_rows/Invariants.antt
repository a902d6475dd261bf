use Rattle.std.proofs.Common.{◌≡◌, take}
use Rattle.lc_combine.specs.Rows.{extended_rows}
use Rattle.lc_combine.proofs.extended_codes.extended_rows.Given as goal

abbrev pub invariant-loop-i : goal.invariant-loop-i
invariant-loop-i l = l.rows.items ≡ extended_rows l.code.field (take l.i l.code.rows)
