use Rattle.std.proofs.Common.{◌≡◌, take}
use Rattle.lc_certify.proofs.certificate.rows_of.Given as goal

abbrev pub invariant-loop-i : goal.invariant-loop-i
invariant-loop-i l = l.rows.items ≡ take l.i l.matrix.rows
