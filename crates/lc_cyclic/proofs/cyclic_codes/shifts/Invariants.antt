use Rattle.std.proofs.Common.{◌≡◌}
use Rattle.lc_cyclic.specs.Shifts.{shifts}
use Rattle.lc_cyclic.proofs.cyclic_codes.shifts.Given as goal

abbrev pub invariant-loop-i : goal.invariant-loop-i
invariant-loop-i l = l.rows.items ≡ shifts l.polynomial l.n l.i
