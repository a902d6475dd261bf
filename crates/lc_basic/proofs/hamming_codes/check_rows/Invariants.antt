use Rattle.std.proofs.Common.{◌≡◌}
use Rattle.lc_basic.specs.Column.{checks_part}
use Rattle.lc_basic.proofs.hamming_codes.check_rows.Given as goal

abbrev pub invariant-loop-i : goal.invariant-loop-i
invariant-loop-i l = l.rows.items ≡ checks_part l.q l.r l.i
