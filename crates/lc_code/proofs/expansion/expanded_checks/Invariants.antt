use Rattle.std.proofs.Common.{◌≡◌}
use Rattle.lc_code.specs.Coordinates.{expanded_rows}
use Rattle.lc_code.proofs.expansion.expanded_checks.Given as goal

abbrev pub invariant-loop-j : goal.invariant-loop-j
invariant-loop-j l = l.rows.items ≡ expanded_rows l.field l.form l.numbers.items l.j
