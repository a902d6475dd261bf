use Rattle.std.proofs.Common.{◌≡◌, ◌++◌, map}
use Rattle.lc_algebra.specs.Span.{below}
use Rattle.lc_code.specs.Coordinates.{coordinate_row}
use Rattle.lc_code.proofs.expansion.add_coordinates.Given as goal

abbrev pub invariant-loop-i : goal.invariant-loop-i
invariant-loop-i l = l.rows.items ≡ l.initial.rows.items ++ map (λ i. coordinate_row l.field l.degree l.numbers i l.entries) (below l.i)
