use Rattle.std.proofs.Common.{◌≡◌, take}
use Rattle.lc_code.specs.Coordinates.{coordinate_row}
use Rattle.lc_code.proofs.expansion.coordinate_row.Given as goal

abbrev pub invariant-loop-k : goal.invariant-loop-k
invariant-loop-k l = l.row.items ≡ coordinate_row l.field l.degree l.numbers l.i (take l.k l.entries)
