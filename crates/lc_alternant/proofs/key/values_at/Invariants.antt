use Rattle.std.proofs.Common.{◌≡◌, map, take}
use Rattle.lc_algebra.specs.Polynomial.{value_at}
use Rattle.lc_alternant.proofs.key.values_at.Given as goal

abbrev pub invariant-loop-i : goal.invariant-loop-i
invariant-loop-i l = l.values.items ≡ map (value_at l.polynomial.field l.polynomial.coefficients) (take l.i l.points)
