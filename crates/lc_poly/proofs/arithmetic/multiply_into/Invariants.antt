use Rattle.std.proofs.Common.{◌≤◌, length}
use Rattle.lc_poly.proofs.ListLaws.{IsMultiplied}
use Rattle.lc_poly.proofs.arithmetic.multiply_into.Given as goal

abbrev pub invariant-loop-at : goal.invariant-loop-at
invariant-loop-at l = (l.at ≤ length l.first) × IsMultiplied l.field l.first l.second l.at l.product

abbrev pub decreases-loop-at : goal.decreases-loop-at
decreases-loop-at l = l.at
