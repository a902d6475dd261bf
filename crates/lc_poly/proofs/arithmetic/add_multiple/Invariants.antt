use Rattle.lc_poly.proofs.ListLaws.{IsAdded}
use Rattle.lc_poly.proofs.arithmetic.add_multiple.Given as goal

abbrev pub invariant-loop-i : goal.invariant-loop-i
invariant-loop-i l = IsAdded l.field l.at l.from l.factor l.i l.initial.to l.to
