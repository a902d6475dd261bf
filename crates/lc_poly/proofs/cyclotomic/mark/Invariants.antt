use Rattle.lc_poly.proofs.CyclotomicLaws.{IsMarked, missing}
use Rattle.lc_poly.proofs.cyclotomic.mark.Given as goal

abbrev pub invariant-loop-seen : goal.invariant-loop-seen
invariant-loop-seen l = IsMarked l.n l.q l.i l.seen l.x

abbrev pub decreases-loop-seen : goal.decreases-loop-seen
decreases-loop-seen l = missing l.seen
