use Rattle.lc_poly.proofs.CyclotomicLaws.{IsCollected}
use Rattle.lc_poly.proofs.cyclotomic.members.Given as goal

abbrev pub invariant-loop-x : goal.invariant-loop-x
invariant-loop-x l = IsCollected l.seen l.x l.xs.items
