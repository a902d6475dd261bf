use Rattle.lc_coset.specs.Near.{walk_matrix, IsWalk}
use Rattle.lc_coset.proofs.walk.refresh.Given as goal

abbrev pub invariant-loop-i : goal.invariant-loop-i
invariant-loop-i l = IsWalk (walk_matrix l.walk.sets.now l.walk.left.now l.walk.set) l.spot l.i l.sums
