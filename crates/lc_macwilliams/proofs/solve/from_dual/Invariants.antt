use Rattle.lc_macwilliams.specs.Solving.{IsSolved}
use Rattle.lc_macwilliams.proofs.solve.from_dual.Given as goal

abbrev pub invariant-loop-t : goal.invariant-loop-t
invariant-loop-t l = IsSolved l.fn.code l.t l.found.items
