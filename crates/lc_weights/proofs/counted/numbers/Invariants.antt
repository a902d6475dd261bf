use Rattle.lc_macwilliams.specs.Solving.{IsSolved}
use Rattle.lc_weights.proofs.counted.numbers.Given as goal

abbrev pub invariant-loop-j : goal.invariant-loop-j
invariant-loop-j l = IsSolved l.fn.code l.j l.found.items
