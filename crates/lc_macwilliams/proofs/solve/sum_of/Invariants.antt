use Rattle.std.proofs.Common.{◌≡◌}
use Rattle.lc_macwilliams.specs.Solving.{terms}
use Rattle.lc_macwilliams.proofs.solve.sum_of.Given as goal

abbrev pub invariant-loop-j : goal.invariant-loop-j
invariant-loop-j l = l.sum ≡ terms l.fn.counts l.fn.n l.fn.v l.j
