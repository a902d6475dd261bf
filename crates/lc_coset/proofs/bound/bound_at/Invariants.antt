use Rattle.std.proofs.Common.{◌≡◌, ◌≤◌, ◌*◌, ◌^◌}
use Rattle.lc_coset.proofs.BoundLaws.{sum_to}
use Rattle.lc_coset.proofs.bound.bound_at.Given as goal

abbrev pub invariant-loop-j : goal.invariant-loop-j
invariant-loop-j l = (l.sum ≡ sum_to l.sets l.phase l.j) × (l.sum ≤ l.j * 2 ^ 18)
