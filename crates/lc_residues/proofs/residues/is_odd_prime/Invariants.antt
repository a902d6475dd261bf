use Rattle.std.proofs.Common.{◌≢◌, ℕ, ◌%◌, ◌<◌, ◌≤◌}
use Rattle.lc_residues.proofs.residues.is_odd_prime.Given as goal

abbrev pub invariant-loop-d : goal.invariant-loop-d
invariant-loop-d l = (k : ℕ) → 2 ≤ k → k < l.d → l.n % k ≢ 0
