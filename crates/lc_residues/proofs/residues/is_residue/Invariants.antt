use Rattle.std.proofs.Common.{◌≢◌, ℕ, ◌*◌, ◌%◌, ◌<◌}
use Rattle.lc_residues.proofs.residues.is_residue.Given as goal

abbrev pub invariant-loop-j : goal.invariant-loop-j
invariant-loop-j l = (k : ℕ) → k < l.j → k * k % l.n ≢ l.a % l.n
