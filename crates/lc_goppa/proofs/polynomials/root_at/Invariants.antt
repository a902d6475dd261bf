use Rattle.std.proofs.Common.{ℕ, ◌<◌, slice_index}
use Rattle.lc_algebra.specs.Polynomial.{value_at}
use Rattle.lc_goppa.proofs.polynomials.root_at.Given as goal

abbrev pub invariant-loop-i : goal.invariant-loop-i
invariant-loop-i l = (k : ℕ) → k < l.i → 0 < value_at l.locator l.list (slice_index l.points k)
