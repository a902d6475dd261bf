use Rattle.std.proofs.Common.{◌≡◌, ℕ, ◌+◌, ◌-◌, ◌<◌, ◌≤◌, length, slice_index}
use Rattle.lc_kernel.proofs.sweeps.next_support.Given as goal

abbrev pub decreases-loop-place : goal.decreases-loop-place
decreases-loop-place l = l.place

abbrev pub invariant-loop-place : goal.invariant-loop-place
invariant-loop-place l = record {
  same : l.support ≡ l.initial.support;
  within : l.place ≤ length l.initial.support;
  later : (u : ℕ) → l.place ≤ u → u < length l.support → l.k ≤ slice_index l.support u + (length l.support - u);
}
