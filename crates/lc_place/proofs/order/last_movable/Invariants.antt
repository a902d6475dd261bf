use Rattle.std.proofs.Common.{◌≡◌, ℕ, ◌+◌, ◌-◌, ◌<◌, ◌≤◌, length, get_or}
use Rattle.lc_place.proofs.order.last_movable.Given as goal

abbrev pub invariant-loop-place : goal.invariant-loop-place
invariant-loop-place l = record {
  within : l.place + l.room ≡ length l.support;
  later : (u : ℕ) → l.place ≤ u → u < length l.support → l.k ≤ get_or l.support u 0 + (length l.support - u);
}

abbrev pub decreases-loop-place : goal.decreases-loop-place
decreases-loop-place l = l.place
