use Rattle.std.proofs.Common.{◌≡◌, ℕ, ◌-◌, ◌<◌, ◌≤◌, length, get_or}
use Rattle.lc_place.proofs.order.move_to_end.Given as goal

abbrev pub invariant-loop-later : goal.invariant-loop-later
invariant-loop-later l = record {
  many : length l.support ≡ length l.fn.support;
  before : (u : ℕ) → u < l.place → get_or l.support u 0 ≡ get_or l.fn.support u 0;
  after : (u : ℕ) → l.place ≤ u → u < l.later → get_or l.support u 0 ≡ l.k - (length l.fn.support - u);
}
