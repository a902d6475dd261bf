use Rattle.std.proofs.Common.{◌≡◌, ◌+◌, ◌<◌, ℕ, length, bit_xor, slice_index}
use Rattle.lc_kernel.proofs.parts.push_sums.Given as goal

abbrev pub invariant-loop-i : goal.invariant-loop-i
invariant-loop-i l = record {
  long : length l.longer.items ≡ length l.initial.longer.items + l.i;
  before : (r : ℕ) → r < length l.initial.longer.items → slice_index l.longer.items r ≡ slice_index l.initial.longer.items r;
  after : (x : ℕ) → x < l.i → slice_index l.longer.items (length l.initial.longer.items + x) ≡ bit_xor l.row (slice_index l.sums x);
}
