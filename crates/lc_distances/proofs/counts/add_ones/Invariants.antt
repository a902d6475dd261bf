use Rattle.std.proofs.Common.{◌≡◌, ◌+◌, ◌<◌, ◌≤◌, ℕ, bit_xor, count_ones, slice_index}
use Rattle.lc_distances.proofs.counts.add_ones.Given as goal

abbrev pub invariant-loop-i : goal.invariant-loop-i
invariant-loop-i l = record {
  done : (t : ℕ) → t < l.i → slice_index l.counts t ≡ slice_index l.initial.counts t + count_ones (bit_xor (slice_index l.sums t) l.prefix);
  left : (t : ℕ) → l.i ≤ t → slice_index l.counts t ≡ slice_index l.initial.counts t;
}
