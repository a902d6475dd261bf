use Rattle.std.proofs.Common.{◌≡◌, ◌+◌, ◌<◌, ◌≤◌, ℕ, bit_or, bit_xor, count_ones, slice_index}
use Rattle.lc_distances.proofs.planes.add_two.Given as goal

abbrev pub invariant-loop-i : goal.invariant-loop-i
invariant-loop-i l = record {
  done : (t : ℕ) → t < l.i → slice_index l.counts t ≡ slice_index l.initial.counts t + count_ones (bit_or (bit_xor (slice_index l.head 1) (slice_index l.twos t)) (bit_xor (slice_index l.head 0) (slice_index l.ones t)));
  left : (t : ℕ) → l.i ≤ t → slice_index l.counts t ≡ slice_index l.initial.counts t;
}
