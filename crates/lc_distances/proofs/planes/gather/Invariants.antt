use Rattle.std.proofs.Common.{◌≡◌, ◌<◌, ◌≤◌, ℕ, length, slice_index}
use Rattle.lc_distances.proofs.planes.gather.Given as goal

abbrev pub invariant-loop-t : goal.invariant-loop-t
invariant-loop-t l = record {
  long : length l.block ≡ 64;
  done : (i : ℕ) → i < l.t → slice_index l.block i ≡ slice_index l.word (slice_index l.columns i);
  rest : (i : ℕ) → l.t ≤ i → slice_index l.block i ≡ 0;
}
