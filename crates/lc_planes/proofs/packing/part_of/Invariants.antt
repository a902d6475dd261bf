use Rattle.std.proofs.Common.{◌≡◌, ◌+◌, ◌<◌, ◌≤◌, ℕ, length, slice_index}
use Rattle.lc_planes.proofs.packing.part_of.Given as goal

abbrev pub invariant-loop-t : goal.invariant-loop-t
invariant-loop-t l = record {
  long : length l.block ≡ 64;
  done : (i : ℕ) → i < l.t → slice_index l.block i ≡ slice_index l.word (l.start + i);
  rest : (i : ℕ) → l.t ≤ i → slice_index l.block i ≡ 0;
}
