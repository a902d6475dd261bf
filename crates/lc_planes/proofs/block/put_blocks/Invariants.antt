use Rattle.std.proofs.Common.{◌≡◌, ◌<◌, ℕ, [], length, slice_index, slice_index_or, bit_xor}
use Rattle.lc_planes.proofs.block.put_blocks.Given as goal

abbrev pub invariant-loop-b : goal.invariant-loop-b
invariant-loop-b l = record {
  long : length l.to ≡ length l.first;
  done : (i t : ℕ) → i < l.b → t < 4 → slice_index (slice_index_or l.to i []) t ≡ bit_xor (slice_index (slice_index_or l.first i []) t) (slice_index (slice_index_or l.second i []) t);
}
