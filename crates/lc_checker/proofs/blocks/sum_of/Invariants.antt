use Rattle.std.proofs.Common.{◌≡◌, ◌<◌, ℕ, length, slice_index, bit_xor}
use Rattle.lc_checker.proofs.blocks.sum_of.Given as goal

abbrev pub invariant-loop-i : goal.invariant-loop-i
invariant-loop-i g l = record {
  many : length l.next ≡ g.row.N;
  done : (t : ℕ) → t < l.i → slice_index l.next t ≡ bit_xor (slice_index l.sum t) (slice_index l.row t);
}
