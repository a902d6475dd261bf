use Rattle.std.proofs.Common.{◌≡◌, ◌<◌, ◌≤◌, ℕ, length, slice_index}
use Rattle.lc_planes.proofs.block.padded.Given as goal

abbrev pub invariant-loop-e : goal.invariant-loop-e
invariant-loop-e l = record {
  long : length l.all ≡ 64;
  done : (i : ℕ) → i < l.e → slice_index l.all i ≡ slice_index l.symbols i;
  rest : (i : ℕ) → l.e ≤ i → slice_index l.all i ≡ 0;
}
