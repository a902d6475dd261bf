use Rattle.std.proofs.Common.{◌≡◌, ◌<◌, ◌≤◌, ℕ, length, slice_index}
use Rattle.lc_planes.specs.Planes.{plane_at}
use Rattle.lc_distances.proofs.planes.pack.Given as goal

abbrev pub invariant-loop-j : goal.invariant-loop-j
invariant-loop-j l = record {
  long : length l.bits ≡ 4;
  done : (i : ℕ) → i < l.j → slice_index l.bits i ≡ plane_at i l.columns l.word;
  rest : (i : ℕ) → l.j ≤ i → i < 4 → slice_index l.bits i ≡ 0;
}
