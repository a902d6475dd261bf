use Rattle.std.proofs.Common.{◌≡◌, ◌+◌, ◌<◌, ℕ, [], length, slice_index, slice_index_or}
use Rattle.lc_planes.specs.Planes.{plane_at}
use Rattle.lc_kernel.proofs.grid.push_plane.Given as goal

abbrev pub invariant-loop-e : goal.invariant-loop-e
invariant-loop-e l = record {
  long : length l.bits.items ≡ length l.initial.bits.items + l.e;
  before : (i : ℕ) → i < length l.initial.bits.items → slice_index l.bits.items i ≡ slice_index l.initial.bits.items i;
  after : (e : ℕ) → e < l.e → slice_index l.bits.items (length l.initial.bits.items + e) ≡ plane_at l.plane l.columns (slice_index_or l.words e []);
}
