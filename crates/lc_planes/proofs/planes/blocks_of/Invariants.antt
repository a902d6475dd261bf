use Rattle.std.proofs.Common.{◌≡◌, ◌<◌, ℕ, [], length, slice_index, slice_index_or}
use Rattle.lc_planes.specs.Planes.{plane, part_at}
use Rattle.lc_planes.proofs.planes.blocks_of.Given as goal

abbrev pub invariant-loop-b : goal.invariant-loop-b
invariant-loop-b l = record {
  many : length l.blocks.items ≡ l.b;
  are : (i t : ℕ) → i < l.b → t < 4 → slice_index (slice_index_or l.blocks.items i []) t ≡ plane t (part_at l.symbols i);
}
