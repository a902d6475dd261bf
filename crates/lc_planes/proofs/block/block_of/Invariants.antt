use Rattle.std.proofs.Common.{◌≡◌, ◌<◌, ℕ, length, slice_index}
use Rattle.lc_planes.specs.Planes.{plane}
use Rattle.lc_planes.proofs.block.block_of.Given as goal

abbrev pub invariant-loop-t : goal.invariant-loop-t
invariant-loop-t l = record {
  long : length l.block ≡ 4;
  done : (i : ℕ) → i < l.t → slice_index l.block i ≡ plane i l.symbols;
}
