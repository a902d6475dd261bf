use Rattle.std.proofs.Common.{◌≡◌, ◌<◌, ℕ, length, slice_index}
use Rattle.lc_algebra.specs.Span.{below}
use Rattle.lc_planes.specs.Planes.{part_at, plane_at}
use Rattle.lc_planes.proofs.packing.pack_part.Given as goal

abbrev pub invariant-loop-p : goal.invariant-loop-p
invariant-loop-p g l = record {
  many : length l.bits ≡ g.row.P;
  are : (p : ℕ) → p < l.p → slice_index l.bits p ≡ plane_at p (part_at (below (length l.word)) l.i) l.word;
}
