use Rattle.std.proofs.Common.{◌≡◌, ◌<◌, ℕ, [], length, slice_index, slice_index_or}
use Rattle.lc_algebra.specs.Span.{below}
use Rattle.lc_planes.specs.Planes.{part_at, plane_at}
use Rattle.lc_planes.proofs.packing.pack.Given as goal

abbrev pub invariant-loop-i : goal.invariant-loop-i
invariant-loop-i g l = record {
  many : length l.bits ≡ g.row.N;
  are : (i p : ℕ) → i < l.i → p < g.row.P → slice_index (slice_index_or l.bits i []) p ≡ plane_at p (part_at (below (length l.word)) i) l.word;
}
