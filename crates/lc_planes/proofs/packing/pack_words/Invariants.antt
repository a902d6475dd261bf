use Rattle.std.proofs.Common.{◌≡◌, ◌<◌, ℕ, [], length, slice_index_or}
use Rattle.lc_planes.specs.Packing.{IsPacked}
use Rattle.lc_planes.proofs.packing.pack_words.Given as goal

abbrev pub invariant-loop-i : goal.invariant-loop-i
invariant-loop-i g l = record {
  many : length l.bits.items ≡ l.i;
  each : (e : ℕ) → e < l.i → IsPacked g.row.P g.row.N (slice_index_or l.words e []) (slice_index_or l.bits.items e []);
}
