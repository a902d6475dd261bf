use Rattle.std.proofs.Common.{◌≡◌, ◌<◌, ℕ, [], length, slice_index, slice_index_or}
use Rattle.lc_enumeration.specs.Search.{generator_at}
use Rattle.lc_kernel.specs.Packed.{bits_at}
use Rattle.lc_kernel.proofs.parts.row_bits.Given as goal

abbrev pub invariant-loop-i : goal.invariant-loop-i
invariant-loop-i l = record {
  many : length l.rows.items ≡ l.i;
  bits : (t : ℕ) → t < l.i → slice_index l.rows.items t ≡ bits_at l.columns (slice_index_or (generator_at l.sets l.j) t []);
}
