use Rattle.std.proofs.Common.{◌≡◌, ◌<◌, ℕ, length, slice_index}
use Rattle.lc_checker.specs.Walk.{row_of}
use Rattle.lc_vec.specs.Packed.{packed}
use Rattle.lc_checker.proofs.bits.bits_of_rows.Given as goal

abbrev pub invariant-loop-i : goal.invariant-loop-i
invariant-loop-i l = record {
  many : length l.bits.items ≡ l.i;
  entry : (t : ℕ) → t < l.i → slice_index l.bits.items t ≡ packed (row_of l.rows.rows t);
}
