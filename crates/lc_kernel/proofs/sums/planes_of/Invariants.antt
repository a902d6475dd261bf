use Rattle.std.proofs.Common.{◌≡◌, ◌<◌, ℕ, [], length, slice_index_or}
use Rattle.lc_kernel.specs.PlaneSums.{symbols_in, AreOver}
use Rattle.lc_kernel.proofs.sums.planes_of.Given as goal

abbrev pub invariant-loop-i : goal.invariant-loop-i
invariant-loop-i l = record {
  many : length l.planes.items ≡ l.i;
  over : AreOver l.sets l.planes.items;
  are : (t : ℕ) → t < l.i → slice_index_or (symbols_in l.planes.items) t [] ≡ slice_index_or l.multiples t [];
}
