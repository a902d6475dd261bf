use Rattle.std.proofs.Common.{◌≡◌, ◌<◌, ℕ, [], length, slice_index_or}
use Rattle.lc_algebra.specs.Word.{zero_word}
use Rattle.lc_kernel.specs.PlaneSums.{symbols_in, AreOver}
use Rattle.lc_kernel.proofs.sums.plane_sums.Given as goal

abbrev pub invariant-loop-i : goal.invariant-loop-i
invariant-loop-i l = record {
  many : length l.words.items ≡ l._i;
  over : AreOver l.code l.words.items;
  zero : (t : ℕ) → t < l._i → slice_index_or (symbols_in l.words.items) t [] ≡ zero_word l.code.columns;
}
