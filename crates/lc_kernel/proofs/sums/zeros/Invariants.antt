use Rattle.std.proofs.Common.{◌≡◌, ℕ, ◌<◌, [], length, slice_index_or}
use Rattle.lc_algebra.specs.Word.{zero_word}
use Rattle.lc_kernel.proofs.sums.zeros.Given as goal

abbrev pub invariant-loop-i : goal.invariant-loop-i
invariant-loop-i l = record {
  many : length l.words.items ≡ l._i;
  zero : (t : ℕ) → t < l._i → slice_index_or l.words.items t [] ≡ zero_word l.n;
}
