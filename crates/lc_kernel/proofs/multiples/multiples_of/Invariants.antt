use Rattle.std.proofs.Common.{◌≡◌, ℕ, ◌<◌, [], length, slice_index_or}
use Rattle.lc_algebra.specs.Word.{IsWord}
use Rattle.lc_kernel.specs.Sums.{multiple_at}
use Rattle.lc_kernel.proofs.multiples.multiples_of.Given as goal

abbrev pub invariant-loop-index : goal.invariant-loop-index
invariant-loop-index l = record {
  many : length l.words.items ≡ l.index;
  is : (t : ℕ) → t < l.index → slice_index_or l.words.items t [] ≡ multiple_at l.sets t;
  words : (t : ℕ) → t < l.index → IsWord l.sets.field l.sets.columns (slice_index_or l.words.items t []);
}
