use Rattle.std.proofs.Common.{◌≡◌, ◌<◌, ℕ, length, slice_index}
use Rattle.lc_kernel.specs.Kernel.{top_sum}
use Rattle.lc_kernel.proofs.place.word_of.Given as goal

abbrev pub invariant-loop-i : goal.invariant-loop-i
invariant-loop-i l = record {
  many : length l.symbols.items ≡ l.i;
  are : (t : ℕ) → t < l.i → slice_index l.symbols.items t ≡ slice_index (top_sum l.stack) t;
}
