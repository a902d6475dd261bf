use Rattle.std.proofs.Common.{◌≡◌, ◌<◌, ℕ, List, length, map, slice_index}
use Rattle.lc_algebra.specs.Embedding.{embed}
use Rattle.lc_algebra.specs.Word.{Fits, IsWord, difference}
use Rattle.lc_alternant.proofs.decoder.subtracted.Given as goal

abbrev pub invariant-loop-i : goal.invariant-loop-i
invariant-loop-i l = record {
  count : length l.symbols.items ≡ l.i;
  fits : Fits l.field l.symbols.items;
  one : (u : List ℕ) → IsWord l.field (length l.word) u → l.errors ≡ map (embed l.field l.locator) (difference l.field l.word u) → (k : ℕ) → k < l.i → slice_index l.symbols.items k ≡ slice_index u k;
}
