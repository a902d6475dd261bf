use Rattle.std.proofs.Common.{◌≡◌, length}
use Rattle.lc_algebra.specs.Word.{Fits}
use Rattle.codes_bench.proofs.words.symbols.Given as goal

abbrev pub invariant-loop-place : goal.invariant-loop-place
invariant-loop-place l = record {
  long : length l.symbols.items ≡ l.place;
  fits : Fits l.field l.symbols.items;
}
