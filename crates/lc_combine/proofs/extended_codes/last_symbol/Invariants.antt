use Rattle.std.proofs.Common.{◌≡◌, ◌<◌, drop}
use Rattle.lc_algebra.specs.Field.{size, add}
use Rattle.lc_constructions.specs.Combined.{symbol_sum}
use Rattle.lc_combine.proofs.extended_codes.last_symbol.Given as goal

abbrev pub invariant-loop-i : goal.invariant-loop-i
invariant-loop-i l = record {
  below : l.sum < size l.field;
  sum : add l.field l.sum (symbol_sum l.field (drop l.i l.word)) ≡ symbol_sum l.field l.word;
}
