use Rattle.std.proofs.Common.{◌≡◌, ◌≤◌, ◌++◌, map, flat_map}
use Rattle.lc_algebra.specs.Word.{word_sum, scale}
use Rattle.lc_algebra.specs.Span.{below}
use Rattle.lc_span.proofs.words.with_row.Given as goal

abbrev pub invariant-loop-c : goal.invariant-loop-c
invariant-loop-c l = record {
  some : 1 ≤ l.c;
  are : l.list.items ++ l.sums.items ≡ flat_map (λ c. map (word_sum l.field (scale l.field c l.row)) l.list.items) (below l.c);
}
