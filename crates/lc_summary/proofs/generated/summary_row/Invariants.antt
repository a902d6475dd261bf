use Rattle.std.proofs.Common.{◌≡◌, ◌++◌, map}
use Rattle.lc_algebra.specs.Span.{below}
use Rattle.lc_summary.proofs.RowLaws.{unit_at, bit_at}
use Rattle.lc_summary.proofs.generated.summary_row.Given as goal

abbrev pub invariant-loop-c : goal.invariant-loop-c
invariant-loop-c l = l.symbols.items ≡ map (unit_at l.i) (below l.c)

abbrev pub invariant-loop-j : goal.invariant-loop-j
invariant-loop-j l = l.symbols.items ≡ map (unit_at l.i) (below 24) ++ map (bit_at l.word) (below l.j)
