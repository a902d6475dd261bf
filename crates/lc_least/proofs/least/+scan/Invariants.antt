use Rattle.std.proofs.Common.{◌≡◌, length}
use Rattle.lc_least.specs.Scan.{IsFirst, IsInCosetBelow}
use Rattle.lc_least.proofs.least.+scan.Given as goal

abbrev pub decreases-scan : goal.decreases-scan
decreases-scan l = length l.rows.now

abbrev pub invariant-loop-c : goal.invariant-loop-c
invariant-loop-c l = record {
  first : IsFirst (IsInCosetBelow l.field (length l.initial.sum) l.c l.row l.others l.initial.sum) l.initial.best.symbols.items l.best.symbols.items;
  long : length l.best.symbols.items ≡ length l.initial.best.symbols.items;
  same : l.sum ≡ l.initial.sum;
}
