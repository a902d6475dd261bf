use Rattle.std.proofs.Common.{◌≡◌}
use Rattle.lc_matrix.specs.Elimination.{IsClearedTo}
use Rattle.lc_matrix.proofs.matrix.Matrix.clear.Given as goal

abbrev pub invariant-loop-j : goal.invariant-loop-j
invariant-loop-j l = record {
  same_field : l.self.field ≡ l.initial.self.field;
  same_columns : l.self.columns ≡ l.initial.self.columns;
  cleared : IsClearedTo l.self.field l.c l.r l.j l.pivot l.initial.self.rows l.self.rows;
}
