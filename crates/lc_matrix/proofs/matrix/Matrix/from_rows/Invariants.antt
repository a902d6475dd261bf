use Rattle.std.proofs.Common.{◌≡◌, take}
use Rattle.lc_matrix.proofs.matrix.Matrix.from_rows.Given as goal

abbrev pub invariant-loop-row : goal.invariant-loop-row
invariant-loop-row l = record {
  same_field : l.matrix.field ≡ l.field;
  same_columns : l.matrix.columns ≡ l.cols;
  so_far : l.matrix.rows ≡ take l.row-index l.rows;
}
