use Rattle.std.proofs.Common.{◌≡◌, [], length, map, take, slice_index_or}
use Rattle.lc_matrix.proofs.matrix.Matrix.rows_at.Given as goal

abbrev pub invariant-loop-i : goal.invariant-loop-i
invariant-loop-i l = record {
  same_field : l.matrix.field ≡ l.self.field;
  same_columns : l.matrix.columns ≡ l.self.columns;
  rows : l.matrix.rows ≡ map (λ k. slice_index_or l.self.rows k []) (take l.i-index l.indexes);
}
