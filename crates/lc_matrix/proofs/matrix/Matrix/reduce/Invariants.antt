use Rattle.std.proofs.Common.{◌≡◌, length}
use Rattle.lc_algebra.specs.Span.{SameSpan}
use Rattle.lc_algebra.specs.Matrix.{AreRows}
use Rattle.lc_matrix.specs.Elimination.{IsReducedTo}
use Rattle.lc_matrix.proofs.matrix.Matrix.reduce.Given as goal

abbrev pub invariant-loop-t : goal.invariant-loop-t
invariant-loop-t l = record {
  same_field : l.self.field ≡ l.initial.self.field;
  same_columns : l.self.columns ≡ l.initial.self.columns;
  count : length l.self.rows ≡ length l.initial.self.rows;
  words : AreRows l.self.field l.self.columns l.self.rows;
  same : SameSpan l.self.field l.self.columns l.initial.self.rows l.self.rows;
  room : length l.pivot.items ≡ l.self.columns;
  state : IsReducedTo l.order l.t l.at.items l.self.rows;
}
