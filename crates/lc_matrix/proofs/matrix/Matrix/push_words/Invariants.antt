use Rattle.std.proofs.Common.{◌≡◌}
use Rattle.lc_matrix.specs.Kernel.{AreKernelWords}
use Rattle.lc_matrix.proofs.matrix.Matrix.push_words.Given as goal

abbrev pub invariant-loop-i : goal.invariant-loop-i
invariant-loop-i l = record {
  same_field : l.kernel.field ≡ l.self.field;
  same_columns : l.kernel.columns ≡ l.self.columns;
  words : AreKernelWords l.self.field l.self.columns l.places l.self.rows l.free l.i l.kernel.rows;
}
