use Rattle.std.proofs.Common.{◌≡◌, ◌+◌, take}
use Rattle.lc_matrix.specs.Solve.{augmented}
use Rattle.lc_matrix.proofs.matrix.Matrix.augment.Given as goal

abbrev pub invariant-loop-i : goal.invariant-loop-i
invariant-loop-i l = record {
  same_field : l.matrix.field ≡ l.self.field;
  wider : l.matrix.columns ≡ l.self.columns + 1;
  so_far : l.matrix.rows ≡ take l.i (augmented l.self.rows l.right);
}
