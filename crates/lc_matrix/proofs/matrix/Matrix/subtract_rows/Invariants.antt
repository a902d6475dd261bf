use Rattle.lc_matrix.specs.Elimination.{IsRest}
use Rattle.lc_matrix.proofs.matrix.Matrix.subtract_rows.Given as goal

abbrev pub invariant-loop-i : goal.invariant-loop-i
invariant-loop-i l = IsRest l.self.field l.self.columns l.places l.self.rows l.initial.rest l.i l.rest
