use Rattle.lc_matrix.specs.Solve.{IsSolutionTo}
use Rattle.lc_matrix.proofs.matrix.Matrix.solution.Given as goal

abbrev pub invariant-loop-i : goal.invariant-loop-i
invariant-loop-i l = IsSolutionTo l.self.field l.n l.places l.self.rows l.i l.word.items
