use Rattle.lc_matrix.specs.Kernel.{IsKernelWord}
use Rattle.lc_matrix.proofs.matrix.Matrix.kernel_word.Given as goal

abbrev pub invariant-loop-i : goal.invariant-loop-i
invariant-loop-i l = IsKernelWord l.self.field l.self.columns l.places l.self.rows l.j l.i l.word.items
