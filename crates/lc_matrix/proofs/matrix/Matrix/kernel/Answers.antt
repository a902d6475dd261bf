use Rattle.lc_matrix.proofs.KernelLaws.{kernel_made}
use Rattle.lc_matrix.proofs.matrix.Matrix.kernel.Goals as goal

pub returns-clause-kernel : goal.returns-clause-kernel
returns-clause-kernel c =
    kernel_made c.args.self.now c.in_ok-matrix.matrix c.reduce_back.new.self c.in_ok-kernel.kernel c.in_ok-places.places.items c.deref.result.now c.rows-height.ensures.words c.in_ok-matrix.ensures.same c.reduce_back.ensures.field c.reduce_back.ensures.columns c.reduce_back.ensures.words c.reduce_back.ensures.same c.in_ok-places.ensures.reduced c.deref.ensures.value c.in_ok-kernel.ensures.kernel
