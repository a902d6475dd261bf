use Rattle.std.proofs.Common.{sym, ◌∙◌}
use Rattle.lc_matrix.proofs.KernelLaws.{back_made}
use Rattle.lc_matrix.proofs.matrix.Matrix.reduce_back.Goals as goal

pub returns-clause-reduced : goal.returns-clause-reduced
returns-clause-reduced c =
    let e = c.cols-n.ensures.is ∙ sym c.reduce.ensures.columns in
    back_made c.cols-n.result c.reduce.new.self.columns c.in_ok-order.order.items c.deref.result.now c.in_ok-at.at.items c.deref-2.result.now c.in_ok-places.places.items c.reduce.new.self.rows e c.in_ok-order.ensures.are c.deref.ensures.value c.in_ok-at.ensures.reduced c.deref-2.ensures.value c.in_ok-places.ensures.count c.in_ok-places.ensures.are
