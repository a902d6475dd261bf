use Rattle.lc_kernel.specs.Fronts.{AreRowPlanes}
use Rattle.lc_kernel.proofs.fronts.row_planes.Given as goal

abbrev pub invariant-loop-index : goal.invariant-loop-index
invariant-loop-index l = AreRowPlanes l.rows.sets.now l.rows.set l.columns l.planes l.index l.all.items
