use Rattle.lc_kernel.specs.Fronts.{AreFrontPlanes}
use Rattle.lc_kernel.proofs.fronts.refresh_planes.Given as goal

abbrev pub invariant-loop-i : goal.invariant-loop-i
invariant-loop-i l = AreFrontPlanes l.sets l.spot l.table.part l.table.grid.now.planes l.i l.fronts
