use Rattle.lc_kernel.specs.Grid.{ArePlanesOf}
use Rattle.lc_kernel.proofs.grid.planes_of.Given as goal

abbrev pub invariant-loop-plane : goal.invariant-loop-plane
invariant-loop-plane l = ArePlanesOf l.columns l.plane l.words l.bits.items
