use Rattle.lc_planes.specs.Planes.{symbols_of}
use Rattle.lc_planes.proofs.BlockLaws.{symbols_small}
use Rattle.lc_planes.proofs.planes.Planes.weight.Goals as goal

pub ones_in-requires-clause-small : goal.ones_in-requires-clause-small
ones_in-requires-clause-small c = rw c.deref.ensures.value (symbols_small c.self.inside.field (symbols_of c.self.inside.len c.self.inside.blocks.items) c.self.invariant.symbol c.self.invariant.fits)
