use Rattle.std.proofs.Common.{◌-◌, ◌<◌, length}
use Rattle.std.specs.Prelude.{All}
use Rattle.lc_crew.specs.Crew.{IsFresh}
use Rattle.lc_crew.proofs.round.provide.Given as goal

abbrev pub invariant-loop-alloc : goal.invariant-loop-alloc
invariant-loop-alloc g l = (0 < length l.spare.items) × All (IsFresh (g.B.Blocks.fits l.blocks) (g.B.Blocks.tally l.blocks)) l.spare.items

abbrev pub decreases-loop-alloc : goal.decreases-loop-alloc
decreases-loop-alloc g l = l.wanted - length l.spare.items
