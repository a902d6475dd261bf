use Rattle.std.proofs.Common.{◌≡◌, ◌*◌, take}
use Rattle.lc_algebra.specs.Word.{weight}
use Rattle.lc_planes.specs.Planes.{symbols_of}
use Rattle.lc_planes.proofs.block.ones_in.Given as goal

abbrev pub invariant-loop-b : goal.invariant-loop-b
invariant-loop-b l = l.ones ≡ weight (take (64 * l.b) (symbols_of l.len l.blocks))
