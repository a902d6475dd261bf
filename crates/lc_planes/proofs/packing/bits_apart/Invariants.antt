use Rattle.std.proofs.Common.{◌≡◌}
use Rattle.lc_planes.specs.Packing.{planes_apart}
use Rattle.lc_planes.proofs.packing.bits_apart.Given as goal

abbrev pub invariant-loop-p : goal.invariant-loop-p
invariant-loop-p g l = l.bits ≡ planes_apart l.p l.head l.tail
