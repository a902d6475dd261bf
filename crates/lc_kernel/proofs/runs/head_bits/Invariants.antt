use Rattle.std.proofs.Common.{◌≡◌}
use Rattle.lc_kernel.specs.Packed.{others, bits_at}
use Rattle.lc_planes.specs.Planes.{part_at}
use Rattle.lc_kernel.specs.Sums.{front_word}
use Rattle.lc_kernel.proofs.runs.head_bits.Given as goal

abbrev pub invariant-loop-i : goal.invariant-loop-i
invariant-loop-i l = l.bits ≡ bits_at (part_at (others l.sets l.spot.set) l.part) (front_word l.sets l.spot l.i)
