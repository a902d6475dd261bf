use Rattle.lc_kernel.specs.Sums.{AreFronts, IsRoom}
use Rattle.lc_kernel.proofs.sums.refresh.Given as goal

abbrev pub invariant-loop-i : goal.invariant-loop-i
invariant-loop-i l = record {
  room : IsRoom l.sets l.spot l.words;
  fronts : AreFronts l.sets l.spot l.i l.words;
}
