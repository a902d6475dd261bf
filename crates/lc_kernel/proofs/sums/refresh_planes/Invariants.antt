use Rattle.lc_kernel.specs.Sums.{AreFronts, IsRoom}
use Rattle.lc_kernel.specs.PlaneSums.{symbols_in, AreOver}
use Rattle.lc_kernel.proofs.sums.refresh_planes.Given as goal

abbrev pub invariant-loop-i : goal.invariant-loop-i
invariant-loop-i l = record {
  over : AreOver l.sets l.words;
  room : IsRoom l.sets l.spot (symbols_in l.words);
  fronts : AreFronts l.sets l.spot l.i (symbols_in l.words);
}
