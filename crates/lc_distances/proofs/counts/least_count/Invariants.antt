use Rattle.std.proofs.Common.{slice_index}
use Rattle.lc_distances.specs.Least.{IsLeastOr}
use Rattle.lc_distances.proofs.counts.least_count.Given as goal

abbrev pub invariant-loop-i : goal.invariant-loop-i
invariant-loop-i l = IsLeastOr l.i (λ i. slice_index l.counts i) l.bound l.least
