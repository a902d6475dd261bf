use Rattle.lc_weights.specs.Counts.{IsTallied}
use Rattle.lc_weights.proofs.walk.tally.Given as goal

abbrev pub invariant-loop-i : goal.invariant-loop-i
invariant-loop-i g l = IsTallied g.row.P g.row.N l.head l.tails l.i l.initial.counts l.counts
