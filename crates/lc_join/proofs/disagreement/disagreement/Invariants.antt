use Rattle.lc_join.proofs.DisagreeLaws.{Agreed}
use Rattle.lc_join.proofs.disagreement.disagreement.Given as goal

abbrev pub invariant-loop-i : goal.invariant-loop-i
invariant-loop-i l = Agreed l.joined l.lines l.i
