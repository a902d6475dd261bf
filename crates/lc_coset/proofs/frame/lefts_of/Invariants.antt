use Rattle.lc_coset.proofs.FrameLaws.{LeftsTo}
use Rattle.lc_coset.proofs.frame.lefts_of.Given as goal

abbrev pub invariant-loop-j : goal.invariant-loop-j
invariant-loop-j l = LeftsTo l.sets l.word l.j l.lefts.items
