use Rattle.lc_combine.proofs.concatenation.+value.Given as goal

abbrev pub decreases-value : goal.decreases-value
decreases-value l = l.s
