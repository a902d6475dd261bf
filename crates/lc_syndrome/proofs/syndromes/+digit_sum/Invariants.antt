use Rattle.lc_syndrome.proofs.syndromes.+digit_sum.Given as goal

abbrev pub decreases-digit_sum : goal.decreases-digit_sum
decreases-digit_sum l = l.m
