use Rattle.lc_field.proofs.digits.+combine.Given as goal

abbrev pub decreases-combine : goal.decreases-combine
decreases-combine l = l.s
