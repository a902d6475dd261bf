use Rattle.lc_code.proofs.expansion.+element.Given as goal

abbrev pub decreases-element : goal.decreases-element
decreases-element a = a.degree
