use Rattle.lc_code.proofs.expansion.+coordinate.Given as goal

abbrev pub decreases-coordinate : goal.decreases-coordinate
decreases-coordinate a = a.degree
