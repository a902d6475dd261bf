use Rattle.lc_poly.proofs.MinimalLaws.{IsUpper}
use Rattle.lc_poly.proofs.minimal_polynomial.write_minimal.Given as goal

abbrev pub invariant-loop-place : goal.invariant-loop-place
invariant-loop-place l = IsUpper l.small l.large l.a l.degree l.place l.value l.list

abbrev pub decreases-loop-place : goal.decreases-loop-place
decreases-loop-place l = l.place
