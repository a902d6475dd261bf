use Rattle.lc_algebra.specs.Field.{add}
use Rattle.lc_field.proofs.PairLaws.{PairsBelow}
use Rattle.lc_field.proofs.pairs.sums_of.Given as goal

abbrev pub invariant-loop-pair : goal.invariant-loop-pair
invariant-loop-pair l = PairsBelow (add l.row.name) l.elements l.sums.items l.pair
