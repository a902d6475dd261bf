use Rattle.lc_algebra.specs.Field.{mul}
use Rattle.lc_field.proofs.PairLaws.{PairsBelow}
use Rattle.lc_field.proofs.pairs.products_of.Given as goal

abbrev pub invariant-loop-pair : goal.invariant-loop-pair
invariant-loop-pair l = PairsBelow (mul l.row.name) l.elements l.products.items l.pair
