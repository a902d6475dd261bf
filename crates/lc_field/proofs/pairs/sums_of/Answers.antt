use Rattle.std.proofs.Common.{arith}
use Rattle.lc_field.proofs.PairLaws.{pairs_whole}
use Rattle.lc_field.proofs.pairs.sums_of.Goals as goal

pub returns : goal.returns
returns c = pairs_whole _ _ _ _ _ c.requires.row.elements (omega arith) c.loop-pair.invariant
