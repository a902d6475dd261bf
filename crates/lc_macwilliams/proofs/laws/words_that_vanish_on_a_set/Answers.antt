use Rattle.lc_algebra.proofs.DimensionLaws.{distinct_from_pairs}
use Rattle.lc_macwilliams.proofs.OneSetLaws.{one_set}
use Rattle.lc_macwilliams.proofs.laws.words_that_vanish_on_a_set.Goals as goal

pub returns : goal.returns
returns c = record { law = λ n rows checks set r d a b. one_set c.args.field n rows checks set r d (distinct_from_pairs set a) b }
