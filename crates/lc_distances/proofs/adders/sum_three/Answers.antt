use Rattle.std.proofs.Common.{refl}
use Rattle.lc_distances.proofs.FormulaLaws.{value, three_sum}
use Rattle.lc_distances.proofs.adders.sum_three.Goals as goal

pub returns : goal.returns
unfolding value
returns c = record { is = λ f e. three_sum f c.args.u.now c.args.v.now _ e (rw (c.trits-low.ensures.is, c.trits-high.ensures.is) refl) }
