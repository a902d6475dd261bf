use Rattle.std.proofs.Common.{refl}
use Rattle.lc_distances.proofs.FormulaLaws.{value, nine_sum}
use Rattle.lc_distances.proofs.adders.sum_nine.Goals as goal

pub returns : goal.returns
unfolding value
returns c = record { is = λ f e. nine_sum f c.args.u.now c.args.v.now _ e (rw (c.trits-one.ensures.is, c.trits-two.ensures.is, c.trits-three.ensures.is, c.trits-six.ensures.is, c.digits-x.ensures.is, c.digits-y.ensures.is) refl) }
