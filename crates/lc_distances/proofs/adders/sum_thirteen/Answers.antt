use Rattle.std.proofs.Common.{refl}
use Rattle.lc_distances.proofs.FormulaLaws.{value, thirteen_sum}
use Rattle.lc_distances.proofs.adders.sum_thirteen.Goals as goal

pub returns : goal.returns
unfolding value
returns c = record { is = λ f e. thirteen_sum f c.args.u.now c.args.v.now _ e (rw (c.sum_bits-eight.ensures.low, c.sum_bits-eight.ensures.carried, c.sum_low-one.ensures.one, c.sum_low-one.ensures.two, c.sum_low-one.ensures.four, c.sum_low-one.ensures.carried) refl) }
