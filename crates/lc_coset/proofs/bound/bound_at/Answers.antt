use Rattle.std.proofs.Common.{length, arith}
use Rattle.lc_enumeration.specs.Search.{set_count}
use Rattle.lc_coset.proofs.BoundLaws.{sum_none, sum_more, sum_all, few_phases}
use Rattle.lc_coset.proofs.bound.bound_at.Goals as goal

pub loop-j-init : goal.loop-j-init
loop-j-init c = (sum_none c.args.sets.now c.args.phase, omega arith)

pub bound_on-sum-requires-clause-few : goal.bound_on-sum-requires-clause-few
bound_on-sum-requires-clause-few c = few_phases (length c.args.sets.now.rows) (set_count c.args.sets.now) c.args.phase (omega (arith, c.dimension-many.ensures.is, c.dimension-many.ensures.most, c.length-long.ensures.is, c.length-long.ensures.most)) (omega (arith, c.count-j-end.ensures.is, c.count-j-end.ensures.most, c.length-long.ensures.is, c.length-long.ensures.most)) c.requires.inside

pub loop-j-preserved : goal.loop-j-preserved
loop-j-preserved c = (
  sum_more c.args.sets.now c.args.phase c.loop-j.j c.loop-j.sum c.bound_on-sum.result c.loop-j.invariant.0 c.bound_on-sum.ensures.is,
  omega (arith, c.loop-j.invariant.1, c.bound_on-sum.ensures.few),
)

pub returns : goal.returns
returns c = record { is = sum_all c.args.sets.now c.args.phase c.loop-j.j c.loop-j.sum c.requires.inside c.requires.uncut (omega (arith, c.loop-j.auto.j-end, c.loop-j-test.false, c.count-j-end.ensures.is)) c.loop-j.invariant.0 }
