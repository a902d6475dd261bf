use Rattle.std.proofs.Common.{sym, arith}
use Rattle.lc_search.proofs.EndLaws.{ends_zero, exact_past, exact_inside}
use Rattle.lc_search.proofs.level.may_be_exact.Goals as goal

pub returns-then-blocks-eq0 : goal.returns-then-blocks-eq0
returns-then-blocks-eq0 c = record { is = sym (ends_zero c.args.sets.now c.args.blocks (omega arith)) }

pub returns-then-blocks-total : goal.returns-then-blocks-total
returns-then-blocks-total c = record {
  is = exact_past c.args.sets.now c.args.plan.now c.args.blocks c.total-then-blocks-total.result c.requires.plan
      (let k = c.dimension-some.ensures in omega (arith, k.is, k.least)) (let m = c.count-least.ensures in omega (arith, m.is, m.least))
      c.total-then-blocks-total.ensures.exact (omega (arith, c.total.ensures.exact, c.total-then-blocks-total.ensures.exact, c.if-blocks-total.true));
}

pub returns : goal.returns
returns c = record { is = exact_inside c.args.sets.now c.args.plan.now c.args.blocks c.phase_of.result c.requires.plan (omega arith) c.phase_of.ensures.found }
