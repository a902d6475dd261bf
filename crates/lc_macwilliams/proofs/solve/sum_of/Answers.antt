use Rattle.std.proofs.Common.{sym, arith}
use Rattle.lc_macwilliams.proofs.SolveLaws.{terms_first, sum_next, sum_fits}
use Rattle.lc_macwilliams.proofs.solve.sum_of.Goals as goal

pub loop-j-init : goal.loop-j-init
loop-j-init c = sym (terms_first c.args.counts.now c.args.n c.args.v)

pub overflow_add-sum : goal.overflow_add-sum
overflow_add-sum c =
    let s = sum_fits c.args.table.now c.args.counts.now c.args.n c.args.v c.args.m c.loop-j.j c.loop-j.sum c.from.result c.from-in-loop-j.result c.requires.table c.requires.short c.requires.inside c.requires.all c.requires.small c.loop-j-test.true c.loop-j.invariant c.from.ensures c.from-in-loop-j.ensures in
    omega (arith, s)

pub loop-j-preserved : goal.loop-j-preserved
loop-j-preserved c = sum_next c.args.table.now c.args.counts.now c.args.n c.args.v c.args.m c.loop-j.j c.loop-j.sum c.from.result c.from-in-loop-j.result c.requires.table c.requires.short c.requires.inside c.requires.all c.loop-j-test.true c.loop-j.invariant c.from.ensures c.from-in-loop-j.ensures
