use Rattle.std.proofs.Common.{arith}
use Rattle.lc_macwilliams.proofs.SolveLaws.{solved_first, solved_next, solved_end}
use Rattle.lc_macwilliams.proofs.solve.from_dual.Goals as goal

pub loop-t-init : goal.loop-t-init
loop-t-init c = solved_first c.args.code.now c.in_ok-found.found.items c.in_ok-found.ensures.items

pub loop-t-preserved : goal.loop-t-preserved
loop-t-preserved c = solved_next c.args.code.now c.loop-t.t c.solve-number.result c.loop-t.found.items c.push.new.self.items c.loop-t.invariant c.solve-number.ensures.is c.in_ok-push.ensures.items

pub returns : goal.returns
returns c = record { is = solved_end c.args.code.now c.loop-t.t c.length-n.result c.loop-t.found.items c.length-n.ensures.is (omega (arith, c.loop-t.auto.t-end, c.loop-t-test.false)) c.loop-t.invariant }
