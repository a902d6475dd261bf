use Rattle.std.proofs.Common.{arith}
use Rattle.lc_macwilliams.proofs.SolveLaws.{solved_first, solved_next, solved_end}
use Rattle.lc_weights.proofs.counted.numbers.Goals as goal

pub loop-j-init : goal.loop-j-init
loop-j-init c = solved_first c.args.code.now c.in_ok-found.found.items c.in_ok-found.ensures.items

pub loop-j-preserved : goal.loop-j-preserved
loop-j-preserved c = solved_next c.args.code.now c.loop-j.j c.number_of-number.result c.loop-j.found.items c.push.new.self.items c.loop-j.invariant c.number_of-number.ensures.is c.in_ok-push.ensures.items

pub returns : goal.returns
returns c = record { is = solved_end c.args.code.now c.loop-j.j c.length-n.result c.loop-j.found.items c.length-n.ensures.is (omega (arith, c.loop-j.auto.j-end, c.loop-j-test.false)) c.loop-j.invariant }
