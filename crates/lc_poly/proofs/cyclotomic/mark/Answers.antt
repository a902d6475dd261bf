use Rattle.std.proofs.Common.{arith}
use Rattle.lc_poly.proofs.CyclotomicLaws.{marks_none, marks_step, marks_whole, missing_set}
use Rattle.lc_poly.proofs.cyclotomic.mark.Goals as goal

pub loop-seen-init : goal.loop-seen-init
loop-seen-init c = marks_none c.args.n c.args.q c.args.i c.args.seen.now c.requires.length c.requires.unmarked c.requires.inside

pub loop-seen-smaller : goal.loop-seen-smaller
loop-seen-smaller c = missing_set c.loop-seen.seen c.loop-seen.x (omega (arith, c.loop-seen.invariant.long, c.loop-seen.invariant.inside)) c.loop-seen-test.true

pub loop-seen-preserved : goal.loop-seen-preserved
loop-seen-preserved c = marks_step c.args.n c.args.q c.args.i c.loop-seen.seen c.loop-seen.x c.loop-seen.invariant

pub returns-clause-marks : goal.returns-clause-marks
returns-clause-marks c = marks_whole c.args.n c.args.q c.args.i c.loop-seen.seen c.loop-seen.x c.loop-seen.invariant c.requires.inside c.loop-seen-test.false
