use Rattle.std.proofs.Common.{arith}
use Rattle.lc_coset.proofs.LedStarts.{no_starts, starts_more}
use Rattle.lc_coset.proofs.led.starts_of.Goals as goal

pub loop-block-init : goal.loop-block-init
loop-block-init c = rw c.new-starts.ensures.items (no_starts c.args.plan.now)

pub loop-block-preserved : goal.loop-block-preserved
loop-block-preserved c = starts_more c.args._sets.now c.args.plan.now c.loop-block.block c.phase_end-block.result c.loop-block.starts.items c.push.new.self.items c.requires.plan c.loop-block.invariant (omega (arith, c.loop-block-test.true, c.total.ensures.exact)) c.phase_end-block.ensures.only c.in_ok-push.ensures.items
