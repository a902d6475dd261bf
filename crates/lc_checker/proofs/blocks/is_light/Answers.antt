use Rattle.std.proofs.Common.{arith}
use Rattle.lc_checker.proofs.BlockLaws.{ones_more, light_then, light_else}
use Rattle.lc_checker.proofs.blocks.is_light.Goals as goal

pub loop-i-preserved : goal.loop-i-preserved
loop-i-preserved g c = record {
  few = omega (arith, c.loop-i.invariant.few, c.ones_of-w.ensures.few);
  is = λ w h a. ones_more g.row.N c.loop-i.i c.loop-i.w c.ones_of-w.result c.args.bits.now w h c.loop-i-test.true a (c.loop-i.invariant.is w h a) c.ones_of-w.ensures.is;
}

pub returns-then-w-gt0 : goal.returns-then-w-gt0
returns-then-w-gt0 g c = record { is = λ w h l a. light_then g.row.N c.loop-i.i c.loop-i.w c.args.distance w (omega (arith, c.loop-i-test.false)) c.if-w-gt0.true l (c.loop-i.invariant.is w h a) }

pub returns-else-w-gt0 : goal.returns-else-w-gt0
returns-else-w-gt0 g c = record { is = λ w h l a. light_else g.row.N c.loop-i.i c.loop-i.w c.args.distance w (omega (arith, c.loop-i-test.false)) (omega (arith, c.if-w-gt0.false)) l (c.loop-i.invariant.is w h a) }
