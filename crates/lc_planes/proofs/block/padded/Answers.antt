use Rattle.std.proofs.Common.{refl, arith}
use Rattle.lc_algebra.proofs.RemainderLaws.{index-zeros}
use Rattle.lc_planes.proofs.PlaneLaws.{plane_padded}
use Rattle.lc_planes.proofs.block.padded.Goals as goal

pub loop-e-init : goal.loop-e-init
loop-e-init c = record { long = refl; done = λ i l. absurd (omega (arith, l)); rest = λ i l. index-zeros 64 i }

pub returns : goal.returns
returns c = record { planes = λ t. plane_padded t c.args.symbols.now c.loop-e.all (omega (arith, c.requires.few, c.loop-e.invariant.long)) (λ i l. c.loop-e.invariant.done i (omega (arith, l, c.loop-e-test.false, c.loop-e.auto.e-end))) (λ i l. c.loop-e.invariant.rest i (omega (arith, l, c.loop-e.auto.e-end))) }
