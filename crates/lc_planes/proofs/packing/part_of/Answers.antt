use Rattle.std.proofs.Common.{refl, arith}
use Rattle.lc_algebra.proofs.RemainderLaws.{index-zeros}
use Rattle.lc_planes.proofs.PackingLaws.{part_planes}
use Rattle.lc_planes.proofs.packing.part_of.Goals as goal

pub loop-t-init : goal.loop-t-init
loop-t-init c = record { long = refl; done = λ i l. absurd (omega (arith, l)); rest = λ i l. index-zeros 64 i }

pub returns : goal.returns
returns c = record { planes = part_planes c.args.word.now c.loop-t.block c.args.i c.min-start.result c.min-many.result c.min-start.ensures c.min-many.ensures c.loop-t.invariant.long (λ t l. c.loop-t.invariant.done t (omega (arith, l, c.loop-t-test.false, c.loop-t.auto.t-end))) (λ t l. c.loop-t.invariant.rest t (omega (arith, l, c.loop-t.auto.t-end))) }
