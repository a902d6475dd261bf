use Rattle.std.proofs.Common.{refl, arith}
use Rattle.lc_algebra.proofs.RemainderLaws.{index-zeros}
use Rattle.lc_planes.proofs.ApartLaws.{block_planes}
use Rattle.lc_distances.proofs.planes.gather.Goals as goal

pub loop-t-init : goal.loop-t-init
loop-t-init c = record { long = refl; done = λ i l. absurd (omega (arith, l)); rest = λ i l. index-zeros 64 i }

pub returns : goal.returns
returns c = record { planes = block_planes c.args.columns.now c.args.word.now c.loop-t.block c.requires.few c.loop-t.invariant.long (λ t l. c.loop-t.invariant.done t (omega (arith, l, c.loop-t-test.false, c.loop-t.auto.t-end))) (λ t l. c.loop-t.invariant.rest t (omega (arith, l, c.loop-t.auto.t-end))) }
