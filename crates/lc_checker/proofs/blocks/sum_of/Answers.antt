use Rattle.std.proofs.Common.{arith}
use Rattle.lc_checker.proofs.BlockLaws.{sum_blocks}
use Rattle.lc_checker.proofs.blocks.sum_of.Goals as goal

pub returns : goal.returns
returns g c = record { are = sum_blocks g.row.N c.args.sum c.args.row.now c.loop-i.next c.loop-i.invariant.many (λ i l. c.loop-i.invariant.done i (omega (arith, l, c.loop-i-test.false))) }
