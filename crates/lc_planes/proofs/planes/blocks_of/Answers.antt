use Rattle.std.proofs.Common.{◌+◌, ◌-◌, ◌*◌, refl, arith}
use Rattle.lc_planes.proofs.BlockLaws.{block_pushed}
use Rattle.lc_planes.proofs.planes.blocks_of.Goals as goal

pub loop-b-preserved : goal.loop-b-preserved
loop-b-preserved c = record {
  many = omega (arith, c.in_ok-push.ensures.len, c.loop-b.invariant.many);
  are = rw c.in_ok-push.ensures.items (block_pushed c.args.symbols.now c.loop-b.b (64 * c.loop-b.b) (64 * c.loop-b.b + c.min.result - 64 * c.loop-b.b) c.loop-b.blocks.items c.block_of.result _ c.loop-b.invariant.many refl (omega (arith, c.min.ensures)) refl c.block_of.ensures.are c.loop-b.invariant.are);
}
