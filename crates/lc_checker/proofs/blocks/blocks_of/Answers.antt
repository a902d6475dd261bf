use Rattle.std.proofs.Common.{◌*◌}
use Rattle.lc_checker.proofs.BlockLaws.{block_bits, block_short}
use Rattle.lc_checker.proofs.blocks.blocks_of.Goals as goal

pub bits_of-requires-clause-bits : goal.bits_of-requires-clause-bits
bits_of-requires-clause-bits g c = block_bits c.args.word.now _ (64 * c.loop-i.i) c.requires.bits c.block.ensures.is

pub bits_of-requires-clause-few : goal.bits_of-requires-clause-few
bits_of-requires-clause-few g c = block_short c.args.word.now _ (64 * c.loop-i.i) c.block.ensures.is
