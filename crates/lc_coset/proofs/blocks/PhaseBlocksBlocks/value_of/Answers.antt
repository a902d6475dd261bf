use Rattle.std.proofs.Common.{◌+◌}
use Rattle.lc_coset.proofs.BlockLaws.{near_value_is}
use Rattle.lc_coset.proofs.blocks.PhaseBlocksBlocks.value_of.Goals as goal

pub returns-clause-is : goal.returns-clause-is
returns-clause-is c = near_value_is c.args.self.now.frame.now (c.args.self.now.phase.first + c.args.block) _ c.value_of_block.ensures.is
