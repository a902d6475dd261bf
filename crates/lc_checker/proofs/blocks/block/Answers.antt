use Rattle.lc_checker.proofs.BlockLaws.{block_cut}
use Rattle.lc_checker.proofs.blocks.block.Goals as goal

pub returns : goal.returns
returns c = record { is = block_cut c.args.word.now c.args.i c.min.result c.min-2.result c.min.ensures c.min-2.ensures }
