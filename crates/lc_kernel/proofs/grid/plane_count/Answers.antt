use Rattle.lc_kernel.proofs.MultipleLaws.{symbol_size}
use Rattle.lc_kernel.proofs.grid.plane_count.Goals as goal

pub returns-clause-all : goal.returns-clause-all
returns-clause-all c = symbol_size c.args.sets.now c.field.ensures.symbol
