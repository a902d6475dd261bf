use Rattle.std.proofs.Common.{ap, arith}
use Rattle.lc_algebra.specs.Field.{size}
use Rattle.lc_kernel.proofs.MultipleLaws.{symbol_size}
use Rattle.lc_kernel.proofs.multiples.nonzero.Goals as goal

pub returns-clause-most : goal.returns-clause-most
returns-clause-most c = omega (arith, symbol_size c.args.sets.now c.field.ensures.symbol, c.size.ensures.is, ap size c.field.ensures.is)
