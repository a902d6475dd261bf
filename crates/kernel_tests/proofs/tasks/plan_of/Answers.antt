use Rattle.std.proofs.Common.{ap, arith}
use Rattle.lc_algebra.specs.Field.{size}
use Rattle.lc_kernel.proofs.MultipleLaws.{symbol_size}
use Rattle.kernel_tests.proofs.tasks.plan_of.Goals as goal

pub build-requires-clause-field : goal.build-requires-clause-field
build-requires-clause-field c = (omega (arith, c.size.ensures.least), omega (arith, symbol_size c.args.sets.now c.field.ensures.symbol, c.size.ensures.is, ap size c.field.ensures.is))
