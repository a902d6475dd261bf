use Rattle.std.proofs.Common.{arith}
use Rattle.lc_code.proofs.CoordinateSteps.{small_size}
use Rattle.lc_basic.proofs.hamming_codes.whole_length.Goals as goal

pub length_of-requires-clause-most : goal.length_of-requires-clause-most
length_of-requires-clause-most c = omega (arith, small_size c.args.field.now c.requires.symbol, c.size.ensures.is)
