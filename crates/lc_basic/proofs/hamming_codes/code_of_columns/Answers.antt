use Rattle.std.proofs.Common.{arith}
use Rattle.lc_code.proofs.CoordinateSteps.{small_size}
use Rattle.lc_basic.proofs.HammingLaws.{points_fit}
use Rattle.lc_basic.proofs.hamming_codes.code_of_columns.Goals as goal

pub check_rows-requires-clause-most : goal.check_rows-requires-clause-most
check_rows-requires-clause-most c = omega (arith, small_size c.args.field.now c.requires.symbol, c.size-q.ensures.is)

pub check_rows-requires-clause-points : goal.check_rows-requires-clause-points
check_rows-requires-clause-points c = points_fit c.args.field.now c.args.r c.size-q.result c.size-q.ensures.is c.requires.most
