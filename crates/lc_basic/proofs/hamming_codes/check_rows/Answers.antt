use Rattle.std.proofs.Common.{◌-◌, arith}
use Rattle.lc_basic.proofs.HammingLaws.{points_within}
use Rattle.lc_basic.proofs.hamming_codes.check_rows.Goals as goal

pub power-unit-requires-clause-points : goal.power-unit-requires-clause-points
power-unit-requires-clause-points c = points_within c.args.q (c.args.r - 1 - c.loop-i.i) c.args.r (omega arith) c.requires.points
