use Rattle.std.proofs.Common.{arith}
use Rattle.lc_goppa.proofs.PointLaws.{repeated_told}
use Rattle.lc_goppa.proofs.points.repeated_point.Goals as goal

pub returns-then-first-j-clause-is : goal.returns-then-first-j-clause-is
returns-then-first-j-clause-is c =
    repeated_told c.args.points.now c.loop-j.j c.first_index-first.result (omega arith) c.first_index-first.ensures.is (omega arith) c.loop-j.invariant.0
