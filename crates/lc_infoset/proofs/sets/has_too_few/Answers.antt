use Rattle.std.proofs.Common.{arith}
use Rattle.lc_infoset.proofs.BuildLaws.{told_few}
use Rattle.lc_infoset.proofs.sets.has_too_few.Goals as goal

pub returns : goal.returns
returns c = record { few = told_few c.args.code.now c.args.used.now c.in_ok-unused.unused.items c.cols-n.result c.rows.result c.len.result c.in_ok-unused.ensures.are c.cols-n.ensures.is c.rows.ensures.is (omega (arith, c.len.ensures, c.in_ok-unused.unused.ok)) }
