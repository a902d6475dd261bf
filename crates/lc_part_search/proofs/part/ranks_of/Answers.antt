use Rattle.std.proofs.Common.{arith}
use Rattle.lc_part_search.proofs.PartLaws.{ranks_whole}
use Rattle.lc_part_search.proofs.part.ranks_of.Goals as goal

pub returns : goal.returns
returns c = record { is = ranks_whole c.args.sets.now c.loop-j.j c.loop-j.ranks.items (omega (arith, c.loop-j-test.false, c.count-count.ensures.is)) c.loop-j.invariant }
