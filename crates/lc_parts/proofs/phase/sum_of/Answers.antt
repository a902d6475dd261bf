use Rattle.std.proofs.Common.{arith}
use Rattle.lc_parts.specs.Levels.{level_in}
use Rattle.lc_parts.proofs.BoundLaws.{sum_none}
use Rattle.lc_parts.proofs.phase.sum_of.Goals as goal

pub loop-j-init : goal.loop-j-init
loop-j-init c = (sum_none c.args.facts.now.k c.args.facts.now.ranks.items (level_in c.args.level c.args.set), omega arith)
