use Rattle.std.proofs.Common.{◌-◌}
use Rattle.lc_join.proofs.WalkLaws.{Walked, parts_of}
use Rattle.lc_join.proofs.walk.walk.Given as goal

abbrev pub invariant-loop-before : goal.invariant-loop-before
invariant-loop-before l = Walked l.initial.joined l.joined (parts_of l.lines)

abbrev pub decreases-loop-before : goal.decreases-loop-before
decreases-loop-before l = l.joined.budget - l.joined.progress.blocks
