use Rattle.std.proofs.Common.{◌≤◌, ◌<◌, ◌+◌, ◌-◌, length, get_or}
use Rattle.lc_place.proofs.phase.level_of.Given as goal

abbrev pub invariant-loop-level : goal.invariant-loop-level
invariant-loop-level l = (l.level + 1 < length l.starts) × (get_or l.starts l.level 0 ≤ l.block)

abbrev pub decreases-loop-level : goal.decreases-loop-level
decreases-loop-level l = length l.starts - l.level
