use Rattle.std.proofs.Common.{◌≡◌, ◌*◌, ◌≤◌}
use Rattle.lc_parts.specs.Levels.{level_in}
use Rattle.lc_parts.proofs.BoundLaws.{summed}
use Rattle.lc_parts.proofs.phase.sum_of.Given as goal

abbrev pub invariant-loop-j : goal.invariant-loop-j
invariant-loop-j l = (l.sum ≡ summed l.fn.facts.k l.fn.facts.ranks.items (level_in l.fn.level l.fn.set) l.j) × (l.sum ≤ l.j * 256)
