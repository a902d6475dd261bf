use Rattle.std.proofs.Common.{◌≡◌, length, map, take}
use Rattle.lc_algebra.specs.Span.{below}
use Rattle.lc_enumeration.specs.Search.{set_count, level_below}
use Rattle.lc_search.proofs.level.put_levels.Given as goal

abbrev pub invariant-loop-j : goal.invariant-loop-j
invariant-loop-j l = (length l.levels ≡ set_count l.fn.sets) × (take l.j l.levels ≡ map (level_below l.fn.sets l.fn.blocks) (below l.j))
