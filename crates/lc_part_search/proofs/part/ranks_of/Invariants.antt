use Rattle.std.proofs.Common.{◌≡◌, take}
use Rattle.lc_enumeration.specs.Search.{ranks_of}
use Rattle.lc_part_search.proofs.part.ranks_of.Given as goal

abbrev pub invariant-loop-j : goal.invariant-loop-j
invariant-loop-j l = l.ranks.items ≡ take l.j (ranks_of l.sets)
