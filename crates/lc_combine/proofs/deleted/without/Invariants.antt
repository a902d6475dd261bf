use Rattle.std.proofs.Common.{◌≡◌, take}
use Rattle.lc_constructions.specs.Combined.{without}
use Rattle.lc_combine.proofs.deleted.without.Given as goal

abbrev pub invariant-loop-i : goal.invariant-loop-i
invariant-loop-i l = l.symbols.items ≡ without l.coordinates (take l.i l.word)
