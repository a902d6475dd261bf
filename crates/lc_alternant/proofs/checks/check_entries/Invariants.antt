use Rattle.std.proofs.Common.{◌≡◌, take}
use Rattle.lc_constructions.specs.Alternant.{check_row}
use Rattle.lc_alternant.proofs.checks.check_entries.Given as goal

abbrev pub invariant-loop-k : goal.invariant-loop-k
invariant-loop-k l = l.entries.items ≡ check_row l.locator (take l.k l.points) (take l.k l.multipliers) l.j
