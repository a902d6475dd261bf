use Rattle.std.proofs.Common.{◌≡◌, ◌++◌, drop}
use Rattle.lc_alternant.specs.Chosen.{chosen}
use Rattle.lc_alternant.proofs.errors.chosen.Given as goal

abbrev pub invariant-loop-i : goal.invariant-loop-i
invariant-loop-i l = l.chosen.items ++ chosen (drop l.i l.values) (drop l.i l.entries) ≡ chosen l.values l.entries
