use Rattle.std.proofs.Common.{◌≡◌, ◌≤◌, ◌++◌, length, drop}
use Rattle.lc_alternant.specs.Chosen.{spread}
use Rattle.lc_alternant.proofs.errors.spread.Given as goal

abbrev pub invariant-loop-i : goal.invariant-loop-i
invariant-loop-i l = (l.next ≤ length l.entries) × (l.word.items ++ spread (drop l.i l.values) (drop l.next l.entries) ≡ spread l.values l.entries)
