use Rattle.std.proofs.Common.{◌≡◌, take}
use Rattle.lc_weights.specs.Counts.{words_counted}
use Rattle.lc_weights.proofs.counted.sum_of.Given as goal

abbrev pub invariant-loop-i : goal.invariant-loop-i
invariant-loop-i l = l.sum ≡ words_counted l.fn.j (take l.i l.fn.rooms)
