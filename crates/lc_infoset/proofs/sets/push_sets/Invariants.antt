use Rattle.std.proofs.Common.{◌≡◌, ◌++◌, ◌-◌}
use Rattle.lc_infoset.specs.Kept.{states_after}
use Rattle.lc_infoset.proofs.sets.push_sets.Given as goal

abbrev pub invariant-loop-i : goal.invariant-loop-i
invariant-loop-i l =
    l.initial.sets.items ++ states_after l.code l.initial.used.items l.code.columns ≡ l.sets.items ++ states_after l.code l.used.items (l.code.columns - l._i)
