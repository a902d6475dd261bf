use Rattle.std.proofs.Common.{◌≡◌, take}
use Rattle.lc_checker.proofs.sets.columns_of.Given as goal

abbrev pub invariant-loop-c : goal.invariant-loop-c
invariant-loop-c l = l.columns.items ≡ take l.c-index l.basis
