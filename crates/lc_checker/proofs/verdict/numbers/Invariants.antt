use Rattle.std.proofs.Common.{◌≡◌, take}
use Rattle.lc_checker.proofs.verdict.numbers.Given as goal

abbrev pub invariant-loop-a : goal.invariant-loop-a
invariant-loop-a l = l.values.items ≡ take l.a-index l.symbols
