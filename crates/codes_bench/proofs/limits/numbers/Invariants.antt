use Rattle.std.proofs.Common.{◌≡◌, length}
use Rattle.codes_bench.proofs.limits.numbers.Given as goal

abbrev pub invariant-loop : goal.invariant-loop
invariant-loop l = length l.numbers.items ≡ l.counter
