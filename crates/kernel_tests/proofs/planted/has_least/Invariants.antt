use Rattle.std.proofs.Common.{◌≡◌}
use Rattle.kernel_tests.proofs.planted.has_least.Given as goal

abbrev pub invariant-loop-block : goal.invariant-loop-block
invariant-loop-block l = l.scratch ≡ l.sets
