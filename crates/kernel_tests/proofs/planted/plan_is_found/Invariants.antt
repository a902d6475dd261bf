use Rattle.std.proofs.Common.{◌≡◌}
use Rattle.kernel_tests.proofs.planted.plan_is_found.Given as goal

abbrev pub invariant-loop-block : goal.invariant-loop-block
invariant-loop-block l = l.spot.room ≡ l.fn.spot.room
