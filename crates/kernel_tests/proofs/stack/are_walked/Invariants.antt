use Rattle.std.proofs.Common.{◌≡◌}
use Rattle.kernel_tests.proofs.stack.are_walked.Given as goal

abbrev pub invariant-loop-block : goal.invariant-loop-block
invariant-loop-block l = record {
  stack : l.stack.code ≡ l.sets;
  room : l.spot.room ≡ l.fn.spot.room;
}
