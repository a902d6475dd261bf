use Rattle.std.proofs.Common.{◌≡◌}
use Rattle.kernel_tests.proofs.blocks.all_agree.Given as goal

abbrev pub invariant-loop-block : goal.invariant-loop-block
invariant-loop-block l = record {
  scratch : l.scratch ≡ l.sets;
  room : l.spot.room ≡ l.fn.spot.room;
}
