use Rattle.std.proofs.Common.{◌≡◌, length, Contains}
use Rattle.lc_enumeration.specs.Message.{messages}
use Rattle.lc_place.specs.Place.{spot_message}
use Rattle.kernel_tests.proofs.planted.go_to.Given as goal

abbrev pub invariant-loop-step : goal.invariant-loop-step
invariant-loop-step l = record {
  message : Contains (messages l.plan.k l.plan.q (length l.spot.support)) (spot_message l.spot);
  room : l.spot.room ≡ l.fn.spot.room;
}
