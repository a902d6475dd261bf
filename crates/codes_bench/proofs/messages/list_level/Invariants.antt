use Rattle.std.proofs.Common.{◌≡◌, length, Contains}
use Rattle.lc_enumeration.specs.Message.{messages}
use Rattle.lc_place.specs.Place.{spot_message}
use Rattle.codes_bench.proofs.messages.list_level.Given as goal

abbrev pub invariant-loop-steps : goal.invariant-loop-steps
invariant-loop-steps l = record {
  message : Contains (messages l.plan.k l.plan.q (length l.spot.support)) (spot_message l.spot);
  room : l.spot.room ≡ l.fn.spot.room;
}
