use Rattle.std.proofs.Common.{◌≤◌}
use Rattle.codes_bench.proofs.messages.list_often.Given as goal

abbrev pub invariant-loop : goal.invariant-loop
invariant-loop l = l.plan.k ≤ l.spot.room
