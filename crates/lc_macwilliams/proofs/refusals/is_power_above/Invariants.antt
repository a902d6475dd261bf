use Rattle.std.proofs.Common.{◌≡◌, ◌^◌}
use Rattle.lc_macwilliams.proofs.refusals.is_power_above.Given as goal

abbrev pub invariant-loop-counter : goal.invariant-loop-counter
invariant-loop-counter l = l.product ≡ l.fn.q ^ l._counter
