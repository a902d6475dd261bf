use Rattle.std.proofs.Common.{◌-◌}
use Rattle.lc_enumeration.specs.Plan.{total}
use Rattle.lc_coset.proofs.LedStarts.{StartsTo}
use Rattle.lc_coset.proofs.led.starts_of.Given as goal

abbrev pub invariant-loop-block : goal.invariant-loop-block
invariant-loop-block l = StartsTo l.plan l.block l.starts.items

abbrev pub decreases-loop-block : goal.decreases-loop-block
decreases-loop-block l = total l.plan.k l.plan.q l.plan.m - l.block
