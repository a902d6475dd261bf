use Rattle.std.proofs.Common.{◌≡◌, ◌<◌}
use Rattle.lc_enumeration.specs.Plan.{total}
use Rattle.codes_bench.proofs.kernel.look.Given as goal

abbrev pub invariant-loop : goal.invariant-loop
invariant-loop l = record {
  scratch : l.scratch ≡ l.sets;
  inside : l.block < total l.plan.k l.plan.q l.plan.m;
}
