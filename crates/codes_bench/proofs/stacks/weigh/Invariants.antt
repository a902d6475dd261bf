use Rattle.lc_kernel.specs.Kernel.{IsStackAt}
use Rattle.codes_bench.proofs.stacks.weigh.Given as goal

abbrev pub invariant-loop : goal.invariant-loop
invariant-loop l = IsStackAt l.sets l.plan.m l.stack
