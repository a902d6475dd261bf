use Rattle.lc_kernel.specs.Kernel.{IsStackAt}
use Rattle.kernel_tests.proofs.stack.makes.Given as goal

abbrev pub invariant-loop-many : goal.invariant-loop-many
invariant-loop-many l = IsStackAt l.sets l.plan.m l.stack
