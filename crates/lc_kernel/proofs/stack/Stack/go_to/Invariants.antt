use Rattle.lc_kernel.specs.Values.{IsAtOffset}
use Rattle.lc_kernel.proofs.stack.Stack.go_to.Given as goal

abbrev pub invariant-loop-done : goal.invariant-loop-done
invariant-loop-done l = IsAtOffset l.sets l.plan.m l.block l.done l.self
