use Rattle.lc_trace.specs.Traces.{AreTracesBelow}
use Rattle.lc_trace.proofs.trace.traces.Given as goal

abbrev pub invariant-loop-a : goal.invariant-loop-a
invariant-loop-a l = AreTracesBelow l.small l.large l.a l.traces.items
