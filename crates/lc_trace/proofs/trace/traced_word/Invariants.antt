use Rattle.std.proofs.Common.{◌≡◌, take}
use Rattle.lc_trace.specs.Traces.{traced}
use Rattle.lc_trace.proofs.trace.traced_word.Given as goal

abbrev pub invariant-loop-a : goal.invariant-loop-a
invariant-loop-a l = l.symbols.items ≡ traced l.traces (take l.a-index l.word)
