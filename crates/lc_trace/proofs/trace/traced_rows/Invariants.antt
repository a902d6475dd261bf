use Rattle.std.proofs.Common.{◌≡◌, take}
use Rattle.lc_trace.specs.Traces.{traced_rows}
use Rattle.lc_trace.proofs.trace.traced_rows.Given as goal

abbrev pub invariant-loop-i : goal.invariant-loop-i
invariant-loop-i l = l.rows.items ≡ traced_rows l.code.field l.degree l.traces (take l.i l.code.rows)
