use Rattle.lc_trace.proofs.TraceLaws.{trace_once, trace_exists, trace_reached, trace_added, trace_scaled, trace_told}
use Rattle.lc_trace.proofs.laws.traces_are_linear_and_onto.Goals as goal

pub returns : goal.returns
returns c = record {
  exists = trace_exists;
  once = trace_once;
  onto = trace_reached;
  sums = trace_added;
  multiples = trace_scaled;
  form = trace_told;
}
