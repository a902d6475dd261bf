use Rattle.lc_trace.proofs.SpanLaws.{delsarte}
use Rattle.lc_trace.proofs.laws.subfield_subcodes_are_dual_to_traces.Goals as goal

pub returns : goal.returns
returns c = record { dual = delsarte }
