use Rattle.lc_trace.proofs.SpanLaws.{subcode_told}
use Rattle.lc_trace.proofs.subfield.subcode.Goals as goal

pub returns : goal.returns
returns c = record {
  code = subcode_told c.args.code.now c.in_ok-dual.dual c.in_ok-traces.traces c.in_ok-dual-2.field-0 c.args.field.now c.field-field.ensures.symbol c.requires.subfield c.matrix-matrix.ensures.rows c.matrix-matrix.ensures.reduced c.in_ok-dual.ensures.code c.in_ok-traces.ensures.code c.in_ok-dual-2.ensures.code;
}
