use Rattle.std.proofs.Common.{refl, ap, ◌∙◌}
use Rattle.lc_code.specs.Coordinates.{relative_degree}
use Rattle.lc_trace.proofs.SpanLaws.{traced_shape, trace_code}
use Rattle.lc_trace.proofs.RowLaws.{table_over}
use Rattle.lc_trace.proofs.trace.traced.Goals as goal

pub from_rows-requires-clause-rows : goal.from_rows-requires-clause-rows
from_rows-requires-clause-rows c =
    let C = c.args.code.now in
    traced_shape C c.args.field.now c.args.field.now c.length.result c.degree_over-degree.result c.deref.result.now c.deref-2.result.now c.matrix-matrix.ensures.rows
    (table_over c.args.field.now c.field.result.now C.field c.in_ok-traces.traces.items c.deref.result.now c.field.ensures.is c.deref.ensures.value c.in_ok-traces.ensures.are)
    refl c.length.ensures.is (c.deref-2.ensures.value ∙ c.in_ok-rows.ensures.are)

pub returns : goal.returns
returns c =
    let C = c.args.code.now in
    record {
      code = trace_code C c.in_ok-from_rows.field-0 c.args.field.now c.args.field.now c.length.result c.degree_over-degree.result c.deref.result.now c.deref-2.result.now c.requires.symbol c.field.ensures.symbol c.requires.subfield c.matrix-matrix.ensures.rows
          (table_over c.args.field.now c.field.result.now C.field c.in_ok-traces.traces.items c.deref.result.now c.field.ensures.is c.deref.ensures.value c.in_ok-traces.ensures.are)
          refl c.length.ensures.is (c.degree_over-degree.ensures.is ∙ ap (relative_degree c.args.field.now) c.field-2.ensures.is) (c.deref-2.ensures.value ∙ c.in_ok-rows.ensures.are) c.in_ok-from_rows.ensures.code;
    }
