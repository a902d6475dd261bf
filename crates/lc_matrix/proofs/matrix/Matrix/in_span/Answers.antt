use Rattle.std.proofs.Common.{◌∙◌}
use Rattle.lc_matrix.proofs.FormLaws.{in_span_made}
use Rattle.lc_matrix.proofs.matrix.Matrix.in_span.Goals as goal

pub returns : goal.returns
returns c =
    record { is = in_span_made c.args.self.now c.in_ok-matrix.matrix c.args.word.now c.deref_mut.result.now c.has.result c.in_ok-matrix.ensures.field c.in_ok-matrix.ensures.columns c.in_ok-matrix.ensures.echelon (c.deref_mut.ensures.value ∙ c.in_ok-rest.ensures.items) c.has.ensures.is }
