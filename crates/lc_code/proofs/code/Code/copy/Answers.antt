use Rattle.std.proofs.Common.{◌∙◌}
use Rattle.lc_code.proofs.CodeLaws.{rows_kept}
use Rattle.lc_code.proofs.code.Code.copy.Goals as goal

pub invariant_of-result : goal.invariant_of-result
invariant_of-result c =
    rows_kept c.self.inside.matrix c.in_ok-from_rows.field-0 c.self.invariant
    (c.in_ok-from_rows.ensures.field ∙ c.field.ensures.is)
    (c.in_ok-from_rows.ensures.columns ∙ c.cols.ensures.is)
    (c.in_ok-from_rows.ensures.rows ∙ c.deref.ensures.value ∙ c.in_ok-rows.ensures.are)
