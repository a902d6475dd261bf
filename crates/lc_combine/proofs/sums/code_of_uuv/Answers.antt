use Rattle.std.proofs.Common.{◌+◌, ap₂, ◌∙◌}
use Rattle.lc_combine.proofs.SumLaws.{uuv_code}
use Rattle.lc_combine.proofs.sums.code_of_uuv.Goals as goal

pub returns : goal.returns
returns c = record {
  code = uuv_code c.args.a.now c.args.b.now c.in_ok-from_rows.field-0 c.field.result.now (c.length.result + c.length-2.result) c.deref.result.now c.requires.field c.requires.columns c.matrix-left.ensures.rows c.matrix-right.ensures.rows c.field.ensures.is
      (ap₂ (λ x y. x + y) c.length.ensures.is c.length-2.ensures.is)
      (c.deref.ensures.value ∙ c.in_ok-rows.ensures.are)
      c.in_ok-from_rows.ensures.code;
}
