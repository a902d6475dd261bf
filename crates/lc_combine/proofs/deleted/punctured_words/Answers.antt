use Rattle.std.proofs.Common.{◌-◌, length, ap, ◌∙◌}
use Rattle.lc_combine.proofs.DeletedLaws.{punctured_code}
use Rattle.lc_combine.proofs.deleted.punctured_words.Goals as goal

pub returns : goal.returns
returns c = record {
  code = punctured_code c.args.code.now c.in_ok-from_rows.field-0 c.args.coordinates.now c.field.result.now (c.length.result - length c.args.coordinates.now) c.deref.result.now c.matrix-matrix.ensures.rows c.requires.fine c.field.ensures.is
      (ap (λ x. x - length c.args.coordinates.now) c.length.ensures.is)
      (c.deref.ensures.value ∙ c.in_ok-rows.ensures.are)
      c.in_ok-from_rows.ensures.code;
}
