use Rattle.std.proofs.Common.{◌+◌, ap, ◌∙◌}
use Rattle.lc_combine.proofs.ExtendedLaws.{extended_code}
use Rattle.lc_combine.proofs.extended_codes.extended_words.Goals as goal

pub returns : goal.returns
returns c = record {
  code = extended_code c.args.code.now c.in_ok-from_rows.field-0 c.field.result.now (c.length.result + 1) c.deref.result.now c.matrix-matrix.ensures.rows c.field.ensures.is
      (ap (λ x. x + 1) c.length.ensures.is)
      (c.deref.ensures.value ∙ c.in_ok-rows.ensures.are)
      c.in_ok-from_rows.ensures.code;
}
