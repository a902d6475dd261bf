use Rattle.std.proofs.Common.{◌∙◌}
use Rattle.lc_basic.proofs.FamilyLaws.{zero_code}
use Rattle.lc_basic.proofs.trivial.zero_words.Goals as goal

pub returns : goal.returns
returns c = record {
  code = zero_code c.args.field.now c.args.n c.deref.result.now c.in_ok-from_rows.field-0
      (c.deref.ensures.value ∙ c.new-rows.ensures.items)
      c.in_ok-from_rows.ensures.code;
}
