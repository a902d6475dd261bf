use Rattle.std.proofs.Common.{length, ap, ◌∙◌}
use Rattle.lc_algebra.specs.Field.{size}
use Rattle.lc_macwilliams.proofs.RefusalLaws.{at_code}
use Rattle.lc_macwilliams.proofs.refusals.has_many_words.Goals as goal

pub returns : goal.returns
returns c = record {
  is = at_code c.from.result c.dimension.result (size c.args.code.now.field) (length c.args.code.now.rows) _ c.is_power_above.result c.is_power_above.ensures.is (c.from.ensures ∙ c.size.ensures.is ∙ ap size c.field.ensures.is) c.dimension.ensures.is;
}
