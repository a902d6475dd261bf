use Rattle.std.proofs.Common.{ap, ◌∙◌, refl}
use Rattle.lc_algebra.specs.Field.{size}
use Rattle.lc_macwilliams.proofs.RefusalLaws.{refused_is, allowed_is}
use Rattle.lc_macwilliams.proofs.refusals.refusal.Goals as goal

pub returns-then-is_refused : goal.returns-then-is_refused
returns-then-is_refused c = record {
  is = refused_is _ _ _ c.from-q.result c.length-n.result c.dimension-k.result _ _ _ _ (c.from-q.ensures ∙ c.size.ensures.is ∙ ap size c.field.ensures.is) c.length-n.ensures.is c.dimension-k.ensures.is c.is_power_above-many.ensures.is c.is_power_above-many_of_dual.ensures.is c.is_power_above-large.ensures.is c.is_refused.ensures.is c.if-is_refused.true _ refl;
}

pub returns : goal.returns
returns c = record {
  is = allowed_is _ _ _ c.from-q.result c.length-n.result c.dimension-k.result _ _ _ _ (c.from-q.ensures ∙ c.size.ensures.is ∙ ap size c.field.ensures.is) c.length-n.ensures.is c.dimension-k.ensures.is c.is_power_above-many.ensures.is c.is_power_above-many_of_dual.ensures.is c.is_power_above-large.ensures.is c.is_refused.ensures.is c.if-is_refused.false;
}
