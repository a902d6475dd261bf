use Rattle.std.proofs.Common.{◌==◌, ◌||◌, nat_lt, length, sym, ◌∙◌}
use Rattle.lc_constructions.specs.Refusals.{alternant_refusals}
use Rattle.lc_goppa.proofs.RefusalLaws.{form_too_large, form_outside, form_bad_length, form_uneven, form_bad_count, form_bad_points}
use Rattle.lc_eval.proofs.WideLaws.{form_multipliers}
use Rattle.lc_eval.proofs.wide.refuse_alternant.Goals as goal

pub returns-then-not-is_symbol : goal.returns-then-not-is_symbol
unfolding alternant_refusals
returns-then-not-is_symbol c = form_too_large c.args.field.now c.args.locator.now ((c.args.r == 0) || nat_lt (length c.args.points.now) c.args.r) c.args.points.now c.args.multipliers.now (sym c.is_symbol.ensures.is ∙ c.if-not-is_symbol.true)

pub returns-then-not-is_subfield : goal.returns-then-not-is_subfield
unfolding alternant_refusals
returns-then-not-is_subfield c = form_outside c.args.field.now c.args.locator.now ((c.args.r == 0) || nat_lt (length c.args.points.now) c.args.r) c.args.points.now c.args.multipliers.now (sym c.is_symbol.ensures.is ∙ c.if-not-is_symbol.false) (sym c.is_subfield.ensures ∙ c.if-not-is_subfield.true)

pub returns-then-not-is_length : goal.returns-then-not-is_length
unfolding alternant_refusals
returns-then-not-is_length c = form_bad_length c.args.field.now c.args.locator.now ((c.args.r == 0) || nat_lt (length c.args.points.now) c.args.r) c.args.points.now c.args.multipliers.now (sym c.is_symbol.ensures.is ∙ c.if-not-is_symbol.false) (sym c.is_subfield.ensures ∙ c.if-not-is_subfield.false) (sym c.is_length.ensures.is ∙ c.if-not-is_length.true)

pub returns-then-points-multipliers : goal.returns-then-points-multipliers
unfolding alternant_refusals
returns-then-points-multipliers c = form_uneven c.args.field.now c.args.locator.now ((c.args.r == 0) || nat_lt (length c.args.points.now) c.args.r) c.args.points.now c.args.multipliers.now (sym c.is_symbol.ensures.is ∙ c.if-not-is_symbol.false) (sym c.is_subfield.ensures ∙ c.if-not-is_subfield.false) (sym c.is_length.ensures.is ∙ c.if-not-is_length.false) (c.if-points-multipliers.true)

pub returns-then-is_bad_count : goal.returns-then-is_bad_count
unfolding alternant_refusals
returns-then-is_bad_count c = form_bad_count c.args.field.now c.args.locator.now ((c.args.r == 0) || nat_lt (length c.args.points.now) c.args.r) c.args.points.now c.args.multipliers.now (sym c.is_symbol.ensures.is ∙ c.if-not-is_symbol.false) (sym c.is_subfield.ensures ∙ c.if-not-is_subfield.false) (sym c.is_length.ensures.is ∙ c.if-not-is_length.false) (c.if-points-multipliers.false) (sym c.is_bad_count.ensures ∙ c.if-is_bad_count.true)

pub returns-then-not-are_elements : goal.returns-then-not-are_elements
unfolding alternant_refusals
returns-then-not-are_elements c = form_bad_points c.args.field.now c.args.locator.now ((c.args.r == 0) || nat_lt (length c.args.points.now) c.args.r) c.args.points.now c.args.multipliers.now (sym c.is_symbol.ensures.is ∙ c.if-not-is_symbol.false) (sym c.is_subfield.ensures ∙ c.if-not-is_subfield.false) (sym c.is_length.ensures.is ∙ c.if-not-is_length.false) (c.if-points-multipliers.false) (sym c.is_bad_count.ensures ∙ c.if-is_bad_count.false) (sym c.are_elements.ensures ∙ c.if-not-are_elements.true)

pub returns : goal.returns
unfolding alternant_refusals
returns c = form_multipliers c.args.field.now c.args.locator.now ((c.args.r == 0) || nat_lt (length c.args.points.now) c.args.r) c.args.points.now c.args.multipliers.now (sym c.is_symbol.ensures.is ∙ c.if-not-is_symbol.false) (sym c.is_subfield.ensures ∙ c.if-not-is_subfield.false) (sym c.is_length.ensures.is ∙ c.if-not-is_length.false) (c.if-points-multipliers.false) (sym c.is_bad_count.ensures ∙ c.if-is_bad_count.false) (sym c.are_elements.ensures ∙ c.if-not-are_elements.false) (c.requires.wide)
