use Rattle.std.proofs.Common.{sym, ◌∙◌}
use Rattle.lc_goppa.proofs.GoppaRefusals.{goppa_too_large, goppa_outside, goppa_bad_length, goppa_bad_polynomial}
use Rattle.lc_eval.proofs.WideLaws.{goppa_points}
use Rattle.lc_eval.proofs.wide.refuse_goppa.Goals as goal

pub returns-then-not-is_symbol : goal.returns-then-not-is_symbol
returns-then-not-is_symbol c = goppa_too_large c.args.field.now c.args.locator.now c.args.list.now c.args.points.now (sym c.is_symbol.ensures.is ∙ c.if-not-is_symbol.true)

pub returns-then-not-is_subfield : goal.returns-then-not-is_subfield
returns-then-not-is_subfield c = goppa_outside c.args.field.now c.args.locator.now c.args.list.now c.args.points.now (sym c.is_symbol.ensures.is ∙ c.if-not-is_symbol.false) (sym c.is_subfield.ensures ∙ c.if-not-is_subfield.true)

pub returns-then-not-is_length : goal.returns-then-not-is_length
returns-then-not-is_length c = goppa_bad_length c.args.field.now c.args.locator.now c.args.list.now c.args.points.now (sym c.is_symbol.ensures.is ∙ c.if-not-is_symbol.false) (sym c.is_subfield.ensures ∙ c.if-not-is_subfield.false) (sym c.is_length.ensures.is ∙ c.if-not-is_length.true)

pub returns-then-not-is_goppa_polynomial : goal.returns-then-not-is_goppa_polynomial
returns-then-not-is_goppa_polynomial c = goppa_bad_polynomial c.args.field.now c.args.locator.now c.args.list.now c.args.points.now (sym c.is_symbol.ensures.is ∙ c.if-not-is_symbol.false) (sym c.is_subfield.ensures ∙ c.if-not-is_subfield.false) (sym c.is_length.ensures.is ∙ c.if-not-is_length.false) (sym c.is_goppa_polynomial.ensures ∙ c.if-not-is_goppa_polynomial.true)

pub returns : goal.returns
returns c = goppa_points c.args.field.now c.args.locator.now c.args.list.now c.args.points.now (sym c.is_symbol.ensures.is ∙ c.if-not-is_symbol.false) (sym c.is_subfield.ensures ∙ c.if-not-is_subfield.false) (sym c.is_length.ensures.is ∙ c.if-not-is_length.false) (sym c.is_goppa_polynomial.ensures ∙ c.if-not-is_goppa_polynomial.false) (c.requires.wide)
