use Rattle.std.proofs.Common.{◌≡◌, ◌∙◌, map}
use Rattle.lc_eval.specs.Rows.{clamped}
use Rattle.lc_eval.proofs.QueryLaws.{least_refused, least_many, least_told}
use Rattle.lc_eval.proofs.queries.least_word.Goals as goal

pub returns-in-Err : goal.returns-in-Err
returns-in-Err c =
    let words : c.deref.result.now ≡ map (λ row. clamped row.items) c.args.rows.now = c.deref.ensures.value ∙ c.in_ok-words.ensures in
    least_refused c.args.offset c.args.rows.now c.args.field.now c.deref.result.now c.in-Err.refusal c.refused_as.result words c.in-Err.ensures.refused c.refused_as.ensures.is

pub returns-then-has_too_many_words : goal.returns-then-has_too_many_words
returns-then-has_too_many_words c =
    let words : c.deref.result.now ≡ map (λ row. clamped row.items) c.args.rows.now = c.deref.ensures.value ∙ c.in_ok-words.ensures in
    least_many c.args.offset c.args.rows.now c.args.field.now c.deref.result.now c.in-Ok.code c.has_too_many_words.result c.fault.result words c.in-Ok.ensures.refused c.has_too_many_words.ensures c.if-has_too_many_words.true c.fault.ensures

pub returns : goal.returns
returns c =
    let words : c.deref.result.now ≡ map (λ row. clamped row.items) c.args.rows.now = c.deref.ensures.value ∙ c.in_ok-words.ensures in
    least_told c.args.offset c.args.rows.now c.args.field.now c.deref.result.now c.in-Ok.code c.has_too_many_words.result c.in_ok-line_of.field-0.items words c.in-Ok.ensures.refused c.in-Ok.ensures.code c.has_too_many_words.ensures c.if-has_too_many_words.false c.in_ok-line_of.ensures
