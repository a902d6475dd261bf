use Rattle.std.proofs.Common.{ap, ◌∙◌}
use Rattle.std.proofs.lemmas.Result.{err_from_is_err_and}
use Rattle.lc_language.specs.Value.{numbers}
use Rattle.lc_calls.specs.Value.{value_of}
use Rattle.lc_eval.proofs.RelationLaws.{syndrome_fault, syndrome_told}
use Rattle.lc_eval.proofs.relations.syndrome.Goals as goal

pub returns-in_err-word : goal.returns-in_err-word
returns-in_err-word c =
    let p = err_from_is_err_and c.from_residual.result c.from_residual.ensures.1 in
    rw (p.1, p.2) (syndrome_fault c.args.offset c.args.code.now c.args.list.now c.in_err-word.field-0.0 c.in_err-word.ensures)

pub returns : goal.returns
returns c =
    syndrome_told c.args.offset c.args.code.now c.args.list.now c.symbols.result.now c.in_ok-dots.dots (value_of c.in_ok-word_value.field-0)
    (rw (← c.symbols.ensures.are) at c.in_ok-word.ensures)
    c.in_ok-dots.ensures.is
    (c.in_ok-word_value.ensures ∙ ap numbers c.symbols-2.ensures.are)
