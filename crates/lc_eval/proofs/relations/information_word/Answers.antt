use Rattle.std.proofs.lemmas.Result.{err_from_is_err_and}
use Rattle.lc_calls.specs.Value.{value_of}
use Rattle.lc_eval.proofs.RelationLaws.{information_fault, information_none, information_told}
use Rattle.lc_eval.proofs.relations.information_word.Goals as goal

pub returns-in_err-word : goal.returns-in_err-word
returns-in_err-word c =
    let p = err_from_is_err_and c.from_residual.result c.from_residual.ensures.1 in
    rw (p.1, p.2) (information_fault c.args.offset c.args.code.now c.args.list.now c.in_err-word.field-0.0 c.in_err-word.ensures)

pub returns-in-Some : goal.returns-in-Some
returns-in-Some c =
    information_told c.args.offset c.args.code.now c.args.list.now c.symbols.result.now c.in-Some.message c.symbols-in-Some.result.now (value_of c.in_ok-word_value-in-Some.field-0) c.in_ok-message.field-0
    (rw (← c.symbols.ensures.are) at c.in_ok-word.ensures)
    c.in_ok-message.ensures.is c.in_ok-message.ensures.exact c.in-Some.is
    c.symbols-in-Some.ensures.are
    c.in_ok-word_value-in-Some.ensures

pub returns : goal.returns
returns c =
    information_none c.args.offset c.args.code.now c.args.list.now c.symbols.result.now c.fault.result c.in_ok-message.field-0
    (rw (← c.symbols.ensures.are) at c.in_ok-word.ensures)
    c.in_ok-message.ensures.exact c.in-None.is
    c.fault.ensures
