use Rattle.std.proofs.lemmas.Result.{err_from_is_err_and}
use Rattle.lc_eval.proofs.DecodeLaws.{form_none, form_fault, form_told}
use Rattle.lc_eval.proofs.decoding.algebraic_decode.Goals as goal

pub returns-in_default : goal.returns-in_default
returns-in_default c = rw (← c.code.view_is, c.in_default.is) (form_none c.args.offset c.code.inside.code c.args.list.now c.fault.result c.fault.ensures)

pub returns-in_err-word : goal.returns-in_err-word
returns-in_err-word c =
    let p = err_from_is_err_and c.from_residual.result c.from_residual.ensures.1 in
    rw (p.1, p.2, ← c.code.view_is, c.in-Some.is) (form_fault c.args.offset c.code.inside.code c.in-Some.form c.args.list.now c.in_err-word.field-0.0 c.in_err-word.ensures)

pub returns : goal.returns
returns c =
    form_told c.args.offset c.code.inside.code c.in-Some.form c.args.code.now c.code.inside.form c.args.list.now c.symbols.result.now c.in_ok-decoded_line.field-0.items c.in_ok-decoded.decoded c.code.view_is c.in-Some.is
    (rw (← c.symbols.ensures.are) at c.in_ok-word.ensures) c.in_ok-decoded.ensures.decoded c.in_ok-decoded_line.ensures
