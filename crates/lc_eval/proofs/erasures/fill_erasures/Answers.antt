use Rattle.std.proofs.Common.{subst}
use Rattle.std.proofs.lemmas.Result.{err_from_is_err_and}
use Rattle.lc_language.specs.Erasures.{IsFilling}
use Rattle.lc_erasures.specs.Filling.{filling_of}
use Rattle.lc_eval.proofs.ErasureLaws.{erasures_fault, erasures_refused, erasures_told}
use Rattle.lc_eval.proofs.erasures.fill_erasures.Goals as goal

pub returns-in_err-word : goal.returns-in_err-word
returns-in_err-word c =
    let p = err_from_is_err_and c.from_residual.result c.from_residual.ensures.1 in
    rw (p.1, p.2) (erasures_fault c.args.offset c.args.code.now c.args.list.now c.args.erased.now c.in_err-word.field-0.0 c.in_err-word.ensures)

pub returns-in-Ok : goal.returns-in-Ok
returns-in-Ok c =
    erasures_told c.args.offset c.args.code.now c.args.list.now c.in_ok-word.word c.args.erased.now c.in_ok-line_of-in-Ok.field-0.items c.in-Ok.filling c.in_ok-word.ensures c.in-Ok.ensures.refused
    (subst (λ v. IsFilling c.args.code.now v c.args.erased.now (filling_of c.in-Ok.filling)) c.symbols.ensures.are c.in-Ok.ensures.is) c.in_ok-line_of-in-Ok.ensures

pub returns : goal.returns
returns c = erasures_refused c.args.offset c.args.code.now c.args.list.now c.in_ok-word.word c.args.erased.now c.in-Err.refusal c.refused_as.result c.in_ok-word.ensures c.in-Err.ensures.refused c.refused_as.ensures.is
