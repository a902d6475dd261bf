use Rattle.std.proofs.Common.{sym, subst, ◌∙◌}
use Rattle.std.proofs.lemmas.Result.{err_from_is_err_and}
use Rattle.lc_constructions.specs.Code.{InCode}
use Rattle.lc_eval.proofs.ResidualCalls.{residue_fault, residue_outside, residue_applies}
use Rattle.lc_eval.proofs.construction.residue_code.Goals as goal

pub returns-in_err-word : goal.returns-in_err-word
returns-in_err-word c =
    let p = err_from_is_err_and c.from_residual.result c.from_residual.ensures.1 in
    rw (p.1, p.2) (residue_fault c.args.offset c.args.code.now c.args.list.now c.in_err-word.field-0.0 c.in_err-word.ensures)

pub returns-then-not-contains : goal.returns-then-not-contains
returns-then-not-contains c =
    residue_outside c.args.offset c.args.code.now c.args.list.now c.symbols-2.result.now c.contains.result c.fault.result
    (rw (← c.symbols-2.ensures.are) at c.in_ok-word.ensures)
    c.contains.ensures.is c.if-not-contains.true c.fault.ensures

pub returns : goal.returns
returns c =
    residue_applies c.args.offset c.args.code.now c.args.list.now c.symbols-3.result.now c.residual.result c.made.result
    (rw (← c.symbols-3.ensures.are) at c.in_ok-word.ensures)
    (subst (InCode c.args.code.now) (c.symbols-2.ensures.are ∙ sym c.symbols-3.ensures.are) (c.contains.ensures.is.0 c.if-not-contains.false))
    c.residual.ensures.code c.residual.ensures.refused c.made.ensures.is
