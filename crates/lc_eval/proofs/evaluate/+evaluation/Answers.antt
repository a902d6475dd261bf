use Rattle.std.proofs.Common.{sym}
use Rattle.std.proofs.lemmas.Result.{err_from_is_err_and}
use Rattle.lc_language.specs.Evaluation.{EvaluatesList, nothing_yet}
use Rattle.lc_parse.specs.Views.{trees_of}
use Rattle.lc_calls.specs.Built.{built_calls}
use Rattle.lc_calls.specs.Value.{values_of}
use Rattle.lc_eval.proofs.ListLaws.{misfit_element}
use Rattle.lc_eval.proofs.EvaluationLaws.{evaluated_more, evaluated_fault, wrong_count, arguments_fault, call_bound, call_misfit}
use Rattle.lc_eval.proofs.evaluate.+evaluation.Goals as goal

pub evaluate_all-returns-in_err-evaluate : goal.evaluate_all-returns-in_err-evaluate
evaluate_all-returns-in_err-evaluate t c =
    let p = err_from_is_err_and c.from_residual.result c.from_residual.ensures.1 in
    rw (p.1, p.2) (evaluated_fault c.args.names.now c.args.exprs.now c.loop-expr.expr-index c.expr-item.result c.loop-expr.values.items c.in_err-evaluate.field-0.0 c.loop-expr-test.true c.expr-item.is c.loop-expr.invariant c.in_err-evaluate.ensures.is)

pub evaluate_all-loop-expr-preserved : goal.evaluate_all-loop-expr-preserved
evaluate_all-loop-expr-preserved t c = evaluated_more c.args.names.now c.args.exprs.now c.loop-expr.expr-index c.expr-item.result c.loop-expr.values.items _ c.in_ok-evaluate.field-0 c.loop-expr-test.true c.expr-item.is c.in_ok-push.ensures.items c.loop-expr.invariant c.in_ok-evaluate.ensures.is

pub list-returns-in_err-found : goal.list-returns-in_err-found
list-returns-in_err-found t c =
    let p = err_from_is_err_and c.from_residual-in_err-found.result c.from_residual-in_err-found.ensures.1 in
    rw (p.1, p.2) (misfit_element c.args.names.now c.args.elements.now c.loop-element.element-index c.element-item.result c.loop-element.found c.in_err-found.field-0.0 c.in_ok-value.value (λ o. EvaluatesList built_calls c.args.names.now (trees_of c.args.elements.now) nothing_yet o) c.loop-element-test.true c.element-item.is c.loop-element.invariant c.in_ok-value.ensures.is c.in_err-found.ensures.is)

pub call-returns-in_default-kinds : goal.call-returns-in_default-kinds
call-returns-in_default-kinds t c = wrong_count c.args.names.now c.args.offset c.args.name.now c.args.arguments.now c.in-Some.row.now c.in-Value.call c.in-Some.ensures c.in-Value.is _ (sym c.in_default-kinds.ensures) c.fault-in_default-kinds.ensures

pub call-returns-in_err-values : goal.call-returns-in_err-values
call-returns-in_err-values t c =
    let p = err_from_is_err_and c.from_residual.result c.from_residual.ensures.1 in
    rw (p.1, p.2) (arguments_fault c.args.names.now c.args.offset c.args.name.now c.args.arguments.now c.in-Some.row.now c.in-Value.call c.in-Some.ensures c.in-Value.is c.in-Some-kinds.kinds.now c.in_err-values.field-0.0 (sym c.in-Some-kinds.ensures) c.in_err-values.ensures)

pub call-returns-in-Some-bind : goal.call-returns-in-Some-bind
call-returns-in-Some-bind t c =
    let binds = rw c.deref.ensures.value at c.in-Some-bind.ensures in
    call_bound c.args.names.now c.args.offset c.args.name.now c.args.arguments.now c.in-Some.row.now c.in-Value.call c.in-Some.ensures c.in-Value.is c.in-Some-kinds.kinds.now (values_of c.in_ok-values.values.items) _ c.apply.result (sym c.in-Some-kinds.ensures) c.in_ok-values.ensures (sym binds) c.apply.ensures.is

pub call-returns : goal.call-returns
call-returns t c =
    let binds = rw c.deref.ensures.value at c.in-None.ensures in
    let offset = rw c.deref-in-None.ensures.value at c.misfit.ensures in
    call_misfit c.args.names.now c.args.offset c.args.name.now c.args.arguments.now c.in-Some.row.now c.in-Value.call c.in-Some.ensures c.in-Value.is c.in-Some-kinds.kinds.now (values_of c.in_ok-values.values.items) c.misfit.result (sym c.in-Some-kinds.ensures) c.in_ok-values.ensures (sym binds) offset
