use Rattle.std.proofs.Common.{sym}
use Rattle.std.proofs.lemmas.Result.{err_from_is_err_and}
use Rattle.lc_grammar.specs.Tree as tree
use Rattle.lc_language.specs.Evaluation.{QueriesTo, StepsAsQuery}
use Rattle.lc_parse.specs.Views.{trees_of}
use Rattle.lc_calls.specs.Built.{built_calls, query_call_of}
use Rattle.lc_calls.specs.Value.{values_of}
use Rattle.lc_eval.proofs.EvaluationLaws.{query_count, query_fault, query_bound, query_misfit}
use Rattle.lc_eval.proofs.StatementLaws.{affects_map}
use Rattle.lc_eval.proofs.statement.ask.Goals as goal

pub returns-in_default : goal.returns-in_default
returns-in_default c = query_count c.args.names.now c.args.offset c.args.asked.now.arguments.now c.args.asked.now.row.now c.args.asked.now.call c.requires.row _ (sym c.in_default.ensures) c.fault.ensures

pub returns-in_err-values : goal.returns-in_err-values
returns-in_err-values c =
    let p = err_from_is_err_and c.from_residual.result c.from_residual.ensures.1 in
    rw (p.1, p.2) (query_fault c.args.names.now c.args.offset c.args.asked.now.arguments.now c.args.asked.now.row.now c.args.asked.now.call c.requires.row c.in-Some.kinds.now c.in_err-values.field-0.0 (sym c.in-Some.ensures) c.in_err-values.ensures)

pub returns-in-Some-bind_query : goal.returns-in-Some-bind_query
returns-in-Some-bind_query c =
    let binds = rw c.deref.ensures.value at c.in-Some-bind_query.ensures in
    λ x. affects_map c.answer.result (QueriesTo c.args.offset _)
    (StepsAsQuery built_calls c.args.names.now (query_call_of c.args.asked.now.call) (tree.call c.args.offset x (trees_of c.args.asked.now.arguments.now)))
    (λ step q. query_bound c.args.names.now c.args.offset c.args.asked.now.arguments.now c.args.asked.now.row.now c.args.asked.now.call c.requires.row c.in-Some.kinds.now (values_of c.in_ok-values.values.items) _ step (sym c.in-Some.ensures) c.in_ok-values.ensures (sym binds) q x)
    c.answer.ensures

pub returns : goal.returns
returns c =
    let binds = rw c.deref.ensures.value at c.in-None.ensures in
    let offset = rw c.deref-in-None.ensures.value at c.misfit.ensures in
    query_misfit c.args.names.now c.args.offset c.args.asked.now.arguments.now c.args.asked.now.row.now c.args.asked.now.call c.requires.row c.in-Some.kinds.now (values_of c.in_ok-values.values.items) c.misfit.result (sym c.in-Some.ensures) c.in_ok-values.ensures (sym binds) offset
