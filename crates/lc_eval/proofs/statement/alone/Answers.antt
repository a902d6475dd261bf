use Rattle.std.proofs.lemmas.Result.{err_from_is_err_and}
use Rattle.lc_parse.specs.Views.{tree_of, trees_of}
use Rattle.lc_calls.specs.Built.{query_call_of}
use Rattle.lc_eval.proofs.StatementLaws.{alone_fault, alone_given, query_alone}
use Rattle.lc_eval.proofs.statement.alone.Goals as goal

pub returns-in_err-value-in-None : goal.returns-in_err-value-in-None
returns-in_err-value-in-None c =
    let p = err_from_is_err_and c.from_residual.result c.from_residual.ensures.1 in
    rw (p.1, p.2) (alone_fault c.args.names.now (tree_of c.args.expr.now) c.in_err-value-in-None.field-0.0 c.in-None.ensures c.in_err-value-in-None.ensures.is)

pub returns-in_ok-value_line-in-None : goal.returns-in_ok-value_line-in-None
returns-in_ok-value_line-in-None c = alone_given c.args.names.now (tree_of c.args.expr.now) c.in_ok-value-in-None.value c.in_ok-value_line-in-None.field-0.items c.in-None.ensures c.in_ok-value-in-None.ensures.is c.in_ok-value_line-in-None.ensures

pub returns-in-Some : goal.returns-in-Some
returns-in-Some c =
    let q = c.in-Some.ensures in
    query_alone c.args.names.now (tree_of c.args.expr.now) (query_call_of c.in-Some.asked.call) c.args.expr.now.offset q.name (trees_of c.in-Some.asked.arguments.now) c.ask.result q.found q.seen (c.ask.ensures q.name)
