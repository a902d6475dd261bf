use Rattle.std.proofs.Common.{take, drop}
use Rattle.lc_language.specs.Evaluation.{Outcome, all_give, EvaluatesAll, EvaluatesList, nothing_yet}
use Rattle.lc_parse.specs.Views.{trees_of}
use Rattle.lc_calls.specs.Built.{built_calls}
use Rattle.lc_calls.specs.Value.{values_of}
use Rattle.lc_calls.specs.Listed.{listed_of}
use Rattle.lc_eval.proofs.evaluate.+evaluation.Given as goal

abbrev pub invariant-evaluate_all-loop-expr : goal.invariant-evaluate_all-loop-expr
invariant-evaluate_all-loop-expr l = EvaluatesAll built_calls l.names (trees_of (take l.expr-index l.exprs)) (all_give (values_of l.values.items))

abbrev pub invariant-list-loop-element : goal.invariant-list-loop-element
invariant-list-loop-element l = (o : Outcome) → EvaluatesList built_calls l.names (trees_of (drop l.element-index l.elements)) (listed_of l.found) o → EvaluatesList built_calls l.names (trees_of l.elements) nothing_yet o
