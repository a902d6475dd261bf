use Rattle.std.proofs.Common.{◌∙◌}
use Rattle.lc_parse.specs.Views.{trees_of}
use Rattle.lc_calls.specs.Value.{values_of}
use Rattle.lc_calls.proofs.KindLaws.{misfit_first, misfit_later, misfit_none_kinds, misfit_none_elements, misfit_none_values}
use Rattle.lc_calls.proofs.kinds.+first_misfit.Goals as goal

pub returns-in_err-kind : goal.returns-in_err-kind
returns-in_err-kind t c = c.from_residual.ensures ∙ misfit_none_kinds c.args.kinds.now (trees_of c.args.arguments.now) (values_of c.args.values.now) c.in_err-kind.ensures.cases

pub returns-in_err-argument : goal.returns-in_err-argument
returns-in_err-argument t c = c.from_residual-in_err-argument.ensures ∙ misfit_none_elements c.args.kinds.now c.args.arguments.now (values_of c.args.values.now) c.in_err-argument.ensures.cases

pub returns-in_err-value : goal.returns-in_err-value
returns-in_err-value t c = c.from_residual-in_err-value.ensures ∙ misfit_none_values c.args.kinds.now (trees_of c.args.arguments.now) c.args.values.now c.in_err-value.ensures.cases

pub returns-then-is_kind : goal.returns-then-is_kind
returns-then-is_kind t c = c.first_misfit.ensures ∙ misfit_later c.args.kinds.now c.in_ok-kind.kinds.now c.in_ok-kind.kind.now c.args.arguments.now c.in_ok-argument.arguments.now c.in_ok-argument.argument.now c.args.values.now c.in_ok-value.values.now c.in_ok-value.value.now c.is_kind.result c.in_ok-kind.ensures.cases.0 c.in_ok-argument.ensures.cases.0 c.in_ok-value.ensures.cases.0 c.is_kind.ensures c.if-is_kind.true

pub returns-else-is_kind : goal.returns-else-is_kind
returns-else-is_kind t c = misfit_first c.args.kinds.now c.in_ok-kind.kinds.now c.in_ok-kind.kind.now c.args.arguments.now c.in_ok-argument.arguments.now c.in_ok-argument.argument.now c.args.values.now c.in_ok-value.values.now c.in_ok-value.value.now c.is_kind.result c.in_ok-kind.ensures.cases.0 c.in_ok-argument.ensures.cases.0 c.in_ok-value.ensures.cases.0 c.is_kind.ensures c.if-is_kind.false
