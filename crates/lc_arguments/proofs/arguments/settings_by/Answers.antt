use Rattle.lc_arguments.proofs.CourseLaws.{none_given, unknown_given, command_given}
use Rattle.lc_arguments.proofs.arguments.settings_by.Goals as goal

pub returns-in_default : goal.returns-in_default
returns-in_default c = none_given c.args.arguments.now c.in_default.ensures.cases

pub returns-in-Some-command_in : goal.returns-in-Some-command_in
returns-in-Some-command_in c = command_given c.args.arguments.now c.in-Some.first.now c.in-Some.others.now c.as_str.result.now c.in-Some-command_in.command c.settings_in.result c.in-Some.ensures.cases.0 c.as_str.ensures.value c.in-Some-command_in.ensures c.settings_in.ensures

pub returns-in-None : goal.returns-in-None
returns-in-None c = unknown_given c.args.arguments.now c.in-Some.first.now c.in-Some.others.now c.as_str.result.now c.in-Some.ensures.cases.0 c.as_str.ensures.value c.in-None.ensures
