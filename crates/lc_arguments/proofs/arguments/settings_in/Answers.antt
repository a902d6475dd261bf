use Rattle.std.proofs.Common.{refl, ap, ◌∙◌, arith, string_bytes}
use Rattle.lc_arguments.specs.Asked.{command_for}
use Rattle.lc_arguments.proofs.CourseLaws.{course_first, refused_there}
use Rattle.lc_arguments.proofs.arguments.settings_in.Goals as goal

pub loop-i-init : goal.loop-i-init
loop-i-init c = course_first (command_for c.args.command) _ refl refl refl refl refl refl refl

pub returns-in_default : goal.returns-in_default
returns-in_default c = refused_there (command_for c.args.command) c.args.arguments.now c.loop-i.i c.index-arguments-i.result c.as_str.result.now (omega arith) (c.as_str.ensures.value ∙ ap string_bytes c.index-arguments-i.is) c.in_default.ensures
