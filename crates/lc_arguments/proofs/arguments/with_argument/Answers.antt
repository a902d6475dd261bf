use Rattle.std.proofs.Common.{sym, ap, ◌∙◌}
use Rattle.std.specs.Prelude.{is_some}
use Rattle.lc_session_rules.specs.Options.{key_named, put_key}
use Rattle.lc_arguments.specs.Asked.{words_of, command_for, key_for, keys_of, settings_for}
use Rattle.lc_arguments.proofs.CourseLaws.{course_sign, course_name, course_again, course_next}
use Rattle.lc_arguments.proofs.arguments.with_argument.Goals as goal

pub returns-in_default : goal.returns-in_default
returns-in_default c = course_sign (command_for c.args.command) (words_of c.args.before.now) c.args.asked c.requires c.args.argument.now c.in_default.ensures.0

pub returns-in_default-key_in : goal.returns-in_default-key_in
returns-in_default-key_in c =
    course_name (command_for c.args.command) (words_of c.args.before.now) c.args.asked c.requires c.args.argument.now
    (ap (key_named (keys_of (command_for c.args.command))) (sym c.in-Some.ensures.1) ∙ sym c.in_default-key_in.ensures)

pub returns-then-is_some : goal.returns-then-is_some
returns-then-is_some c =
    course_again (command_for c.args.command) (words_of c.args.before.now) c.args.asked c.requires c.args.argument.now (key_for c.in-Some-key_in.key)
    (ap (key_named (keys_of (command_for c.args.command))) (sym c.in-Some.ensures.1) ∙ sym c.in-Some-key_in.ensures)
    (ap (λ o. is_some o) (sym c.place_of.ensures) ∙ sym c.is_some.ensures ∙ c.if-is_some.true)

pub returns : goal.returns
returns c =
    course_next (command_for c.args.command) (words_of c.args.before.now) c.args.asked c.requires c.args.argument.now (key_for c.in-Some-key_in.key) c.with_value.result c.in-Some.ensures.0
    (ap (key_named (keys_of (command_for c.args.command))) (sym c.in-Some.ensures.1) ∙ sym c.in-Some-key_in.ensures)
    (ap (λ o. is_some o) (sym c.place_of.ensures) ∙ sym c.is_some.ensures ∙ c.if-is_some.false)
    (c.with_value.ensures ∙ ap (λ t. put_key (key_for c.in-Some-key_in.key) t (settings_for c.args.asked)) c.in-Some.ensures.2)
