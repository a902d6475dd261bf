use Rattle.std.proofs.Common.{◌≡◌, ◌+◌, ap, ◌∙◌}
use Rattle.std.proofs.lemmas.List.{length-map}
use Rattle.std.proofs.Common.{string_bytes}
use Rattle.lc_session_rules.specs.Options.{usage}
use Rattle.lc_arguments.specs.Asked.{command_for, words_of}
use Rattle.lc_arguments.proofs.CourseLaws.{ends_kept, ends_unkept, ends_seedless, ends_seeded, ends_plain, not_summary}
use Rattle.lc_arguments.proofs.arguments.checked.Goals as goal

pub returns-then-asked : goal.returns-then-asked
returns-then-asked c = ends_kept (command_for c.args.asked.command) (words_of c.args.arguments.now) c.args.asked c.requires c.in-Some.place c.in-Some.ensures c.if-asked.true

pub returns-else-asked : goal.returns-else-asked
returns-else-asked c = ends_unkept (command_for c.args.asked.command) (words_of c.args.arguments.now) c.args.asked c.requires c.in-Some.place c.in-Some.ensures c.if-asked.false

pub returns-in-Some-place_of : goal.returns-in-Some-place_of
returns-in-Some-place_of c = ends_seeded (command_for c.args.asked.command) (words_of c.args.arguments.now) c.args.asked c.requires c.in-Some-place_of.field-0 c.in_default.ensures c.in-Some-place_of.ensures (ap command_for c.in-Summary.is)

pub returns-in-None : goal.returns-in-None
returns-in-None c =
    ends_seedless (command_for c.args.asked.command) (words_of c.args.arguments.now) c.args.asked c.requires c.in_default.ensures c.in-None.ensures (ap command_for c.in-Summary.is)
    ∙ ap (λ n. usage (n + 1)) (length-map c.args.arguments.now string_bytes)

pub returns-in-Run : goal.returns-in-Run
returns-in-Run c = ends_plain (command_for c.args.asked.command) (words_of c.args.arguments.now) c.args.asked c.requires c.in_default.ensures (not_summary c.args.asked.command c.in-Run.is)
