use Rattle.std.proofs.Common.{map}
use Rattle.lc_session_rules.specs.Options.{key_text}
use Rattle.lc_arguments.specs.Asked.{words_of, key_for, name_of}
use Rattle.lc_arguments.proofs.CourseLaws.{IsPlacedFrom}
use Rattle.lc_arguments.proofs.arguments.place_of.Given as goal

abbrev pub invariant-loop-i : goal.invariant-loop-i
invariant-loop-i l = IsPlacedFrom (key_text (key_for l.key)) (map name_of (words_of l.arguments)) l.i
