use Rattle.std.proofs.Common.{◌≡◌, take}
use Rattle.lc_arguments.specs.Asked.{command_for, words_of, IsCourse}
use Rattle.lc_arguments.proofs.arguments.settings_in.Given as goal

abbrev pub invariant-loop-i : goal.invariant-loop-i
invariant-loop-i l = IsCourse (command_for l.command) (words_of (take l.i l.arguments)) l.asked
