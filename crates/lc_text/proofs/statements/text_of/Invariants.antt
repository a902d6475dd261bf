use Rattle.std.proofs.Common.{length, map}
use Rattle.lc_parse.specs.Views.{statement_of}
use Rattle.lc_rounds.specs.Surroundings.{seen_of, seen}
use Rattle.lc_text.specs.Text.{HasCome}
use Rattle.lc_text.proofs.ComeLaws.{IsUntouched}
use Rattle.lc_text.proofs.statements.text_of.Given as goal

abbrev pub invariant-statements : goal.invariant-statements
invariant-statements g l =
    (HasCome l.initial.course.pace.point.budget (map statement_of l.initial.machine.left) l.initial.course
    (seen g.V.Vault g.W.Watcher l.initial.surroundings)
    l.machine l.course l.bytes.items
    (seen_of g.V.Vault g.W.Watcher l.vault l.watchers.items))
    × IsUntouched l.initial.machine l.initial.course l.machine l.course

abbrev pub decreases-statements : goal.decreases-statements
decreases-statements g l = length l.machine.left
