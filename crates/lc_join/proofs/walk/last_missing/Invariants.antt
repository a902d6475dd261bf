use Rattle.lc_parts.specs.Along.{end_wanted}
use Rattle.lc_join.proofs.WalkLaws.{Sought, parts_of}
use Rattle.lc_join.proofs.walk.last_missing.Given as goal

abbrev pub invariant-loop-i : goal.invariant-loop-i
invariant-loop-i l = Sought l.joined.progress.blocks (end_wanted l.joined.facts l.joined.budget l.joined.progress) (parts_of l.lines) l.i l.next
