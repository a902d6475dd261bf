use Rattle.std.proofs.Common.{◌≡◌, drop}
use Rattle.lc_parts.specs.Joined.{with_lines}
use Rattle.lc_join.proofs.WalkLaws.{parts_of}
use Rattle.lc_join.proofs.walk.pass.Given as goal

abbrev pub invariant-loop-i : goal.invariant-loop-i
invariant-loop-i l = with_lines l.joined (parts_of (drop l.i l.lines)) ≡ with_lines l.initial.joined (parts_of l.lines)
