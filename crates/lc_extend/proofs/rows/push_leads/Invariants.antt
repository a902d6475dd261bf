use Rattle.std.proofs.Common.{◌≡◌, ◌++◌, map, take}
use Rattle.lc_extend.specs.Rows.{lead_word}
use Rattle.lc_extend.proofs.rows.push_leads.Given as goal

abbrev pub invariant-loop-i : goal.invariant-loop-i
invariant-loop-i l = l.checks.items ≡ l.initial.checks.items ++ map lead_word (take l.i l.d.rows)
