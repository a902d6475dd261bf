use Rattle.std.proofs.Common.{◌≡◌, ◌-◌, ◌++◌, take, drop}
use Rattle.lc_weights.specs.Leads.{leads}
use Rattle.lc_weights.proofs.words.leads_of.Given as goal

abbrev pub invariant-loop-i : goal.invariant-loop-i
invariant-loop-i l = l.list.items ++ leads l.code.field l.code.columns (take (l.to - l.i) (drop l.i l.code.rows)) ≡ leads l.code.field l.code.columns (take l.to l.code.rows)
