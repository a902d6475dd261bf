use Rattle.std.proofs.Common.{◌-◌}
use Rattle.lc_relations.specs.Leads.{IsSumFrom}
use Rattle.lc_relations.proofs.encoding.put_encoded.Given as goal

abbrev pub invariant-loop-i : goal.invariant-loop-i
invariant-loop-i l = IsSumFrom l.code (l.k - l.i) l.message l.sum
