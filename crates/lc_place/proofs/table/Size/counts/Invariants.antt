use Rattle.lc_place.specs.Tables.{IsTable, count_entry}
use Rattle.lc_place.proofs.table.Size.counts.Given as goal

abbrev pub invariant-loop-level : goal.invariant-loop-level
invariant-loop-level l = IsTable (count_entry l.self.k l.self.q) l.level l.table.items
