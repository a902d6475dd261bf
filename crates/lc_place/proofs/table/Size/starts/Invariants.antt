use Rattle.std.proofs.Common.{◌≡◌}
use Rattle.lc_place.specs.Tables.{IsTable, start_entry}
use Rattle.lc_place.proofs.table.Size.starts.Given as goal

abbrev pub invariant-loop-level : goal.invariant-loop-level
invariant-loop-level l = record {
  entries : IsTable (start_entry l.self.k l.self.q l.self.m) l.level l.table.items;
  next : l.start ≡ start_entry l.self.k l.self.q l.self.m l.level;
}
