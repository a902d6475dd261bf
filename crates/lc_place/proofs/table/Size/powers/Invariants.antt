use Rattle.std.proofs.Common.{◌≡◌}
use Rattle.lc_place.specs.Tables.{IsTable, power_entry}
use Rattle.lc_place.proofs.table.Size.powers.Given as goal

abbrev pub invariant-loop-exponent : goal.invariant-loop-exponent
invariant-loop-exponent l = record {
  entries : IsTable (power_entry l.self.q) l._exponent l.table.items;
  next : l.power ≡ power_entry l.self.q l._exponent;
}
