use Rattle.lc_place.specs.Tables.{IsTable, choose_entry}
use Rattle.lc_place.proofs.table.Size.chooses.Given as goal

abbrev pub invariant-loop-index : goal.invariant-loop-index
invariant-loop-index l = IsTable choose_entry l.index l.table.items
