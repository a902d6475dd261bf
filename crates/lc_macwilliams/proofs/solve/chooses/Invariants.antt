use Rattle.lc_place.specs.Tables.{IsTable}
use Rattle.lc_macwilliams.specs.Solving.{choose_at}
use Rattle.lc_macwilliams.proofs.solve.chooses.Given as goal

abbrev pub invariant-loop-index : goal.invariant-loop-index
invariant-loop-index l = IsTable choose_at l.index l.table.items
