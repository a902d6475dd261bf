use Rattle.std.proofs.Common.{◌<◌, subst, arith}
use Rattle.lc_enumeration.specs.Search.{set_count}
use Rattle.lc_kernel.specs.declared.grid.Grid.{Grid}
use Rattle.lc_kernel.specs.declared.table.Table.{Table}
use Rattle.lc_kernel.specs.Values.{IsSpotAt}
use Rattle.lc_kernel.specs.Grids.{IsGrid}
use Rattle.lc_kernel.specs.Tables.{IsTable}
use Rattle.lc_kernel.proofs.BlockLaws.{phase_in_plan}
use Rattle.lc_kernel.proofs.ScanLaws.{spot_at}
use Rattle.lc_kernel.proofs.TableLaws.{one_of_all}
use Rattle.lc_kernel.proofs.least_word.least_in.Goals.{After-start_of}
use Rattle.lc_kernel.proofs.least_word.least_in.Goals as goal

-- the spot is at the first message of the block
started : (c : After-start_of) → IsSpotAt c.args.block.now.sets.now c.args.block.now.plan.now.m c.args.block.now.number 0 c.start_of.new.spot × (c.start_of.new.spot.set < set_count c.args.block.now.sets.now)
started c =
    let e = c.start_of.ensures in
    spot_at c.args.block.now.sets.now c.args.block.now.plan.now c.args.block.now.number c.start_of.new.spot c.args.block.now.planned e.first e.level e.set e.message (phase_in_plan c.args.block.now)

pub by_tails-requires-clause-set : goal.by_tails-requires-clause-set
by_tails-requires-clause-set c = (started (goal.at.by_tails-requires-clause-set c).After-start_of).1

pub by_tails-requires-clause-at : goal.by_tails-requires-clause-at
by_tails-requires-clause-at c = (started (goal.at.by_tails-requires-clause-at c).After-start_of).0

pub by_tails-requires-clause-grid : goal.by_tails-requires-clause-grid
by_tails-requires-clause-grid c =
    let g = c.index-grids-set.result in
    let grid = one_of_all (λ j (x : Grid). IsGrid c.args.block.now.sets.now j x) c.args.grids.now c.set-set.result g c.requires.grids.each (omega (arith, c.if-level-ge3.true)) c.index-grids-set.is in
    subst (λ j. IsGrid c.args.block.now.sets.now j g) c.set-set.ensures grid

pub by_runs-requires-clause-set : goal.by_runs-requires-clause-set
by_runs-requires-clause-set c = (started (goal.at.by_runs-requires-clause-set c).After-start_of).1

pub by_runs-requires-clause-at : goal.by_runs-requires-clause-at
by_runs-requires-clause-at c = (started (goal.at.by_runs-requires-clause-at c).After-start_of).0

pub by_runs-requires-clause-table : goal.by_runs-requires-clause-table
by_runs-requires-clause-table c =
    let t = c.index-tables-set.result in
    let table = one_of_all (λ j (x : Table). IsTable c.args.block.now.sets.now j x) c.args.tables.now c.set-set.result t c.requires.tables.each (omega (arith, c.if-set-tables.true)) c.index-tables-set.is in
    subst (λ j. IsTable c.args.block.now.sets.now j t) c.set-set.ensures table
