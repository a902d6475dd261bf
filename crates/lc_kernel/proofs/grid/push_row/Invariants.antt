use Rattle.std.proofs.Common.{◌+◌, ◌-◌, ◌*◌}
use Rattle.lc_kernel.specs.Grid.{tail_count, AreTails}
use Rattle.lc_kernel.proofs.grid.push_row.Given as goal

abbrev pub invariant-loop-b : goal.invariant-loop-b
invariant-loop-b l = AreTails l.rows.sets.now l.rows.set ((l.first + (l.b - l.a - 1)) * tail_count l.rows.sets.now) l.words.items
