use Rattle.std.proofs.Common.{◌+◌, ◌*◌}
use Rattle.lc_kernel.specs.Grid.{tail_count, AreTails}
use Rattle.lc_kernel.proofs.grid.push_tails.Given as goal

abbrev pub invariant-loop-t : goal.invariant-loop-t
invariant-loop-t l = AreTails l.rows.sets.now l.rows.set (l.pair * tail_count l.rows.sets.now + l.t) l.words.items
