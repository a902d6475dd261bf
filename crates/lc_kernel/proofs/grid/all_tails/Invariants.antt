use Rattle.std.proofs.Common.{◌*◌, ◌≤◌, length}
use Rattle.lc_kernel.specs.Packed.{EndsAt}
use Rattle.lc_kernel.specs.Grid.{tail_count, AreTails}
use Rattle.lc_kernel.proofs.grid.all_tails.Given as goal

abbrev pub invariant-loop-a : goal.invariant-loop-a
invariant-loop-a l = record {
  ends : EndsAt (length l.rows.sets.now.rows) 2 l.a l.pair;
  tails : AreTails l.rows.sets.now l.rows.set (l.pair * tail_count l.rows.sets.now) l.words.items;
  small : l.pair ≤ 255 * l.a;
}
