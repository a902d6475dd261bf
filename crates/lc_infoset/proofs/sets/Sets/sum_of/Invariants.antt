use Rattle.std.proofs.Common.{◌≡◌, ◌≤◌, ◌*◌, length, take}
use Rattle.lc_enumeration.specs.Search.{ranks_of, bound_sum}
use Rattle.lc_infoset.proofs.sets.Sets.sum_of.Given as goal

abbrev pub invariant-loop-j : goal.invariant-loop-j
invariant-loop-j l = record {
  sum : l.sum ≡ bound_sum (length l.self.rows) (take l.j (ranks_of l.self)) (take l.j l.levels);
  few : l.sum ≤ l.j * 255;
}
