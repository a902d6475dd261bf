use Rattle.std.proofs.Common.{suc, length}
use Rattle.lc_kernel.specs.Packed.{EndsAt, AreSumsSoFar}
use Rattle.lc_kernel.proofs.parts.longer_sums.Given as goal

abbrev pub invariant-loop-a : goal.invariant-loop-a
invariant-loop-a l = record {
  ends : EndsAt (length l.rows) (suc l.places) l.a (length l.longer.items);
  so_far : AreSumsSoFar (length l.rows) (suc l.places) l.rows l.longer.items;
}
