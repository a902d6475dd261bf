use Rattle.std.proofs.Common.{◌≡◌}
use Rattle.lc_kernel.specs.Sweeps.{list_count, AreHeads}
use Rattle.lc_kernel.proofs.sweeps.make_heads.Given as goal

abbrev pub invariant-loop-i : goal.invariant-loop-i
invariant-loop-i l = record {
  many : l.many ≡ list_count l.sweep.block.sets.now l.i;
  heads : AreHeads l.sweep.block.sets.now l.sweep.set l.support l.sweep.part l.sweep.grid.now.planes l.i l.heads;
}
