use Rattle.std.proofs.Common.{◌≡◌, ◌<◌, length}
use Rattle.lc_kernel.specs.Grids.{HasRoom, AreGrids}
use Rattle.lc_kernel.proofs.scratch.push_grids.Given as goal

abbrev pub invariant-loop-j : goal.invariant-loop-j
invariant-loop-j l = record {
  many : length l.grids.items ≡ l.j;
  are : AreGrids l.sets l.grids.items;
  room : 0 < l.j → HasRoom l.sets;
}
