use Rattle.std.proofs.Common.{◌≡◌, ◌*◌, ◌≤◌}
use Rattle.lc_planes.specs.Packing.{places_apart}
use Rattle.lc_planes.proofs.packing.places_apart.Given as goal

abbrev pub invariant-loop-i : goal.invariant-loop-i
invariant-loop-i g l = record {
  few : l.places ≤ 64 * l.i;
  is : l.places ≡ places_apart g.row.P l.i l.head l.tail;
}
