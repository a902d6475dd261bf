use Rattle.std.proofs.Common.{◌≡◌, ◌<◌, ◌≤◌, ℕ, false, [], slice_index_or}
use Rattle.lc_planes.specs.Packing.{places_apart}
use Rattle.lc_checker.specs.Heavy.{is_few}
use Rattle.lc_checker.proofs.heads.has_light_tail.Given as goal

abbrev pub invariant-loop-i : goal.invariant-loop-i
invariant-loop-i g l = record {
  most : l.light ≤ l.i;
  none : l.light ≡ 0 → (e : ℕ) → e < l.i → is_few l.distance (places_apart g.row.P g.row.N l.head (slice_index_or l.tails e [])) ≡ false;
}
