use Rattle.std.proofs.Common.{◌≡◌, ◌<◌, ◌≤◌, length, drop}
use Rattle.lc_algebra.specs.Field.{size}
use Rattle.lc_constructions.specs.Cyclic.{value_in}
use Rattle.lc_cyclic.proofs.generators.value_in.Given as goal

abbrev pub invariant-loop-place : goal.invariant-loop-place
invariant-loop-place l = (l.place ≤ length l.list) × (l.value < size l.locator) × (l.value ≡ value_in l.field l.locator (drop l.place l.list) l.at)

abbrev pub decreases-loop-place : goal.decreases-loop-place
decreases-loop-place l = l.place
