use Rattle.std.proofs.Common.{◌≢◌, ℕ, ◌<◌, ◌≤◌, slice_index}
use Rattle.lc_constructions.specs.Refusals.{first_index}
use Rattle.lc_goppa.proofs.points.repeated_point.Given as goal

abbrev pub invariant-loop-j : goal.invariant-loop-j
invariant-loop-j l = ((k : ℕ) → k < l.j → k ≤ first_index l.points k) × ((k i : ℕ) → k < l.j → i < k → slice_index l.points i ≢ slice_index l.points k)
