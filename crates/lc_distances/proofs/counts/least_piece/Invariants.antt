use Rattle.std.proofs.Common.{◌-◌, ◌<◌, ◌≤◌, ℕ, length, slice_index}
use Rattle.lc_distances.specs.Least.{IsLeastOr}
use Rattle.lc_distances.proofs.counts.least_piece.Given as goal

abbrev pub decreases-loop-start : goal.decreases-loop-start
decreases-loop-start l = length l.counts - l.start

abbrev pub invariant-loop-start : goal.invariant-loop-start
invariant-loop-start l = record {
  inside : l.start ≤ length l.counts;
  begun : l.from ≤ l.start;
  least : IsLeastOr l.start (λ i. slice_index l.counts i) 256 l.least;
  before : (i : ℕ) → i < l.from → l.least < slice_index l.counts i;
}
