use Rattle.std.proofs.Common.{◌≡◌, ℕ, ◌-◌, ◌<◌, length, slice_index}
use Rattle.lc_matrix.proofs.kernel.turned_places.Given as goal

abbrev pub invariant-loop-p : goal.invariant-loop-p
invariant-loop-p l = record {
  count : length l.places.items ≡ l.p-index;
  entries : (k : ℕ) → k < l.p-index → slice_index l.places.items k ≡ l.n - 1 - slice_index l.at k;
}
