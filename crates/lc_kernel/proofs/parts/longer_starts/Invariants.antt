use Rattle.std.proofs.Common.{◌≡◌, ◌<◌, ℕ, suc, length, slice_index}
use Rattle.lc_kernel.specs.Packed.{EndsAt}
use Rattle.lc_kernel.proofs.parts.longer_starts.Given as goal

abbrev pub invariant-loop-a : goal.invariant-loop-a
invariant-loop-a l = record {
  count : length l.longer.items ≡ l.a;
  ends : EndsAt l.k (suc l.places) l.a l.first;
  starts : (b : ℕ) → b < l.a → EndsAt l.k (suc l.places) b (slice_index l.longer.items b);
}
