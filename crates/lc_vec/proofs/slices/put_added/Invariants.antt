use Rattle.std.proofs.Common.{◌≡◌, ◌<◌, ℕ, slice_index}
use Rattle.lc_algebra.specs.Field.{size, add}
use Rattle.lc_vec.proofs.slices.put_added.Given as goal

abbrev pub invariant-loop-i : goal.invariant-loop-i
invariant-loop-i l = record {
  fits : (k : ℕ) → k < l.i → slice_index l.to k < size l.field;
  done : (k : ℕ) → k < l.i → slice_index l.to k ≡ add l.field (slice_index l.word k) (slice_index l.other k);
}
