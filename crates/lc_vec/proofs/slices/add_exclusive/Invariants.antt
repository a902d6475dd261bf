use Rattle.std.proofs.Common.{◌≡◌, ◌<◌, ◌≤◌, ℕ, slice_index}
use Rattle.lc_algebra.specs.Field.{add}
use Rattle.lc_algebra.specs.Word.{Fits}
use Rattle.lc_vec.proofs.slices.add_exclusive.Given as goal

abbrev pub invariant-loop-i : goal.invariant-loop-i
invariant-loop-i l = record {
  fits : Fits l.field l.to;
  done : (k : ℕ) → k < l.i → slice_index l.to k ≡ add l.field (slice_index l.initial.to k) (slice_index l.from k);
  rest : (k : ℕ) → l.i ≤ k → slice_index l.to k ≡ slice_index l.initial.to k;
}
