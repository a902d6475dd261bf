use Rattle.std.proofs.Common.{◌≡◌, ◌<◌, ℕ, length, slice_index}
use Rattle.lc_kernel.proofs.parts.row_starts.Given as goal

abbrev pub invariant-loop-a : goal.invariant-loop-a
invariant-loop-a l = record {
  many : length l.starts.items ≡ l.a;
  each : (b : ℕ) → b < l.a → slice_index l.starts.items b ≡ b;
}
