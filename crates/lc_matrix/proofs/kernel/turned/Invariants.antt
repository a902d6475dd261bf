use Rattle.std.proofs.Common.{◌≡◌, ℕ, ◌-◌, ◌<◌, length, slice_index, All}
use Rattle.lc_matrix.proofs.kernel.turned.Given as goal

abbrev pub invariant-loop-c : goal.invariant-loop-c
invariant-loop-c l = record {
  count : length l.order.items ≡ l.c;
  entries : (k : ℕ) → k < l.c → slice_index l.order.items k ≡ l.n - 1 - k;
  inside : All (λ x. x < l.n) l.order.items;
}
