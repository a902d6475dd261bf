use Rattle.std.proofs.Common.{◌≡◌, ◌≢◌, ℕ, ◌-◌, ◌^◌, ◌<◌, ◌≤◌}
use Rattle.lc_combine.proofs.refusal.degree_over.Given as goal

abbrev pub invariant-loop-s : goal.invariant-loop-s
invariant-loop-s l = record {
  from : 1 ≤ l.s;
  power : l.power ≡ l.q ^ (l.s - 1);
  none : (j : ℕ) → 1 ≤ j → j < l.s → l.q ^ j ≢ l.size;
}
