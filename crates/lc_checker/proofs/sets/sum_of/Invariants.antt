use Rattle.std.proofs.Common.{◌≡◌, ◌+◌, ◌*◌, ◌≤◌, min, map, length, drop}
use Rattle.lc_enumeration.specs.Search.{bound_sum}
use Rattle.lc_checker.proofs.sets.sum_of.Given as goal

abbrev pub invariant-loop-i : goal.invariant-loop-i
invariant-loop-i l = record {
  few : l.sum ≤ 256 * l.i;
  rest : l.sum + bound_sum l.k (map (λ s. length s.fresh.items) (drop l.i l.claims)) (map (λ s. min s.level l.k) (drop l.i l.claims)) ≡ bound_sum l.k (map (λ s. length s.fresh.items) l.claims) (map (λ s. min s.level l.k) l.claims);
}
