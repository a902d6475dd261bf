use Rattle.std.proofs.Common.{◌≡◌, ◌+◌, ◌^◌, ◌<◌, min, map, sum, drop}
use Rattle.lc_formats.specs.Certificate.{messages_through}
use Rattle.lc_checker.specs.Cost.{capped}
use Rattle.lc_checker.proofs.cost.sum_of.Given as goal

abbrev pub invariant-loop-i : goal.invariant-loop-i
invariant-loop-i l = record {
  few : l.total < 2 ^ 64;
  rest : capped (l.total + sum (map (λ s. messages_through l.k l._q (min s.level l.k)) (drop l.i l.claims))) ≡ capped (sum (map (λ s. messages_through l.k l._q (min s.level l.k)) l.claims));
}
