use Rattle.std.proofs.Common.{ℕ, ◌<◌}
use Rattle.lc_poly.specs.Minimal.{next_value, CanVanish}
use Rattle.lc_poly.proofs.minimal_polynomial.next_coefficient.Given as goal

abbrev pub invariant-loop-c : goal.invariant-loop-c
invariant-loop-c l = (n : ℕ) → n < l.c → CanVanish l.small l.large l.a l.depth (next_value l.small l.large l.a n l.value) → ⊥
