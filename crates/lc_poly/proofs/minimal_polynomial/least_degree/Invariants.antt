use Rattle.std.proofs.Common.{ℕ, ◌<◌}
use Rattle.lc_poly.specs.Minimal.{CanVanish}
use Rattle.lc_poly.proofs.minimal_polynomial.least_degree.Given as goal

abbrev pub invariant-loop-degree : goal.invariant-loop-degree
invariant-loop-degree l = (n : ℕ) → n < l.degree → CanVanish l.small l.large l.a n 1 → ⊥
