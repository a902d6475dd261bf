use Rattle.std.proofs.Common.{◌≡◌, ℕ, ◌<◌, get_or}
use Rattle.lc_place.proofs.order.reset.Given as goal

abbrev pub invariant-loop-coefficient : goal.invariant-loop-coefficient
invariant-loop-coefficient l = (u : ℕ) → u < l.coefficient-index → get_or l.coefficients u 0 ≡ 1
