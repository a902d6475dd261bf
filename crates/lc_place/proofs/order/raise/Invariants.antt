use Rattle.std.proofs.Common.{◌≡◌, ℕ, ◌+◌, ◌<◌, length, get_or}
use Rattle.lc_place.proofs.order.raise.Given as goal

abbrev pub invariant-loop-later : goal.invariant-loop-later
invariant-loop-later l = record {
  many : length l.coefficients ≡ length l.fn.coefficients;
  before : (u : ℕ) → u < l.place → get_or l.coefficients u 0 ≡ get_or l.fn.coefficients u 0;
  at : get_or l.coefficients l.place 0 ≡ get_or l.fn.coefficients l.place 0 + 1;
  after : (u : ℕ) → l.place < u → u < l.later → get_or l.coefficients u 0 ≡ 1;
}
