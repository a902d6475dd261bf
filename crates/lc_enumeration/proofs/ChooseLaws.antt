-- Binomial coefficients.
--   choose_next, choose_nothing, choose_one, choose_none      by Pascal's rule; of no, of one and of too many
use Rattle.std.proofs.Common.{◌≡◌, ℕ, suc, ◌+◌, refl, zero, arith, ◌<◌}
use Rattle.lc_enumeration.specs.Message.{choose}

pub choose_next : (k n : ℕ) → choose (suc k) (suc n) ≡ choose k n + choose k (suc n)
unfolding choose
choose_next k n = refl

pub choose_nothing : (k : ℕ) → choose k 0 ≡ 1
unfolding choose
choose_nothing k = refl

pub choose_one : (k : ℕ) → choose k 1 ≡ k
unfolding choose
choose_one zero = refl
choose_one (suc k) = omega (arith, choose_nothing k, choose_one k)

pub choose_none : (k n : ℕ) → k < n → choose k n ≡ 0
unfolding choose
choose_none k zero l = absurd (omega (arith, l))
choose_none zero (suc n) l = refl
choose_none (suc k) (suc n) l = omega (arith, choose_none k n (omega (arith, l)), choose_none k (suc n) (omega (arith, l)))
