-- How many tails and heads there are.
--   pairs_few                  k rows have at most the square of k pairs
--   tails_few                  so a set has at most so many tails
--   too_many                   a power above 1,024, from a lower one
use Rattle.std.proofs.Common.{◌≡◌, ℕ, zero, suc, ◌+◌, ◌*◌, ◌^◌, ◌<◌, ◌≤◌, List, length, refl, ap, arith}
use Rattle.std.proofs.Math.Nat.{add-mul, mul_comm, mul-le-mul_right, pow-le-pow_right}
use Rattle.lc_algebra.specs.Matrix.{Matrix}
use Rattle.lc_enumeration.specs.Message.{supports_from}
use Rattle.lc_enumeration.specs.Message.{choose}
use Rattle.lc_enumeration.proofs.ChooseLaws.{choose_next, choose_one}
use Rattle.lc_place.proofs.Supports.{length-supports}
use Rattle.lc_kernel.specs.Grid.{tail_count, tails_in, AreTails}

square_next : (k : ℕ) → (k + 1) * (k + 1) ≡ k * k + k + k + 1
square_next k =
    let first : (k + 1) * (k + 1) ≡ k * (k + 1) + 1 * (k + 1) = add-mul k 1 (k + 1) in
    let second : (k + 1) * k ≡ k * k + 1 * k = add-mul k 1 k in
    let turned : k * (k + 1) ≡ (k + 1) * k = mul_comm k (k + 1) in
    omega (arith, first, second, turned)

choose_none : choose 0 2 ≡ 0
unfolding choose
choose_none = refl

choose_two : (k : ℕ) → choose k 2 ≤ k * k
choose_two zero = omega (arith, choose_none)
choose_two (suc k) =
    let next : suc k ≡ k + 1 = omega arith in
    let pairs : choose (suc k) 2 ≤ (k + 1) * (k + 1) = omega (arith, choose_next k 1, choose_one k, choose_two k, square_next k) in
    omega (arith, pairs, ap (λ z. z * z) next)

pub pairs_few : (k : ℕ) → length (supports_from 0 k 2) ≤ k * k
pairs_few k = omega (arith, length-supports 0 k 2, choose_two k)

pub tails_few : (C : Matrix) (j : ℕ) (ws : List (List ℕ)) → AreTails C j (tails_in C) ws → length ws ≤ length C.rows * length C.rows * tail_count C
tails_few C j ws h =
    let some : tails_in C ≤ length C.rows * length C.rows * tail_count C = mul-le-mul_right (tail_count C) (pairs_few (length C.rows)) in
    omega (arith, h.long, some)

pub too_many : (d n m many : ℕ) → 0 < d → many ≡ d ^ n → n ≤ m → 1024 < many → 1024 < d ^ m
too_many d n m many some e l big =
    let rises : d ^ n ≤ d ^ m = pow-le-pow_right some l in
    omega (arith, rises, e, big)
