-- The table of binomial coefficients, 64 by 64.
--   choose_small, choose_whole      how large they are; of all
--   choose_left, choose_top, choose_sum      the entries of the table, from those before
--   choose_fits, sum_fits           no entry is above 2^63
--   pascal_laws                     these together
--   chooses_laws                    a table that has an entry more
use Rattle.std.proofs.Common.{◌≡◌, ◌≢◌, ℕ, zero, suc, ◌+◌, ◌-◌, ◌/◌, ◌%◌, ◌^◌, ◌<◌, ◌≤◌, ap, sym, ◌∙◌, arith}
use Rattle.std.proofs.Math.Nat.{pow-suc, one-le-pow, pow-le-pow_right}
use Rattle.lc_enumeration.specs.Message.{choose}
use Rattle.lc_enumeration.proofs.ChooseLaws.{choose_next, choose_nothing, choose_none}
use Rattle.lc_place.proofs.Counting.{choose_more, table_more, table_none}
use Rattle.lc_macwilliams.specs.Solving.{choose_at}

pub choose_small : (n k : ℕ) → choose n k ≤ 2 ^ n
choose_small n zero = omega (arith, choose_nothing n, one-le-pow n 2 (omega arith))
choose_small zero (suc k) = omega (arith, choose_none 0 (suc k) (omega arith))
choose_small (suc n) (suc k) = omega (arith, choose_next n k, choose_small n k, choose_small n (suc k), pow-suc 2 n)

pub choose_whole : (n : ℕ) → choose n n ≡ 1
choose_whole zero = choose_nothing 0
choose_whole (suc n) = omega (arith, choose_next n n, choose_whole n, choose_none n (suc n) (omega arith))

pub choose_left : (i : ℕ) → i % 64 ≡ 0 → 1 ≡ choose_at i
choose_left i e = sym (ap (λ a. choose (i / 64) a) e ∙ choose_nothing (i / 64))

pub choose_top : (i : ℕ) → i % 64 ≢ 0 → i < 64 → 0 ≡ choose_at i
choose_top i e l = sym (choose_none (i / 64) (i % 64) (omega (arith, e, l)))

pub choose_sum : (i a b : ℕ) → i % 64 ≢ 0 → 64 ≤ i → a ≡ choose_at (i - 65) → b ≡ choose_at (i - 64) → a + b ≡ choose_at i
choose_sum i a b e l c d =
    let r : (i - 65) / 64 ≡ i / 64 - 1 = omega arith in
    let s : (i - 65) % 64 ≡ i % 64 - 1 = omega arith in
    let t : (i - 64) / 64 ≡ i / 64 - 1 = omega arith in
    let u : (i - 64) % 64 ≡ i % 64 = omega arith in
    let c' : a ≡ choose (i / 64 - 1) (i % 64 - 1) = rw (r, s) at c in
    let d' : b ≡ choose (i / 64 - 1) (i % 64) = rw (t, u) at d in
    rw (c', d') (sym (choose_more (i / 64) (i % 64) (omega arith) (omega arith)))

pub choose_fits : (i : ℕ) → i < 4096 → choose_at i ≤ 2 ^ 63
choose_fits i l =
    let row : i / 64 ≤ 63 = omega arith in
    omega (arith, choose_small (i / 64) (i % 64), pow-le-pow_right {n = 2} (omega arith) row)

pub sum_fits : (i a b : ℕ) → i < 4096 → i % 64 ≢ 0 → 64 ≤ i → a ≡ choose_at (i - 65) → b ≡ choose_at (i - 64) → a + b < 2 ^ 64
sum_fits i a b l e m c d = omega (arith, choose_sum i a b e m c d, choose_fits i l)

pub ruleset pascal_laws = (choose_sum, choose_left, choose_top, sum_fits)

pub ruleset chooses_laws = (table_more, table_none)
