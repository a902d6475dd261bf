-- The limits of certificates by construction.
--   total_one, total_two         how many claims a claim with one or two parts has, up to 1,025
--   depth_one, depth_two         how deep it is, up to 33
--   many_claims, deep_claims     what is counted up to a limit tells whether it is above it
use Rattle.std.proofs.Common.{◌≡◌, ℕ, suc, ◌+◌, min, max, nat_lt, sym, ap, ◌∙◌, ⊎_elim, arith}
use Rattle.std.proofs.lemmas.Bool.{cases_lt, lt-ltb, le-ltb}

pub total_one : (a r : ℕ) → r ≡ min a 1025 → min (1 + r) 1025 ≡ min (suc a) 1025
total_one a r e = omega (arith, e)

pub total_two : (a b r s : ℕ) → r ≡ min a 1025 → s ≡ min b 1025 → min (1 + (r + s)) 1025 ≡ min (suc (a + b)) 1025
total_two a b r s e f = omega (arith, e, f)

pub depth_one : (a r : ℕ) → r ≡ min a 33 → min (1 + r) 33 ≡ min (suc a) 33
depth_one a r e = omega (arith, e)

pub depth_two : (a b r s : ℕ) → r ≡ min a 33 → s ≡ min b 33 → min (1 + max r s) 33 ≡ min (suc (max a b)) 33
depth_two a b r s e f = omega (arith, e, f)

up_to : (most n : ℕ) → nat_lt most (min n (suc most)) ≡ nat_lt most n
up_to most n = ⊎_elim (λ l. lt-ltb most (min n (suc most)) (omega (arith, l)) ∙ sym (lt-ltb most n l)) (λ l. le-ltb most (min n (suc most)) (omega (arith, l)) ∙ sym (le-ltb most n l)) (cases_lt most n)

pub many_claims : (n r : ℕ) → r ≡ min n 1025 → nat_lt 1024 r ≡ nat_lt 1024 n
many_claims n r e = ap (nat_lt 1024) e ∙ up_to 1024 n

pub deep_claims : (n r : ℕ) → r ≡ min n 33 → nat_lt 32 r ≡ nat_lt 32 n
deep_claims n r e = ap (nat_lt 32) e ∙ up_to 32 n

pub ruleset total_laws = (total_one, total_two)

pub ruleset depth_laws = (depth_one, depth_two)
