-- When the weight distribution of a code isn't computed.
--   power_first, power_next, power_end      a product is a power
--   power_laws                 these together
--   power_fits                 it fits
--   power_passed               a power that is above a bound before its end is above it at its end
--   at_code                    what the test of a power says of a code
--   refused_is, allowed_is     the refusal, by its three tests
use Rattle.std.proofs.Common.{◌≡◌, ℕ, suc, ◌+◌, ◌-◌, ◌*◌, ◌^◌, ◌<◌, ◌≤◌, Bool, true, false, nat_lt, ◌&&◌, ◌||◌, if◌then◌else◌, Some, None, refl, sym, ap, ap₂, ◌∙◌, arith}
use Rattle.std.proofs.Math.Nat.{pow-suc, pow-zero, pow-le-pow_right}
use Rattle.std.proofs.lemmas.Nat.{mul-le}
use Rattle.std.proofs.lemmas.Bool.Decides.{nat_tests}
use Rattle.lc_enumeration.specs.Distribution.{NoDistribution, distribution_refusal}

pub power_first : (q : ℕ) → 1 ≡ q ^ 0
power_first q = sym (pow-zero q)

pub power_next : (q i product factor : ℕ) → product ≡ q ^ i → factor ≡ q → product * factor ≡ q ^ (i + 1)
power_next q i product factor e s = let up : i + 1 ≡ suc i = omega arith in rw (e, s, up) (sym (pow-suc q i))

pub power_end : (q i e product most bound : ℕ) → product ≡ q ^ i → most ≡ bound → i ≡ e → nat_lt most product ≡ nat_lt bound (q ^ e)
power_end q i e product most bound is same end = ap₂ nat_lt same (is ∙ ap (λ n. q ^ n) end)

pub ruleset power_laws = (power_first, power_next, power_end)

pub power_fits : (product factor most bound q : ℕ) → most ≡ bound → factor ≡ q → bound < 2 ^ 64 → q < 2 ^ 64 → product ≤ most → product * factor < 2 ^ 128
power_fits product factor most bound q same is small few l =
    omega (arith, mul-le product factor 18446744073709551615 18446744073709551615 (omega (arith, l, small, same)) (omega (arith, few, is)))

pub power_passed : (q i e product most bound : ℕ) → 1 < q → product ≡ q ^ i → i ≤ e → most ≡ bound → most < product → true ≡ nat_lt bound (q ^ e)
power_passed q i e product most bound base is l same above =
    let rise : q ^ i ≤ q ^ e = pow-le-pow_right {n = q} (omega (arith, base)) {i = i} {j = e} l in
    let past : bound < q ^ e = omega (arith, rise, is, above, same) in
    grind (arith, nat_tests, past)

-- the test of a power q^e, at the field's size and a dimension
pub at_code : (q e Q K bound : ℕ) (b : Bool) → b ≡ nat_lt bound (q ^ e) → q ≡ Q → e ≡ K → b ≡ nat_lt bound (Q ^ K)
at_code q e Q K bound b is s d = is ∙ ap₂ (λ (x y : ℕ). nat_lt bound (x ^ y)) s d

refusal_is : (Q N K q n k : ℕ) (many dual large refused : Bool) → q ≡ Q → n ≡ N → k ≡ K → many ≡ nat_lt (2 ^ 24) (q ^ k) → dual ≡ nat_lt (2 ^ 24) (q ^ (n - k)) → large ≡ nat_lt (2 ^ 63) (q ^ n) → refused ≡ (many && (dual || large))
    → (r : NoDistribution) → r ≡ record { dimension = k; codimension = n - k } → (if refused then Some r else None) ≡ distribution_refusal Q N K
unfolding distribution_refusal
refusal_is Q N K q n k many dual large refused s l d a b c e r is = rw (is, e, a, b, c, s, l, d) refl

pub refused_is : (Q N K q n k : ℕ) (many dual large refused : Bool) → q ≡ Q → n ≡ N → k ≡ K → many ≡ nat_lt (2 ^ 24) (q ^ k) → dual ≡ nat_lt (2 ^ 24) (q ^ (n - k)) → large ≡ nat_lt (2 ^ 63) (q ^ n) → refused ≡ (many && (dual || large))
    → refused ≡ true → (r : NoDistribution) → r ≡ record { dimension = k; codimension = n - k } → Some r ≡ distribution_refusal Q N K
refused_is Q N K q n k many dual large refused s l d a b c e t r is =
    ap (λ (x : Bool). if x then Some r else None) (sym t) ∙ refusal_is Q N K q n k many dual large refused s l d a b c e r is

pub allowed_is : (Q N K q n k : ℕ) (many dual large refused : Bool) → q ≡ Q → n ≡ N → k ≡ K → many ≡ nat_lt (2 ^ 24) (q ^ k) → dual ≡ nat_lt (2 ^ 24) (q ^ (n - k)) → large ≡ nat_lt (2 ^ 63) (q ^ n) → refused ≡ (many && (dual || large))
    → refused ≡ false → None ≡ distribution_refusal Q N K
allowed_is Q N K q n k many dual large refused s l d a b c e t =
    let r : NoDistribution = record { dimension = k; codimension = n - k } in
    ap (λ (x : Bool). if x then Some r else None) (sym t) ∙ refusal_is Q N K q n k many dual large refused s l d a b c e r refl
