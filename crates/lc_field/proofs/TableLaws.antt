-- What the tables' entries are computed by.
--   combined_none, combined_step     a combination of polynomials, digit by digit
--   power_down                       a power is the base times the power before
--   digit_product, digits_below      bounds of a number that is put together from its lowest digit and the rest
use Rattle.std.proofs.Common.{◌≡◌, ℕ, zero, suc, ◌+◌, ◌-◌, ◌*◌, ◌/◌, ◌%◌, ◌^◌, ◌<◌, ◌≤◌, refl, ap, ◌∙◌, arith, mod-lt, pow-suc, mul-le-mul_left, mul_comm}
use Rattle.std.proofs.Math.Nat.{add-mod-mod, one-le-pow}
use Rattle.std.proofs.lemmas.Nat.{mul-le}
use Rattle.lc_algebra.specs.Residue.{digits, number, plus, times}
use Rattle.lc_field.specs.Tables.{combined}

pub combined_none : (p c a b : ℕ) → combined p 0 c a b ≡ 0
unfolding combined digits number plus times
combined_none p c a b = refl

combined_suc : (p s c a b : ℕ) → combined p (suc s) c a b ≡ (a % p + c * (b % p)) % p + p * combined p s c (a / p) (b / p)
unfolding combined digits number plus times
combined_suc p s c a b = ap (λ x. x + p * combined p s c (a / p) (b / p)) (add-mod-mod (a % p) (c * (b % p)) p)

pub combined_step : (p s c a b : ℕ) → 0 < s → combined p s c a b ≡ (a % p + c * (b % p)) % p + p * combined p (s - 1) c (a / p) (b / p)
combined_step p zero c a b l = absurd (omega arith)
combined_step p (suc s) c a b l = let e : suc s - 1 ≡ s = omega arith in rw e (combined_suc p s c a b)

pub power_down : (p s : ℕ) → 0 < s → p ^ s ≡ p * p ^ (s - 1)
power_down p zero l = absurd (omega arith)
power_down p (suc s) l = let e : suc s - 1 ≡ s = omega arith in rw e (pow-suc p s ∙ mul_comm (p ^ s) p)

pub power_least : (p s : ℕ) → 0 < s → 0 < p → p ≤ p ^ s
power_least p s l o =
    let one : 1 ≤ p ^ (s - 1) = one-le-pow (s - 1) p o in
    let m : p * 1 ≤ p * p ^ (s - 1) = mul-le-mul_left p one in
    omega (arith, m, power_down p s l)

pub digit_product : (p s c b : ℕ) → 0 < s → 0 < p → p ^ s ≤ 256 → c < 256 → c * (b % p) ≤ 65536
digit_product p s c b l o small r =
    let d : b % p < p = mod-lt b o in
    mul-le c (b % p) 256 256 (omega (arith, r)) (omega (arith, d, small, power_least p s l o))

pub digits_below : (p s low rest : ℕ) → 0 < s → low < p → rest < p ^ (s - 1) → low + p * rest < p ^ s
digits_below p s low rest l d r =
    let m : p * suc rest ≤ p * p ^ (s - 1) = mul-le-mul_left p r in
    omega (arith, m, power_down p s l, d)

-- the same if the base is small, for the code's bounds
pub power_down_small : (p s : ℕ) → 0 < s → 1 < p → p ^ s ≤ 256 → p ^ (s - 1) ≤ 256
power_down_small p s l o small =
    let m : 1 * p ^ (s - 1) ≤ p * p ^ (s - 1) = mul-le 1 (p ^ (s - 1)) p (p ^ (s - 1)) (omega arith) (omega arith) in
    omega (arith, m, power_down p s l)
