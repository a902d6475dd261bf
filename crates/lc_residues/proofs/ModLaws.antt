-- Numbers modulo n.
--   cancel                 a number of at most n is taken away from both sides
--   power_mod              a power of a remainder
--   moved                  the coordinate that a number r takes, for a shift by k and one by l where r l is k
use Rattle.std.proofs.Common.{◌≡◌, ℕ, zero, suc, ◌+◌, ◌-◌, ◌*◌, ◌%◌, ◌^◌, ◌≤◌, sym, ap, ap₂, ◌∙◌, arith, pow-suc}
use Rattle.std.proofs.Math.Nat.{add-mod, add-mod_right, mod-add-mod, mod-mod, add-mul-mod_self_right, mul-add, pow-zero}
use Rattle.std.proofs.lemmas.Nat.{mul-mod_first, mul-mod_second}

pub cancel : (n k x y : ℕ) → k ≤ n → (x + k) % n ≡ (y + k) % n → x % n ≡ y % n
cancel n k x y l e =
    let whole : (z : ℕ) → z % n ≡ ((z + k) % n + (n - k)) % n = λ z.
    let s : z + k + (n - k) ≡ z + n = omega (arith, l) in
    sym (add-mod_right z n) ∙ ap (λ m. m % n) (sym s) ∙ sym (mod-add-mod (z + k) n (n - k)) in
    whole x ∙ ap (λ m. (m + (n - k)) % n) e ∙ sym (whole y)

pub power_mod : (n a k : ℕ) → (a % n) ^ k % n ≡ a ^ k % n
power_mod n a zero = ap (λ m. m % n) (pow-zero (a % n) ∙ sym (pow-zero a))
power_mod n a (suc k) =
    ap (λ m. m % n) (pow-suc (a % n) k) ∙ sym (mul-mod_first ((a % n) ^ k) (a % n) n) ∙ ap (λ m. (m * (a % n)) % n) (power_mod n a k) ∙ mul-mod_first (a ^ k) (a % n) n ∙ mul-mod_second (a ^ k) a n ∙ ap (λ m. m % n) (sym (pow-suc a k))

pub moved : (n r k l i : ℕ) → k ≤ n → l ≤ n → r * l % n ≡ k % n → (r * i % n + (n - k)) % n ≡ r * ((i + (n - l)) % n) % n
moved n r k l i a b e =
    let s : r * i % n + (n - k) + k ≡ r * i % n + n = omega (arith, a) in
    let left : (r * i % n + (n - k) + k) % n ≡ r * i % n = ap (λ m. m % n) s ∙ add-mod_right (r * i % n) n ∙ mod-mod (r * i) n in
    let t : i + (n - l) + l ≡ i + n = omega (arith, b) in
    let y = r * ((i + (n - l)) % n) in
    let right : (y + k) % n ≡ r * i % n =
    add-mod y k n ∙ ap₂ (λ u v. (u + v) % n) (mul-mod_second r (i + (n - l)) n) (sym e) ∙ sym (add-mod (r * (i + (n - l))) (r * l) n)
    ∙ ap (λ m. m % n) (sym (mul-add r (i + (n - l)) l) ∙ ap (λ m. r * m) t ∙ mul-add r i n) ∙ add-mul-mod_self_right (r * i) r n in
    cancel n k (r * i % n + (n - k)) y a (left ∙ sym right)
