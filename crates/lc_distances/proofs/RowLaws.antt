-- Rows and columns of a place: place n is in row n / T and column n % T.
--   row_of_place              the row and the column of a place
--   row_before, row_some        the row before a row, and that there is one
--   row_there, row_below      a row of a place below n rows
use Rattle.std.proofs.Common.{◌≡◌, ℕ, zero, suc, ◌+◌, ◌-◌, ◌*◌, ◌/◌, ◌%◌, ◌<◌, ◌≤◌, sym, ap, subst, ◌∙◌, arith}
use Rattle.std.proofs.Math.Nat.{le_of_mul-le-mul_right}
use Rattle.std.proofs.lemmas.Nat.{div-mul-add, mod-mul-add, div_below}

pub row_of_place : (a t n T : ℕ) → t < T → a * T + t ≡ n → (n / T ≡ a) × (n % T ≡ t)
row_of_place a t n T l e = (ap (λ z. z / T) (sym e) ∙ div-mul-add a T t l, ap (λ z. z % T) (sym e) ∙ mod-mul-add a T t l)

pub row_there : (a t n T : ℕ) → t < T → a * T + t < n * T → a < n
row_there a t n T l m = subst (λ z. z < n) (div-mul-add a T t l) (div_below (a * T + t) T n (omega (arith, l)) m)

pub row_below : (a t n T : ℕ) → 0 < T → a * T + t ≤ n * T → a ≤ n
row_below a t n T some l =
    let less : a * T ≤ n * T = omega (arith, l) in
    le_of_mul-le-mul_right less some

pub row_before : (a T : ℕ) → 0 < a → 0 < T → (a - 1) * T + (T - 1) + 1 ≡ a * T
row_before zero T l m = absurd (omega (arith, l))
row_before (suc a) T l m =
    let less : suc a - 1 ≡ a = omega arith in
    let more : a * T + (T - 1) + 1 ≡ suc a * T = omega (arith, m) in
    ap (λ z. z * T + (T - 1) + 1) less ∙ more

pub row_some : (a t n T : ℕ) → a * T + t ≡ n → 0 < n → t ≡ 0 → 0 < a
row_some zero t n T e l none = absurd (omega (arith, e, l, none))
row_some (suc a) t n T e l none = omega arith
