-- Where a session starts that resumes a checkpoint, need by need.
--   whole_more           nor does one more need
--   starts_whole         then all records are used
--   starts_before        a need that makes it start anew
use Rattle.std.proofs.Common.{◌≡◌, ◌≤◌, ℕ, zero, suc, Bool, true, false, if◌then◌else◌, ◌==◌, nat_lt, List, [], ◌∷◌, ◌++◌, length, take, Option, Some, None, option_map, refl, ap, ◌∙◌, arith}
use Rattle.lc_algebra.specs.Matrix.{Matrix}
use Rattle.lc_enumeration.specs.Records.{Progress}
use Rattle.lc_enumeration.specs.Fitting.{first_divisible, start_before, used_start}
use Rattle.lc_session_rules.specs.Course.{IsWhole}

by_head : (b : Bool) (o : Option ℕ) → (if b then Some 0 else option_map suc o) ≡ None → (b ≡ false) × (o ≡ None)
by_head true o e = absurd (let f = e in cc)
by_head false None e = (refl, refl)
by_head false (Some i) e = absurd (let f = e in cc)

none_more : (divisor : Matrix → ℕ) (needs : List Matrix) (C : Matrix) → first_divisible divisor needs ≡ None → nat_lt 1 (divisor C) ≡ false → first_divisible divisor (needs ++ C ∷ []) ≡ None
unfolding first_divisible
none_more divisor [] C e f = ap (λ (b : Bool). if b then Some 0 else None) f
none_more divisor (D ∷ needs) C e f =
    let h = by_head (nat_lt 1 (divisor D)) (first_divisible divisor needs) e in
    ap (λ (b : Bool). if b then Some 0 else option_map suc (first_divisible divisor (needs ++ C ∷ []))) h.0
    ∙ ap (option_map suc) (none_more divisor needs C h.1 f)

pub whole_more : (divisor : Matrix → ℕ) (version : ℕ) (needs : List Matrix) (C : Matrix) → IsWhole divisor version needs → ((version == 1) ≡ true → nat_lt 1 (divisor C) ≡ false) → IsWhole divisor version (needs ++ C ∷ [])
whole_more divisor version needs C h one v = none_more divisor needs C (h v) (one v)

whole_by : (b : Bool) (divisor : Matrix → ℕ) (settled : List Progress) (current : Progress) (o : Option ℕ) → (b ≡ true → o ≡ None) → start_before settled current (if b then o else None) ≡ record { settled = settled; current = Some current }
unfolding start_before
whole_by true divisor settled current o h = ap (start_before settled current) (h refl)
whole_by false divisor settled current o h = refl

-- all records are used, whatever needs follow those up to the current one
pub starts_whole : (divisor : Matrix → ℕ) (version : ℕ) (settled : List Progress) (current : Progress) (needs front : List Matrix) → take (suc (length settled)) needs ≡ front → IsWhole divisor version front → used_start divisor needs version settled current ≡ record { settled = settled; current = Some current }
unfolding used_start
starts_whole divisor version settled current needs front e h =
    whole_by (version == 1) divisor settled current (first_divisible divisor (take (suc (length settled)) needs)) (λ v. ap (first_divisible divisor) e ∙ h v)

divisible_at : (divisor : Matrix → ℕ) (needs : List Matrix) (C : Matrix) (more : List Matrix) (n : ℕ) → length needs ≤ n → first_divisible divisor needs ≡ None → nat_lt 1 (divisor C) ≡ true → first_divisible divisor (take (suc n) (needs ++ C ∷ more)) ≡ Some (length needs)
unfolding first_divisible
divisible_at divisor [] C more n l e f = ap (λ (b : Bool). if b then Some 0 else option_map suc (first_divisible divisor (take n more))) f
divisible_at divisor (D ∷ needs) C more zero l e f = absurd (omega (arith, l))
divisible_at divisor (D ∷ needs) C more (suc n) l e f =
    let h = by_head (nat_lt 1 (divisor D)) (first_divisible divisor needs) e in
    ap (λ (b : Bool). if b then Some 0 else option_map suc (first_divisible divisor (take (suc n) (needs ++ C ∷ more)))) h.0
    ∙ ap (option_map suc) (divisible_at divisor needs C more n (omega (arith, l)) h.1 f)

-- the session starts anew at the first need whose code has a divisor above 1
pub starts_before : (divisor : Matrix → ℕ) (version : ℕ) (settled : List Progress) (current : Progress) (needs : List Matrix) (C : Matrix) (more : List Matrix) → (version == 1) ≡ true → length needs ≤ length settled → IsWhole divisor version needs → nat_lt 1 (divisor C) ≡ true → used_start divisor (needs ++ C ∷ more) version settled current ≡ record { settled = take (length needs) settled; current = None }
unfolding used_start start_before
starts_before divisor version settled current needs C more v l h f =
    ap (λ (b : Bool). start_before settled current (if b then first_divisible divisor (take (suc (length settled)) (needs ++ C ∷ more)) else None)) v
    ∙ ap (start_before settled current) (divisible_at divisor needs C more (length settled) l (h v) f)
