-- Sums over lists of lists, counts in them, and the least of some values.
--   sum_flat             a sum over lists joined end to end, list by list
--   at_get               an element that is looked up stands at its index
--   sum_set              the sum after a change of one element
--   two_le_sum           two elements weigh no more than all
--   one_if, none_if      what a test counts
--   once_more            the numbers below n + 1, once each, are those below n, and n
--   le_least, least_le   what is no more than the least is no more than each
--   least_same           lists with the same counts below each bound have the same least
--   least_lower          the least after one more value
use Rattle.std.proofs.Common.{◌≡◌, ◌≢◌, ℕ, zero, suc, ◌+◌, ◌<◌, ◌≤◌, min, Bool, true, false, cond, eqb, ltb, List, [], ◌∷◌, length, get_or, set, refl, sym, ap, ◌∙◌, subst, ⊎_elim, arith}
use Rattle.std.specs.Prelude.{sum_by, count_by, flat_map}
use Rattle.std.proofs.lemmas.Bool.{cases_lt, lt-ltb, le-ltb}
use Rattle.std.proofs.lemmas.Bool.Decides.{nat_tests}
use Rattle.std.proofs.lemmas.List.Sums.{sum_by-cons, sum_by-append, sum_by-set}
use mathlib.Core.Option.{some, some-injective, some-ne-none}
use lib.ListN.{get_elem?}
use Rattle.lc_board.specs.Counting.{least}

pub sum_flat : {A B : Type 0} (g : B → ℕ) (f : A → List B) (xs : List A) → sum_by g (flat_map f xs) ≡ sum_by (λ a. sum_by g (f a)) xs
sum_flat g f [] = refl
sum_flat g f (x ∷ xs) = sum_by-append g (f x) (flat_map f xs) ∙ ap (λ n. sum_by g (f x) + n) (sum_flat g f xs) ∙ sym (sum_by-cons (λ a. sum_by g (f a)) x xs)

pub at_get : {A : Type 0} (xs : List A) (i : ℕ) (v d : A) → get_elem? xs i ≡ some v → (i < length xs) × (get_or xs i d ≡ v)
at_get [] i v d e = absurd (some-ne-none v (sym e))
at_get (x ∷ xs) zero v d e = (omega arith, some-injective x v e)
at_get (x ∷ xs) (suc i) v d e = let h = at_get xs i v d e in let l = h.0 in (omega arith, h.1)

pub sum_set : {A : Type 0} (f : A → ℕ) (xs : List A) (i : ℕ) (v w : A) → get_elem? xs i ≡ some v → sum_by f (set xs i w) + f v ≡ sum_by f xs + f w
sum_set f xs i v w e = let h = at_get xs i v v e in subst (λ u. sum_by f (set xs i w) + f u ≡ sum_by f xs + f w) h.1 (sum_by-set f xs i w v h.0)

one_le_sum : {A : Type 0} (f : A → ℕ) (xs : List A) (i : ℕ) (v : A) → get_elem? xs i ≡ some v → f v ≤ sum_by f xs
one_le_sum f [] i v e = absurd (some-ne-none v (sym e))
one_le_sum f (x ∷ xs) zero v e = let s = sum_by-cons f x xs in let p : f x ≡ f v = ap f (some-injective x v e) in omega arith
one_le_sum f (x ∷ xs) (suc i) v e = let s = sum_by-cons f x xs in let p = one_le_sum f xs i v e in omega arith

pub two_le_sum : {A : Type 0} (f : A → ℕ) (xs : List A) (i j : ℕ) (v w : A) → i ≢ j → get_elem? xs i ≡ some v → get_elem? xs j ≡ some w → f v + f w ≤ sum_by f xs
two_le_sum f [] i j v w n e h = absurd (some-ne-none v (sym e))
two_le_sum f (x ∷ xs) zero zero v w n e h = absurd (n refl)
two_le_sum f (x ∷ xs) zero (suc j) v w n e h = let s = sum_by-cons f x xs in let p : f x ≡ f v = ap f (some-injective x v e) in let q = one_le_sum f xs j w h in omega arith
two_le_sum f (x ∷ xs) (suc i) zero v w n e h = let s = sum_by-cons f x xs in let p : f x ≡ f w = ap f (some-injective x w h) in let q = one_le_sum f xs i v e in omega arith
two_le_sum f (x ∷ xs) (suc i) (suc j) v w n e h = let s = sum_by-cons f x xs in let p = two_le_sum f xs i j v w (λ k. n (ap suc k)) e h in omega arith

pub once_more : (n x : ℕ) → cond (ltb x (n + 1)) 1 0 ≡ cond (ltb x n) 1 0 + cond (eqb n x) 1 0
once_more n x = grind (arith, nat_tests)

pub one_if : (b : Bool) → b ≡ true → cond {A = ℕ} b 1 0 ≡ 1
one_if b e = ap (λ (c : Bool). cond {A = ℕ} c 1 0) e

pub none_if : (b : Bool) → b ≡ false → cond {A = ℕ} b 1 0 ≡ 0
none_if b e = ap (λ (c : Bool). cond {A = ℕ} c 1 0) e

-- how many of the values are below n
abbrev pub under : ℕ → List ℕ → ℕ
under n values = count_by (λ v. ltb v n) values

pub le_least : (n first : ℕ) (values : List ℕ) → n ≤ least first values → (n ≤ first) × (under n values ≡ 0)
le_least n first [] h = (h, refl)
le_least n first (v ∷ vs) h =
    let r = le_least n (min first v) vs h in let a = r.0 in let b = r.1 in
    let s = sum_by-cons (λ v. cond (ltb v n) 1 0) v vs in
    let l : n ≤ v = omega arith in
    let t : cond {A = ℕ} (ltb v n) 1 0 ≡ 0 = none_if _ (le-ltb v n l) in
    (omega arith, omega arith)

pub least_le : (n first : ℕ) (values : List ℕ) → n ≤ first → under n values ≡ 0 → n ≤ least first values
least_le n first [] l h = l
least_le n first (v ∷ vs) l h =
    let s = sum_by-cons (λ v. cond (ltb v n) 1 0) v vs in
    let t : cond {A = ℕ} (ltb v n) 1 0 ≡ 0 = omega arith in
    let m : n ≤ v = ⊎_elim (λ (k : v < n). let o : cond {A = ℕ} (ltb v n) 1 0 ≡ 1 = one_if _ (lt-ltb v n k) in absurd (omega arith)) (λ (k : n ≤ v). k) (cases_lt v n) in
    least_le n (min first v) vs (omega arith) (omega arith)

pub least_same : (first : ℕ) (vs ws : List ℕ) → ((n : ℕ) → under n ws ≡ under n vs) → least first vs ≡ least first ws
least_same first vs ws same =
    let m = least first vs in let n = least first ws in
    let a = le_least m first vs (omega arith) in let b = le_least n first ws (omega arith) in
    let p : m ≤ n = least_le m first ws a.0 (same m ∙ a.1) in
    let q : n ≤ m = least_le n first vs b.0 (sym (same n) ∙ b.1) in
    omega arith

pub least_lower : (first x : ℕ) (vs ws : List ℕ) → ((n : ℕ) → under n ws ≡ under n vs + cond (ltb x n) 1 0) → min (least first vs) x ≡ least first ws
least_lower first x vs ws same =
    let m : ℕ = min (least first vs) x in let n : ℕ = least first ws in
    let a = le_least m first vs (omega arith) in let b = le_least n first ws (omega arith) in
    let s = same m in let t = same n in
    let u : cond {A = ℕ} (ltb x m) 1 0 ≡ 0 = none_if _ (le-ltb x m (omega arith)) in
    let p : m ≤ n = least_le m first ws a.0 (let a1 = a.1 in omega arith) in
    let none : cond {A = ℕ} (ltb x n) 1 0 ≡ 0 = (let b1 = b.1 in omega arith) in
    let c : n ≤ x = ⊎_elim (λ (k : x < n). let o : cond {A = ℕ} (ltb x n) 1 0 ≡ 1 = one_if _ (lt-ltb x n k) in absurd (omega arith)) (λ (k : n ≤ x). k) (cases_lt x n) in
    let q : n ≤ least first vs = least_le n first vs b.0 (let b1 = b.1 in omega arith) in
    omega arith
