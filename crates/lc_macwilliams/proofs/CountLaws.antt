-- Sums over lists, and how many entries of a list pass a test.
--   sum_same, sum_none, sum_constant      of entries with the same numbers, with 0, with one number
--   sum_plus, sum_times        of sums and of multiples
--   sum_swap                   of sums over another list, in either order
--   sum_map, sum_flat_map      over lists made from lists
--   sum_first, sum_from_first  over the numbers below n, the first one apart
--   sum_symbols                where all but the first give one number
--   picked                     of the one number that is picked
--   count_one                  one entry of the numbers below n passes, if exactly one does
--   one_more                   q times a number is that number and q - 1 times it
--   sum_grouped                grouped by a number of each entry
--   sum_at_most, sum_passing   over different entries that are among others; and that are those that pass a test
--   below_numbers              the numbers below n are those from 0 on
--   sum_cut                    without the last numbers, that give 0
use Rattle.std.proofs.Common.{◌≡◌, ℕ, zero, suc, ◌+◌, ◌-◌, ◌*◌, ◌<◌, ◌≤◌, Bool, true, cond, ◌==◌, List, [], ◌∷◌, ◌++◌, length, map, flat_map, remove, sum_by, count_by, Contains, IsPermutation, refl, sym, ap, subst, ◌∙◌, ⊎_elim, arith}
use Rattle.std.proofs.Math.Nat.{mul-add, mul-zero, mul-one, zero-mul}
use Rattle.std.proofs.lemmas.Bool.{cases_eq, cases_lt, cases_Bool, eq-eqb, ne_eqb, eqb-true, cond-true, cond-false}
use Rattle.std.proofs.lemmas.List.Concat.{flat_map-cons}
use Rattle.std.proofs.lemmas.List.Sums.{sum_by-cons, sum_by-append, sum_by_push}
use Rattle.std.proofs.lemmas.List.Sorted.{IsPermutation-remove, Contains-permutation, sum_by-IsPermutation}
use Rattle.lc_algebra.specs.Span.{below}
use Rattle.lc_algebra.proofs.CommonLaws.{same_test}
use Rattle.lc_algebra.proofs.SpanLaws.{contains_head, contains_tail, contains_cases, contains_below}
use Rattle.lc_algebra.proofs.DimensionLaws.{AreDistinct}
use Rattle.lc_enumeration.specs.Message.{numbers_from}
use Rattle.lc_enumeration.proofs.RecordsLaws.{numbers_append}

pub sum_same : {X : Type 0} (g h : X → ℕ) (xs : List X) → ((x : X) → Contains xs x → g x ≡ h x) → sum_by g xs ≡ sum_by h xs
sum_same g h [] e = refl
sum_same g h (x ∷ xs) e = omega (arith, sum_by-cons g x xs, sum_by-cons h x xs, e x (contains_head x xs), sum_same g h xs (λ y l. e y (contains_tail x y xs l)))

pub sum_none : {X : Type 0} (g : X → ℕ) (xs : List X) → ((x : X) → Contains xs x → g x ≡ 0) → sum_by g xs ≡ 0
sum_none g [] e = refl
sum_none g (x ∷ xs) e = omega (arith, sum_by-cons g x xs, e x (contains_head x xs), sum_none g xs (λ y l. e y (contains_tail x y xs l)))

pub sum_constant : {X : Type 0} (g : X → ℕ) (m : ℕ) (xs : List X) → ((x : X) → Contains xs x → g x ≡ m) → sum_by g xs ≡ length xs * m
sum_constant g m [] e = sym (zero-mul m)
sum_constant g m (x ∷ xs) e =
    let r : sum_by g xs ≡ length xs * m = sum_constant g m xs (λ y l. e y (contains_tail x y xs l)) in
    omega (arith, sum_by-cons g x xs, e x (contains_head x xs), r)

pub sum_plus : {X : Type 0} (g h : X → ℕ) (xs : List X) → sum_by (λ x. g x + h x) xs ≡ sum_by g xs + sum_by h xs
sum_plus g h [] = refl
sum_plus g h (x ∷ xs) = omega (arith, sum_by-cons (λ x. g x + h x) x xs, sum_by-cons g x xs, sum_by-cons h x xs, sum_plus g h xs)

pub sum_times : {X : Type 0} (m : ℕ) (g : X → ℕ) (xs : List X) → sum_by (λ x. m * g x) xs ≡ m * sum_by g xs
sum_times m g [] = sym (mul-zero m)
sum_times m g (x ∷ xs) =
    let r : m * sum_by g (x ∷ xs) ≡ m * g x + m * sum_by g xs = ap (λ s. m * s) (sum_by-cons g x xs) ∙ mul-add m (g x) (sum_by g xs) in
    omega (arith, sum_by-cons (λ x. m * g x) x xs, sum_times m g xs, r)

pub sum_swap : {X Y : Type 0} (h : X → Y → ℕ) (xs : List X) (ys : List Y) → sum_by (λ x. sum_by (h x) ys) xs ≡ sum_by (λ y. sum_by (λ x. h x y) xs) ys
sum_swap h [] ys = sym (sum_none (λ y. sum_by (λ x. h x y) []) ys (λ y l. refl))
sum_swap h (x ∷ xs) ys =
    sum_by-cons (λ z. sum_by (h z) ys) x xs ∙ ap (λ s. sum_by (h x) ys + s) (sum_swap h xs ys)
    ∙ sym (sum_plus (h x) (λ y. sum_by (λ z. h z y) xs) ys) ∙ sum_same (λ y. h x y + sum_by (λ z. h z y) xs) (λ y. sum_by (λ z. h z y) (x ∷ xs)) ys (λ y l. sym (sum_by-cons (λ z. h z y) x xs))

pub sum_map : {X Y : Type 0} (g : Y → ℕ) (h : X → Y) (xs : List X) → sum_by g (map h xs) ≡ sum_by (λ x. g (h x)) xs
sum_map g h [] = refl
sum_map g h (x ∷ xs) = omega (arith, sum_by-cons g (h x) (map h xs), sum_by-cons (λ x. g (h x)) x xs, sum_map g h xs)

pub sum_flat_map : {X Y : Type 0} (g : Y → ℕ) (h : X → List Y) (xs : List X) → sum_by g (flat_map h xs) ≡ sum_by (λ x. sum_by g (h x)) xs
sum_flat_map g h [] = refl
sum_flat_map g h (x ∷ xs) = omega (arith, ap (sum_by g) (flat_map-cons h x xs), sum_by-append g (h x) (flat_map h xs), sum_by-cons (λ x. sum_by g (h x)) x xs, sum_flat_map g h xs)

pub sum_first : (g : ℕ → ℕ) (n : ℕ) → sum_by g (below (suc n)) ≡ g 0 + sum_by (λ s. g (suc s)) (below n)
unfolding below
sum_first g zero = sum_by_push g [] 0 ∙ omega arith
sum_first g (suc n) = omega (arith, sum_by_push g (below (suc n)) (suc n), sum_by_push (λ s. g (suc s)) (below n) n, sum_first g n)

pub sum_from_first : (g : ℕ → ℕ) (q : ℕ) → 0 < q → sum_by g (below q) ≡ g 0 + sum_by (λ s. g (suc s)) (below (q - 1))
sum_from_first g zero l = absurd (omega (arith, l))
sum_from_first g (suc n) l = let e : suc n - 1 ≡ n = omega arith in rw e (sum_first g n)

pub sum_symbols : (g : ℕ → ℕ) (m q : ℕ) → 0 < q → ((c : ℕ) → 0 < c → g c ≡ m) → length (below (q - 1)) ≡ q - 1 → sum_by g (below q) ≡ g 0 + (q - 1) * m
sum_symbols g m q l e k =
    let r : sum_by (λ s. g (suc s)) (below (q - 1)) ≡ (q - 1) * m = sum_constant (λ s. g (suc s)) m (below (q - 1)) (λ s _. e (suc s) (omega arith)) ∙ ap (λ n. n * m) k in
    omega (arith, sum_from_first g q l, r)

pub picked : (h : ℕ → ℕ) (i m : ℕ) → i < m → sum_by (λ j. h j * cond (i == j) 1 0) (below m) ≡ h i
unfolding below
picked h i zero l = absurd (omega (arith, l))
picked h i (suc m) l =
    let term : ℕ → ℕ = λ j. h j * cond (i == j) 1 0 in
    ⊎_elim
    (λ e.
    let others : sum_by term (below m) ≡ 0 = sum_none term (below m) (λ j c.
    let n : j < m = contains_below m j c in
    ap (λ b. h j * b) (cond-false {A = ℕ} (i == j) 1 0 (ne_eqb i j (λ s. omega (arith, s, e, n)))) ∙ mul-zero (h j)) in
    let last : term m ≡ h m = ap (λ b. h m * b) (cond-true {A = ℕ} (i == m) 1 0 (eq-eqb i m e)) ∙ mul-one (h m) in
    sum_by_push term (below m) m ∙ omega (arith, others, last, ap h e))
    (λ n.
    let last : term m ≡ 0 = ap (λ b. h m * b) (cond-false {A = ℕ} (i == m) 1 0 (ne_eqb i m n)) ∙ mul-zero (h m) in
    let before : i < m = ⊎_elim (λ s. s) (λ s. absurd (n (omega (arith, s, l)))) (cases_lt i m) in
    sum_by_push term (below m) m ∙ omega (arith, last, picked h i m before))
    (cases_eq i m)

pub count_one : (p : ℕ → Bool) (i m : ℕ) → i < m → p i ≡ true → ((j : ℕ) → j < m → p j ≡ true → j ≡ i) → count_by p (below m) ≡ 1
count_one p i m l h u =
    sum_same (λ j. cond (p j) 1 0) (λ j. 1 * cond (i == j) 1 0) (below m) (λ j c.
    let same : p j ≡ (i == j) = same_test (p j) (i == j) (λ t. eq-eqb i j (sym (u j (contains_below m j c) t))) (λ t. subst (λ k. p k ≡ true) (eqb-true i j t) h) in
    rw same (omega arith))
    ∙ picked (λ _. 1) i m l

pub one_more : (q x : ℕ) → 0 < q → q * x ≡ x + (q - 1) * x
one_more zero x l = absurd (omega (arith, l))
one_more (suc p) x l = let e : suc p - 1 ≡ p = omega arith in rw e (omega arith)

pub sum_grouped : {X : Type 0} (g : X → ℕ) (h : ℕ → ℕ) (m : ℕ) (xs : List X) → ((x : X) → Contains xs x → g x < m) → sum_by (λ x. h (g x)) xs ≡ sum_by (λ j. h j * count_by (λ x. g x == j) xs) (below m)
sum_grouped g h m xs l =
    sum_same (λ x. h (g x)) (λ x. sum_by (λ j. h j * cond (g x == j) 1 0) (below m)) xs (λ x c. sym (picked h (g x) m (l x c)))
    ∙ sum_swap (λ x j. h j * cond (g x == j) 1 0) xs (below m)
    ∙ sum_same (λ j. sum_by (λ x. h j * cond (g x == j) 1 0) xs) (λ j. h j * count_by (λ x. g x == j) xs) (below m) (λ j _. sum_times (h j) (λ x. cond (g x == j) 1 0) xs)

pub sum_at_most : {X : Type 0} (h : X → ℕ) (xs ys : List X) → AreDistinct xs → ((x : X) → Contains xs x → Contains ys x) → sum_by h xs ≤ sum_by h ys
sum_at_most h [] ys a m = omega arith
sum_at_most h (x ∷ xs) ys a m =
    let c = m x (contains_head x xs) in
    let p : IsPermutation ys (x ∷ remove ys c.0) = IsPermutation-remove ys c.0 x c.1 (sym c.2) in
    let t : sum_by h xs ≤ sum_by h (remove ys c.0) = sum_at_most h xs (remove ys c.0) a.1 (λ y d. ⊎_elim (λ e. absurd (a.0 (subst (Contains xs) (sym e) d))) (λ s. s) (contains_cases x y (remove ys c.0) (Contains-permutation ys (x ∷ remove ys c.0) y p (m y (contains_tail x y xs d))))) in
    omega (arith, t, sum_by-cons h x xs, sum_by-cons h x (remove ys c.0), sum_by-IsPermutation h ys (x ∷ remove ys c.0) p)

-- the entries of ys that pass are among xs
passing_at_most : {X : Type 0} (h : X → ℕ) (p : X → Bool) (ys xs : List X) → AreDistinct ys → ((y : X) → Contains ys y → p y ≡ true → Contains xs y) → sum_by (λ y. h y * cond (p y) 1 0) ys ≤ sum_by h xs
passing_at_most h p [] xs a m = omega arith
passing_at_most {X} h p (y ∷ ys) xs a m =
    let term : X → ℕ = λ z. h z * cond (p z) 1 0 in
    ⊎_elim
    (λ t.
    let c = m y (contains_head y ys) t in
    let o : IsPermutation xs (y ∷ remove xs c.0) = IsPermutation-remove xs c.0 y c.1 (sym c.2) in
    let r : sum_by term ys ≤ sum_by h (remove xs c.0) = passing_at_most h p ys (remove xs c.0) a.1 (λ z d u. ⊎_elim (λ e. absurd (a.0 (subst (Contains ys) (sym e) d))) (λ s. s) (contains_cases y z (remove xs c.0) (Contains-permutation xs (y ∷ remove xs c.0) z o (m z (contains_tail y z ys d) u)))) in
    let one : term y ≡ h y = ap (λ b. h y * b) (cond-true {A = ℕ} (p y) 1 0 t) ∙ mul-one (h y) in
    omega (arith, r, one, sum_by-cons term y ys, sum_by-cons h y (remove xs c.0), sum_by-IsPermutation h xs (y ∷ remove xs c.0) o))
    (λ t.
    let r : sum_by term ys ≤ sum_by h xs = passing_at_most h p ys xs a.1 (λ z d u. m z (contains_tail y z ys d) u) in
    let none : term y ≡ 0 = ap (λ b. h y * b) (cond-false {A = ℕ} (p y) 1 0 t) ∙ mul-zero (h y) in
    omega (arith, r, none, sum_by-cons term y ys))
    (cases_Bool (p y))

pub sum_passing : {X : Type 0} (h : X → ℕ) (p : X → Bool) (xs ys : List X) → AreDistinct xs → AreDistinct ys → ((x : X) → Contains xs x → Contains ys x × (p x ≡ true)) → ((y : X) → Contains ys y → p y ≡ true → Contains xs y) → sum_by h xs ≡ sum_by (λ y. h y * cond (p y) 1 0) ys
sum_passing {X} h p xs ys a b m k =
    let term : X → ℕ = λ z. h z * cond (p z) 1 0 in
    let same : sum_by h xs ≡ sum_by term xs = sum_same h term xs (λ x c. sym (ap (λ b. h x * b) (cond-true {A = ℕ} (p x) 1 0 (m x c).1) ∙ mul-one (h x))) in
    omega (arith, same, sum_at_most term xs ys a (λ x c. (m x c).0), passing_at_most h p ys xs b k)

pub below_numbers : (n : ℕ) → below n ≡ numbers_from 0 n
unfolding below numbers_from
below_numbers zero = refl
below_numbers (suc n) =
    let e : n + 1 ≡ suc n = omega arith in
    let z : 0 + n ≡ n = omega arith in
    let a : numbers_from 0 (n + 1) ≡ numbers_from 0 n ++ numbers_from (0 + n) 1 = numbers_append 0 n 1 in
    let a' : numbers_from 0 (suc n) ≡ numbers_from 0 n ++ numbers_from n 1 = rw (e, z) at a in
    ap (λ t. t ++ n ∷ []) (below_numbers n) ∙ sym a'

pub sum_cut : (g : ℕ → ℕ) (m d : ℕ) → ((j : ℕ) → m ≤ j → j < m + d → g j ≡ 0) → sum_by g (below (m + d)) ≡ sum_by g (below m)
unfolding below
sum_cut g m zero z = let e : m + zero ≡ m = omega arith in rw e refl
sum_cut g m (suc d) z =
    let e : m + suc d ≡ suc (m + d) = omega arith in
    rw e (sum_by_push g (below (m + d)) (m + d) ∙ omega (arith, z (m + d) (omega arith) (omega arith), sum_cut g m d (λ j l k. z j l (omega (arith, k)))))
