-- How often a number is a sum of two quadratic residues, by a test of each prime below 256.
--   bits n                 1 at the residues below n, by Euler's criterion, and 0 elsewhere
--   turned n w             the word whose symbol at i is that of w at -i modulo n
--   nat_dot u v            the sum of the products
--   quarter n              (n - 1) / 4 or (n + 1) / 4, whichever is a whole number
--   sums_test n            m is a sum of two residues in as many ways, less one if m is a residue itself; 0 is it in twice as many, or none
--   length_turned, length_bits, index_bits, bits_zero      these words
--   sums_at_zero, sums_elsewhere       what the test says
use Rattle.std.proofs.Common.{◌≡◌, ◌≢◌, ℕ, zero, suc, ◌+◌, ◌-◌, ◌*◌, ◌/◌, ◌%◌, ◌^◌, ◌<◌, ◌≤◌, Bool, true, false, not, if◌then◌else◌, ◌==◌, ◌&&◌, ◌||◌, List, [], ◌∷◌, length, map, slice_index, refl, sym, ap, subst, ◌∙◌, ⊎_elim, arith, true≢false}
use Rattle.lc_algebra.specs.Residue.{top, up}
use Rattle.lc_algebra.specs.Span.{below}
use Rattle.lc_language.specs.Relations.{shifted}
use Rattle.lc_language.specs.QuadraticResidues.{is_odd_prime, cyclic_shift}
use Rattle.std.proofs.lemmas.Bool.{cases_lt, and_parts, eqb-true}
use Rattle.lc_residues.proofs.PickLaws.{index_mapped, length_mapped, length_shift}
use Rattle.lc_residues.proofs.ShiftLaws.{shifted_is, shift_after, shift_none}

unfoldable pub bits : ℕ → List ℕ
bits n = map (λ j. if j ^ ((n - 1) / 2) % n == 1 then 1 else 0) (below n)

unfoldable pub turned : ℕ → List ℕ → List ℕ
turned n w = map (λ i. slice_index w ((n - i) % n)) (below n)

unfoldable pub nat_dot : List ℕ → List ℕ → ℕ
nat_dot (a ∷ u) (b ∷ v) = a * b + nat_dot u v
nat_dot _ _ = 0

unfoldable pub walk : ℕ → List ℕ → List ℕ → List ℕ → Bool
walk a [] h s = true
walk a (x ∷ rest) h s = (nat_dot h s + x == a) && walk a rest (shifted h) s

unfoldable pub quarter : ℕ → ℕ
quarter n = (if n % 4 == 1 then (n - 1) / 4 else (n + 1) / 4)

unfoldable pub walk_from : ℕ → ℕ → List ℕ → List ℕ → Bool
walk_from a z h [] = false
walk_from a z h (x ∷ rest) = (nat_dot h (x ∷ rest) == z) && ((x == 0) && walk a rest (shifted h) (x ∷ rest))

unfoldable pub sums_test_of : ℕ → List ℕ → Bool
sums_test_of n s = walk_from (quarter n) (if n % 4 == 1 then 2 * quarter n else 0) (turned n s) s

unfoldable pub sums_test : ℕ → Bool
sums_test n = not (is_odd_prime n) || sums_test_of n (bits n)

unfoldable pub between : ℕ → ℕ → Bool
between a zero = true
between a (suc n) = sums_test (a + n) && between a n

first_tests : between 0 100 ≡ true
unfolding between sums_test sums_test_of walk_from walk turned nat_dot quarter bits shifted top up is_odd_prime below
first_tests = refl

second_tests : between 100 60 ≡ true
unfolding between sums_test sums_test_of walk_from walk turned nat_dot quarter bits shifted top up is_odd_prime below
second_tests = refl

third_tests : between 160 40 ≡ true
unfolding between sums_test sums_test_of walk_from walk turned nat_dot quarter bits shifted top up is_odd_prime below
third_tests = refl

fourth_tests : between 200 56 ≡ true
unfolding between sums_test sums_test_of walk_from walk turned nat_dot quarter bits shifted top up is_odd_prime below
fourth_tests = refl

between_at : (a n m : ℕ) → between a n ≡ true → a ≤ m → m < a + n → sums_test m ≡ true
unfolding between
between_at a zero m h l k = absurd (omega (arith, l, k))
between_at a (suc n) m h l k =
    let (p, q) = and_parts (sums_test (a + n)) (between a n) h in
    ⊎_elim
    (λ d. between_at a n m q l d)
    (λ d. let e : a + n ≡ m = omega (arith, k, d) in subst (λ x. sums_test x ≡ true) e p)
    (cases_lt m (a + n))

sums_tested : (n : ℕ) → n ≤ 255 → sums_test n ≡ true
sums_tested n l =
    ⊎_elim
    (λ a. between_at 0 100 n first_tests (omega arith) (omega (arith, a)))
    (λ a. ⊎_elim
    (λ b. between_at 100 60 n second_tests (omega (arith, a)) (omega (arith, b)))
    (λ b. ⊎_elim
    (λ c. between_at 160 40 n third_tests (omega (arith, b)) (omega (arith, c)))
    (λ c. between_at 200 56 n fourth_tests (omega (arith, c)) (omega (arith, l)))
    (cases_lt n 200))
    (cases_lt n 160))
    (cases_lt n 100)

unfoldable times_shifted : ℕ → List ℕ → List ℕ
times_shifted zero h = h
times_shifted (suc i) h = times_shifted i (shifted h)

walk_at : (a : ℕ) (rest h s : List ℕ) (i : ℕ) → walk a rest h s ≡ true → i < length rest → nat_dot (times_shifted i h) s + slice_index rest i ≡ a
unfolding walk times_shifted
walk_at a [] h s i e l = absurd (omega (arith, l))
walk_at a (x ∷ rest) h s zero e l = let (p, q) = and_parts (nat_dot h s + x == a) (walk a rest (shifted h) s) e in eqb-true (nat_dot h s + x) a p
walk_at a (x ∷ rest) h s (suc i) e l =
    let (p, q) = and_parts (nat_dot h s + x == a) (walk a rest (shifted h) s) e in
    walk_at a rest (shifted h) s i q (omega (arith, l))

record Walked (a z : ℕ) (h s : List ℕ) : Type 0 where
  first : nat_dot h s ≡ z
  none : slice_index s 0 ≡ 0
  others : (i : ℕ) → suc i < length s → nat_dot (times_shifted (suc i) h) s + slice_index s (suc i) ≡ a

walked : (a z : ℕ) (h s : List ℕ) → walk_from a z h s ≡ true → Walked a z h s
unfolding walk_from times_shifted
walked a z h [] e = absurd (true≢false (sym e))
walked a z h (x ∷ rest) e =
    let (p, r) = and_parts (nat_dot h (x ∷ rest) == z) ((x == 0) && walk a rest (shifted h) (x ∷ rest)) e in
    let (q, t) = and_parts (x == 0) (walk a rest (shifted h) (x ∷ rest)) r in
    record {
      first = eqb-true (nat_dot h (x ∷ rest)) z p;
      none = eqb-true x 0 q;
      others = λ i l. walk_at a rest (shifted h) (x ∷ rest) i t (omega (arith, l));
    }

shifts_are : (n i k : ℕ) (h : List ℕ) → k + i ≤ n → times_shifted i (cyclic_shift n k h) ≡ cyclic_shift n (k + i) h
unfolding times_shifted
shifts_are n zero k h l = let e : k ≡ k + 0 = omega arith in ap (λ j. cyclic_shift n j h) e
shifts_are n (suc i) k h l =
    let m : k < n = omega (arith, l) in
    let e : suc k + i ≡ k + suc i = omega arith in
    ap (times_shifted i) (shifted_is n (cyclic_shift n k h) (length_shift n k h) ∙ shift_after n k h m) ∙ shifts_are n i (suc k) h (omega (arith, l)) ∙ ap (λ j. cyclic_shift n j h) e

times_shifted_is : (n i : ℕ) (h : List ℕ) → length h ≡ n → i ≤ n → times_shifted i h ≡ cyclic_shift n i h
times_shifted_is n i h e l =
    let z : 0 + i ≡ i = omega arith in
    ap (times_shifted i) (sym (shift_none n h e)) ∙ shifts_are n i 0 h (omega (arith, l)) ∙ ap (λ j. cyclic_shift n j h) z

abbrev zeroth : ℕ → ℕ
zeroth n = if n % 4 == 1 then 2 * quarter n else 0

bits_walked : (n : ℕ) → n ≤ 255 → is_odd_prime n ≡ true → Walked (quarter n) (zeroth n) (turned n (bits n)) (bits n)
unfolding sums_test sums_test_of
bits_walked n l h =
    let t : sums_test n ≡ true = sums_tested n l in
    let s : sums_test_of n (bits n) ≡ true = rw h at t in
    walked (quarter n) (zeroth n) (turned n (bits n)) (bits n) s

pub length_turned : (n : ℕ) (w : List ℕ) → length (turned n w) ≡ n
unfolding turned
length_turned n w = length_mapped (λ i. slice_index w ((n - i) % n)) n

pub length_bits : (n : ℕ) → length (bits n) ≡ n
unfolding bits
length_bits n = length_mapped (λ j. if j ^ ((n - 1) / 2) % n == 1 then 1 else 0) n

pub index_bits : (n i : ℕ) → i < n → slice_index (bits n) i ≡ (if i ^ ((n - 1) / 2) % n == 1 then 1 else 0)
unfolding bits
index_bits n i l = index_mapped (λ j. if j ^ ((n - 1) / 2) % n == 1 then 1 else 0) n i l

pub bits_zero : (n : ℕ) → n ≤ 255 → is_odd_prime n ≡ true → slice_index (bits n) 0 ≡ 0
bits_zero n l h = (bits_walked n l h).none

pub sums_at_zero : (n : ℕ) → n ≤ 255 → is_odd_prime n ≡ true → nat_dot (turned n (bits n)) (bits n) ≡ (if n % 4 == 1 then 2 * quarter n else 0)
sums_at_zero n l h = (bits_walked n l h).first

pub sums_elsewhere : (n m : ℕ) → n ≤ 255 → is_odd_prime n ≡ true → m < n → m ≢ 0 → nat_dot (cyclic_shift n m (turned n (bits n))) (bits n) + slice_index (bits n) m ≡ quarter n
sums_elsewhere n zero l h k z = absurd (z refl)
sums_elsewhere n (suc m) l h k z =
    let e : nat_dot (times_shifted (suc m) (turned n (bits n))) (bits n) + slice_index (bits n) (suc m) ≡ quarter n = (bits_walked n l h).others m (omega (arith, k, length_bits n)) in
    ap (λ w. nat_dot w (bits n) + slice_index (bits n) (suc m)) (sym (times_shifted_is n (suc m) (turned n (bits n)) (length_turned n (bits n)) (omega (arith, k)))) ∙ e
