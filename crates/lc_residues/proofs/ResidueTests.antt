-- Odd primes and quadratic residues, by what their tests say.
--   passes_each            a test that each number below n passes
--   prime_parts, prime_from      an odd prime is above 2, and none of the numbers from 2 to n - 1 divides it
--   no_small_prime, no_prime, prime_told      what the loop finds is the test
--   residue_parts, residue_from  a residue is no multiple of n, and is the square of some number below n
--   no_residue, no_square, residue_told       what the loop finds is the test
--   square_small           the square of a number below 256
use Rattle.std.proofs.Common.{◌≡◌, ◌≢◌, ℕ, ◌*◌, ◌%◌, ◌<◌, ◌≤◌, Bool, true, false, not, nat_lt, ◌==◌, ◌||◌, slice_index_or, refl, sym, ap, ◌∙◌, ⊎_elim, arith, true≢false}
use Rattle.std.specs.List.{list_any, list_all}
use Rattle.std.proofs.Math.Nat.{mul-le-mul_left, mul-le-mul_right}
use Rattle.std.proofs.lemmas.Bool.{cases_lt, ne_eqb, eq-eqb, eqb-true, and_parts, not-true, false_from_ne_true}
use Rattle.std.proofs.lemmas.Bool.Decides.{Decides-ltb}
use Rattle.std.proofs.lemmas.List.Folds.{list_any_at}
use Rattle.std.proofs.lemmas.List.Sums.{list_all-from_AllPass}
use Rattle.lc_algebra.specs.Span.{below}
use Rattle.lc_algebra.proofs.SpanLaws.{below_contains, contains_below, length_below, index_below}
use Rattle.lc_algebra.proofs.SpanSearch.{any_contains}
use Rattle.lc_constructions.proofs.ExpansionLaws.{passes}
use Rattle.lc_language.specs.QuadraticResidues.{is_odd_prime, is_residue}

passes_each : (p : ℕ → Bool) (n : ℕ) → ((k : ℕ) → k < n → p k ≡ true) → list_all p (below n) ≡ true
passes_each p n h =
    list_all-from_AllPass p (below n) (λ k d l.
    let m : k < n = omega (arith, l, length_below n) in
    ap p (index_below n k d m) ∙ h k m)

abbrev divides_not : ℕ → ℕ → Bool
divides_not n d = nat_lt d 2 || not (n % d == 0)

pub prime_parts : (n : ℕ) → is_odd_prime n ≡ true → (2 < n) × ((d : ℕ) → 2 ≤ d → d < n → n % d ≢ 0)
unfolding is_odd_prime
prime_parts n h =
    let (a, b) = and_parts (nat_lt 2 n) (list_all (divides_not n) (below n)) h in (
      (Decides-ltb 2 n).0 a,
      (λ d l m e.
          let t : divides_not n d ≡ true = passes (divides_not n) (below n) d b (below_contains n d m) in
          let s : nat_lt d 2 ≡ false = false_from_ne_true (nat_lt d 2) (λ q. absurd (omega (arith, l, (Decides-ltb d 2).0 q))) in
          let u : not (n % d == 0) ≡ true = rw s at t in
          absurd (true≢false (sym (eq-eqb (n % d) 0 e) ∙ not-true (n % d == 0) u))),
    )

pub prime_from : (n : ℕ) → 2 < n → ((d : ℕ) → 2 ≤ d → d < n → n % d ≢ 0) → is_odd_prime n ≡ true
unfolding is_odd_prime
prime_from n l h =
    let a : nat_lt 2 n ≡ true = (Decides-ltb 2 n).1 l in
    let b : list_all (divides_not n) (below n) ≡ true = passes_each (divides_not n) n (λ d m.
    ⊎_elim
    (λ q. let t : nat_lt d 2 ≡ true = (Decides-ltb d 2).1 q in rw t refl)
    (λ q.
    let s : nat_lt d 2 ≡ false = false_from_ne_true (nat_lt d 2) (λ r. absurd (omega (arith, q, (Decides-ltb d 2).0 r))) in
    let t : (n % d == 0) ≡ false = ne_eqb (n % d) 0 (h d (omega (arith, q)) m) in
    rw (s, t) refl)
    (cases_lt d 2)) in
    rw (a, b) refl

pub no_small_prime : (n : ℕ) → n ≤ 2 → false ≡ is_odd_prime n
no_small_prime n l = sym (false_from_ne_true (is_odd_prime n) (λ h. omega (arith, l, (prime_parts n h).0)))

pub no_prime : (n d : ℕ) → 2 ≤ d → d < n → n % d ≡ 0 → false ≡ is_odd_prime n
no_prime n d l m e = sym (false_from_ne_true (is_odd_prime n) (λ h. (prime_parts n h).1 d l m e))

pub prime_told : (n : ℕ) → 2 < n → ((d : ℕ) → 2 ≤ d → d < n → n % d ≢ 0) → true ≡ is_odd_prime n
prime_told n l h = sym (prime_from n l h)

pub residue_parts : (n a : ℕ) → is_residue n a ≡ true → (a % n ≢ 0) × ((j : ℕ) × (j < n) × (j * j % n ≡ a % n))
unfolding is_residue
residue_parts n a h =
    let (p, q) = and_parts (not (a % n == 0)) (list_any (λ j. j * j % n == a % n) (below n)) h in
    let (j, c, t) = any_contains (λ j. j * j % n == a % n) (below n) q in (
      (λ e. true≢false (sym (eq-eqb (a % n) 0 e) ∙ not-true (a % n == 0) p)),
      (j, contains_below n j c, eqb-true (j * j % n) (a % n) t),
    )

pub residue_from : (n a j : ℕ) → a % n ≢ 0 → j < n → j * j % n ≡ a % n → is_residue n a ≡ true
unfolding is_residue
residue_from n a j h l e =
    let p : (a % n == 0) ≡ false = ne_eqb (a % n) 0 h in
    let t : (slice_index_or (below n) j 0 * slice_index_or (below n) j 0 % n == a % n) ≡ true = rw (index_below n j 0 l) (eq-eqb (j * j % n) (a % n) e) in
    let q : list_any (λ j. j * j % n == a % n) (below n) ≡ true = list_any_at (λ j. j * j % n == a % n) (below n) j 0 (omega (arith, l, length_below n)) t in
    rw (p, q) refl

pub no_residue : (n a : ℕ) → a % n ≡ 0 → false ≡ is_residue n a
no_residue n a e = sym (false_from_ne_true (is_residue n a) (λ h. (residue_parts n a h).0 e))

pub no_square : (n a : ℕ) → ((j : ℕ) → j < n → j * j % n ≢ a % n) → false ≡ is_residue n a
no_square n a h = sym (false_from_ne_true (is_residue n a) (λ t. let (j, l, e) = (residue_parts n a t).1 in h j l e))

pub residue_told : (n a j : ℕ) → a % n ≢ 0 → j < n → j * j % n ≡ a % n → true ≡ is_residue n a
residue_told n a j h l e = sym (residue_from n a j h l e)

pub square_small : (j n : ℕ) → j < n → n ≤ 255 → j * j ≤ 65025
square_small j n l m =
    let a : j ≤ 255 = omega (arith, l, m) in
    omega (arith, mul-le-mul_right j a, mul-le-mul_left 255 a)

pub ruleset is_odd_prime_laws = (no_small_prime, no_prime, prime_told)

pub ruleset is_residue_laws = (no_residue, no_square, residue_told, square_small)
