-- Quadratic residues by Euler's criterion, from a test of each prime below 256: a nonzero number below n is a residue exactly if its
-- power (n - 1) / 2 is 1 modulo n, and else this power is n - 1.
--   square_below n a k     a is the square of a number below k modulo n
--   euler_test n a         the criterion at a, and that the power n - 2 of a is its inverse
--   character              the power (n - 1) / 2
--   inverse_there          each number that isn't 0 modulo n has an inverse
--   criterion              the criterion as a test
--   residue_times, other_times       a residue times i is a residue exactly if i is; another number times i exactly if i isn't
use Rattle.std.proofs.Common.{◌≡◌, ◌≢◌, ℕ, zero, suc, ◌-◌, ◌*◌, ◌/◌, ◌%◌, ◌^◌, ◌<◌, ◌≤◌, Bool, true, false, not, if◌then◌else◌, ◌==◌, ◌&&◌, ◌||◌, refl, sym, ap, ap₂, subst, ◌∙◌, ⊎_elim, arith, true≢false}
use Rattle.std.proofs.Math.Nat.{mod-lt, mod-mod, mod-eq_of_lt, mul_comm, mul_assoc, one-mul, mul-one, mul-zero, zero-mod}
use Rattle.std.proofs.Math.Bool.{or-true}
use Rattle.std.proofs.lemmas.Nat.{mul-mod_first, mul-mod_second, mul-pow}
use Rattle.std.proofs.lemmas.Bool.{cases_lt, ne_eqb, eq-eqb, eqb-true, and_parts, or_cases}
use Rattle.lc_algebra.specs.Span.{below}
use Rattle.lc_algebra.proofs.CommonLaws.{same_test}
use Rattle.lc_algebra.proofs.FieldTests.{below as each_below, below_each}
use Rattle.lc_language.specs.QuadraticResidues.{is_odd_prime, is_residue}
use Rattle.lc_residues.proofs.ResidueTests.{prime_parts, residue_parts, residue_from}
use Rattle.lc_residues.proofs.ModLaws.{power_mod}

unfoldable pub square_below : ℕ → ℕ → ℕ → Bool
square_below n a zero = false
square_below n a (suc k) = (k * k % n == a) || square_below n a k

unfoldable euler_test : ℕ → ℕ → Bool
euler_test n a = (a == 0) || ((a ^ ((n - 1) / 2) % n == (if square_below n a n then 1 else n - 1)) && (a * (a ^ (n - 2)) % n == 1))

unfoldable prime_test : ℕ → Bool
prime_test n = not (is_odd_prime n) || (each_below (euler_test n) n && ((n - 1) * (n - 1) % n == 1))

prime_tests : each_below prime_test 256 ≡ true
unfolding each_below prime_test euler_test square_below is_odd_prime below
prime_tests = refl

square_from : (n a j k : ℕ) → j < k → j * j % n ≡ a → square_below n a k ≡ true
unfolding square_below
square_from n a j zero l e = absurd (omega (arith, l))
square_from n a j (suc k) l e =
    ⊎_elim
    (λ m. let t : square_below n a k ≡ true = square_from n a j k m e in ap (λ b. (k * k % n == a) || b) t ∙ or-true (k * k % n == a))
    (λ m.
    let s : j ≡ k = omega (arith, l, m) in
    let t : (k * k % n == a) ≡ true = eq-eqb (k * k % n) a (subst (λ i. i * i % n ≡ a) s e) in
    rw t refl)
    (cases_lt j k)

square_is : (n a k : ℕ) → square_below n a k ≡ true → (j : ℕ) × (j < k) × (j * j % n ≡ a)
unfolding square_below
square_is n a zero h = absurd (true≢false (sym h))
square_is n a (suc k) h =
    ⊎_elim
    (λ t. (k, omega arith, eqb-true (k * k % n) a t))
    (λ t. let (j, l, e) = square_is n a k t in (j, omega (arith, l), e))
    (or_cases (k * k % n == a) (square_below n a k) h)

pub residue_by_squares : (n a : ℕ) → a < n → a ≢ 0 → is_residue n a ≡ square_below n a n
residue_by_squares n a l z =
    let same : a % n ≡ a = mod-eq_of_lt l in
    same_test (is_residue n a) (square_below n a n)
    (λ h. let (j, m, e) = (residue_parts n a h).1 in square_from n a j n m (e ∙ same))
    (λ h. let (j, m, e) = square_is n a n h in residue_from n a j (λ q. z (sym same ∙ q)) m (e ∙ sym same))

abbrev sign : ℕ → Bool → ℕ
sign n b = if b then 1 else n - 1

record Euler (n a : ℕ) : Type 0 where
  character : a ^ ((n - 1) / 2) % n ≡ sign n (is_residue n a)
  inverse : a * (a ^ (n - 2)) % n ≡ 1

-- what is told of an odd prime
prime_told : (n : ℕ) → n ≤ 255 → is_odd_prime n ≡ true → (each_below (euler_test n) n ≡ true) × ((n - 1) * (n - 1) % n ≡ 1)
unfolding prime_test
prime_told n l h =
    let t : prime_test n ≡ true = below_each prime_test 256 prime_tests n (omega (arith, l)) in
    let s : (each_below (euler_test n) n && ((n - 1) * (n - 1) % n == 1)) ≡ true = rw h at t in
    let (a, b) = and_parts (each_below (euler_test n) n) ((n - 1) * (n - 1) % n == 1) s in
    (a, eqb-true ((n - 1) * (n - 1) % n) 1 b)

euler : (n a : ℕ) → n ≤ 255 → is_odd_prime n ≡ true → a < n → a ≢ 0 → Euler n a
unfolding euler_test
euler n a l h m z =
    let t : euler_test n a ≡ true = below_each (euler_test n) n (prime_told n l h).0 a m in
    let no : (a == 0) ≡ false = ne_eqb a 0 z in
    let s : ((a ^ ((n - 1) / 2) % n == sign n (square_below n a n)) && (a * (a ^ (n - 2)) % n == 1)) ≡ true = rw no at t in
    let (p, q) = and_parts (a ^ ((n - 1) / 2) % n == sign n (square_below n a n)) (a * (a ^ (n - 2)) % n == 1) s in
    record {
      character = eqb-true (a ^ ((n - 1) / 2) % n) (sign n (square_below n a n)) p ∙ ap (sign n) (sym (residue_by_squares n a m z));
      inverse = eqb-true (a * (a ^ (n - 2)) % n) 1 q;
    }

positive : (n : ℕ) → is_odd_prime n ≡ true → 2 < n
positive n h = (prime_parts n h).0

pub inverse_there : (n a : ℕ) → n ≤ 255 → is_odd_prime n ≡ true → a % n ≢ 0 → (u : ℕ) × (a * u % n ≡ 1)
inverse_there n a l h z =
    let u = (a % n) ^ (n - 2) in
    (u, sym (mul-mod_first a u n) ∙ (euler n (a % n) l h (mod-lt a (omega (arith, positive n h))) z).inverse)

-- a u is 1, so a (u k) is k
pub inverse_times : (n a u k : ℕ) → a * u % n ≡ 1 → a * (u * k % n) % n ≡ k % n
inverse_times n a u k e =
    mul-mod_second a (u * k) n ∙ ap (λ m. m % n) (sym (mul_assoc a u k)) ∙ sym (mul-mod_first (a * u) k n) ∙ ap (λ m. m * k % n) e ∙ ap (λ m. m % n) (one-mul k)

pub product_nonzero : (n a i : ℕ) → n ≤ 255 → is_odd_prime n ≡ true → a % n ≢ 0 → i < n → i ≢ 0 → a * i % n ≢ 0
product_nonzero n a i l h z m o e =
    let (u, k) = inverse_there n a l h z in
    let turned : u * a % n ≡ 1 = ap (λ m. m % n) (mul_comm u a) ∙ k in
    let back : u * (a * i % n) % n ≡ i % n = inverse_times n u a i turned in
    o (sym (mod-eq_of_lt m) ∙ sym back ∙ ap (λ j. u * j % n) e ∙ ap (λ j. j % n) (mul-zero u) ∙ zero-mod n)

sign_inside : (n : ℕ) (b : Bool) → 2 < n → sign n b < n
sign_inside n true l = omega (arith, l)
sign_inside n false l = omega (arith, l)

sign_told : (n : ℕ) (a b : Bool) → 2 < n → sign n a ≡ sign n b → a ≡ b
sign_told n true true l e = refl
sign_told n true false l e = absurd (omega (arith, l, e))
sign_told n false true l e = absurd (omega (arith, l, e))
sign_told n false false l e = refl

residue_mod : (n a : ℕ) → is_residue n (a % n) ≡ is_residue n a
unfolding is_residue
residue_mod n a = rw (mod-mod a n) refl

character_mod : (n a : ℕ) → n ≤ 255 → is_odd_prime n ≡ true → a % n ≢ 0 → a ^ ((n - 1) / 2) % n ≡ sign n (is_residue n a)
character_mod n a l h z =
    sym (power_mod n a ((n - 1) / 2)) ∙ (euler n (a % n) l h (mod-lt a (omega (arith, positive n h))) z).character ∙ ap (sign n) (residue_mod n a)

character_times : (n a i k : ℕ) → (a * i % n) ^ k % n ≡ (a ^ k % n) * (i ^ k % n) % n
character_times n a i k =
    power_mod n (a * i) k ∙ ap (λ m. m % n) (mul-pow a i k) ∙ sym (mul-mod_first (a ^ k) (i ^ k) n) ∙ sym (mul-mod_second (a ^ k % n) (i ^ k) n)

signs_times : (n a i : ℕ) → n ≤ 255 → is_odd_prime n ≡ true → a % n ≢ 0 → i < n → i ≢ 0 → sign n (is_residue n (a * i % n)) ≡ sign n (is_residue n a) * sign n (is_residue n i) % n
signs_times n a i l h z m o =
    let p : 0 < n = omega (arith, positive n h) in
    let k = (n - 1) / 2 in
    let product : (a * i % n) ^ k % n ≡ sign n (is_residue n (a * i % n)) = (euler n (a * i % n) l h (mod-lt (a * i) p) (product_nonzero n a i l h z m o)).character in
    sym product ∙ character_times n a i k ∙ ap₂ (λ x y. x * y % n) (character_mod n a l h z) (euler n i l h m o).character

pub residue_times : (n a i : ℕ) → n ≤ 255 → is_odd_prime n ≡ true → is_residue n a ≡ true → i < n → i ≢ 0 → is_residue n (a * i % n) ≡ is_residue n i
residue_times n a i l h r m o =
    let p = positive n h in
    let e = signs_times n a i l h (residue_parts n a r).0 m o in
    let s : sign n (is_residue n a) * sign n (is_residue n i) % n ≡ sign n (is_residue n i) = ap (λ b. sign n b * sign n (is_residue n i) % n) r ∙ ap (λ m. m % n) (one-mul (sign n (is_residue n i))) ∙ mod-eq_of_lt (sign_inside n (is_residue n i) p) in
    sign_told n (is_residue n (a * i % n)) (is_residue n i) p (e ∙ s)

turned_sign : (n : ℕ) (b : Bool) → 2 < n → (n - 1) * (n - 1) % n ≡ 1 → (n - 1) * sign n b % n ≡ sign n (not b)
turned_sign n true l e = ap (λ m. m % n) (mul-one (n - 1)) ∙ mod-eq_of_lt (omega (arith, l))
turned_sign n false l e = e

pub other_times : (n a i : ℕ) → n ≤ 255 → is_odd_prime n ≡ true → a % n ≢ 0 → is_residue n a ≡ false → i < n → i ≢ 0 → is_residue n (a * i % n) ≡ not (is_residue n i)
other_times n a i l h z r m o =
    let p = positive n h in
    let e = signs_times n a i l h z m o in
    let s : sign n (is_residue n a) * sign n (is_residue n i) % n ≡ sign n (not (is_residue n i)) = ap (λ b. sign n b * sign n (is_residue n i) % n) r ∙ turned_sign n (is_residue n i) p (prime_told n l h).1 in
    sign_told n (is_residue n (a * i % n)) (not (is_residue n i)) p (e ∙ s)

sign_one : (n : ℕ) (b : Bool) → 2 < n → (sign n b == 1) ≡ b
sign_one n true l = refl
sign_one n false l = ne_eqb (n - 1) 1 (λ e. omega (arith, l, e))

pub criterion : (n a : ℕ) → n ≤ 255 → is_odd_prime n ≡ true → a < n → a ≢ 0 → (a ^ ((n - 1) / 2) % n == 1) ≡ is_residue n a
criterion n a l h m z = ap (λ k. k == 1) (euler n a l h m z).character ∙ sign_one n (is_residue n a) (positive n h)
