-- When concatenated codes are refused.
--   power_first, power_next, power_most, none_more      its powers up to the eighth, one by one
--   degree_found, degree_at, degree_none      the exponent that the loop finds
--   no_power, other_dimension, nested_too_long, nested_fine      the first refusal
use Rattle.std.proofs.Common.{◌≡◌, ◌≢◌, ℕ, zero, suc, ◌+◌, ◌-◌, ◌*◌, ◌^◌, ◌<◌, ◌≤◌, Bool, true, false, ◌==◌, List, [], ◌∷◌, length, Some, None, refl, sym, ap, ◌∙◌, ⊎_elim, arith}
use Rattle.std.specs.Prelude.{find}
use Rattle.std.proofs.Math.Nat.{pow-suc, pow-zero, mul-le-mul, pow-le-pow_left, pow-le-pow_right}
use Rattle.std.proofs.lemmas.Bool.{cases_eq, eq-eqb, ne_eqb}
use Rattle.lc_algebra.specs.Field.{size}
use Rattle.lc_algebra.specs.Matrix.{Matrix}
use Rattle.lc_algebra.proofs.CommonLaws.{find_here, find_later}
use Rattle.lc_constructions.specs.declared.refusal.CodeRefusal.TheVariants.{BadLength, FieldsDiffer, InnerDimension}
use Rattle.lc_constructions.specs.Refusal.{refuse_if, first_refusal}
use Rattle.lc_constructions.specs.Refusals.{bad_length, degree_over, nested_refusals, concatenated_refusals}
use Rattle.lc_constructions.proofs.RefusalLaws.{long_length, short_length}
use Rattle.lc_code.proofs.CoordinateSteps.{small_size}

pub power_first : (q : ℕ) → 1 ≡ q ^ (1 - 1)
power_first q = sym (pow-zero q)

pub power_next : (q s p : ℕ) → 1 ≤ s → p ≡ q ^ (s - 1) → p * q ≡ q ^ (s + 1 - 1)
power_next q zero p b e = absurd (omega (arith, b))
power_next q (suc s) p b e =
    let k : suc s - 1 ≡ s = omega arith in
    let m : suc s + 1 - 1 ≡ suc s = omega arith in
    ap (λ x. x * q) (e ∙ ap (λ m. q ^ m) k) ∙ sym (pow-suc q s) ∙ ap (λ x. q ^ x) (sym m)

pub power_most : (q s p : ℕ) → q ≤ 16 → s < 9 → p ≡ q ^ (s - 1) → p * q < 2 ^ 64
power_most q s p a l e =
    let most : q ^ (s - 1) ≤ 16 ^ (s - 1) = pow-le-pow_left a (s - 1) in
    let up : 16 ^ (s - 1) ≤ 16 ^ 7 = pow-le-pow_right {n = 16} (omega arith) {i = s - 1} {j = 7} (omega (arith, l)) in
    let n : p ≤ 16 ^ 7 = omega (arith, e, most, up) in
    let whole : p * q ≤ 16 ^ 7 * 16 = mul-le-mul n a in
    let small : 16 ^ 7 * 16 < 2 ^ 64 = omega arith in
    omega (arith, whole, small)

pub none_more : (q Q s p : ℕ) → 1 ≤ s → ((j : ℕ) → 1 ≤ j → j < s → q ^ j ≢ Q) → p ≡ q ^ (s - 1) → p * q ≢ Q → (j : ℕ) → 1 ≤ j → j < s + 1 → q ^ j ≢ Q
none_more q Q s p b h e o j x y =
    ⊎_elim
    (λ k. λ t. let m : s + 1 - 1 ≡ s = omega arith in o (power_next q s p b e ∙ ap (λ z. q ^ z) (m ∙ sym k) ∙ t))
    (λ k. h j x (omega (arith, y, k)))
    (cases_eq j s)

unfoldable from : ℕ → ℕ → List ℕ
from k zero = []
from k (suc n) = k ∷ from (suc k) n

find_from : (p : ℕ → Bool) (k n s : ℕ) → k ≤ s → s < k + n → p s ≡ true → ((j : ℕ) → k ≤ j → j < s → p j ≡ false) → find p (from k n) ≡ Some s
unfolding from
find_from p k zero s a b e h = absurd (omega (arith, a, b))
find_from p k (suc n) s a b e h =
    ⊎_elim
    (λ q. find_here p k (from (suc k) n) (ap p q ∙ e) ∙ ap (λ x. Some x) q)
    (λ q. find_later p k (from (suc k) n) (h k (omega arith) (omega (arith, a, q))) ∙ find_from p (suc k) n s (omega (arith, a, q)) (omega (arith, b)) e (λ j x y. h j (omega (arith, x)) y))
    (cases_eq k s)

find_none : (p : ℕ → Bool) (k n : ℕ) → ((j : ℕ) → k ≤ j → j < k + n → p j ≡ false) → find p (from k n) ≡ None
unfolding from
find_none p k zero h = refl
find_none p k (suc n) h = find_later p k (from (suc k) n) (h k (omega arith) (omega arith)) ∙ find_none p (suc k) n (λ j x y. h j (omega (arith, x)) (omega (arith, y)))

degrees : (q Q : ℕ) → degree_over q Q ≡ find (λ s. q ^ s == Q) (from 1 8)
unfolding degree_over from
degrees q Q = refl

pub degree_found : (q Q s : ℕ) → 1 ≤ s → s < 9 → q ^ s ≡ Q → ((j : ℕ) → 1 ≤ j → j < s → q ^ j ≢ Q) → degree_over q Q ≡ Some s
degree_found q Q s a b e h = degrees q Q ∙ find_from (λ s. q ^ s == Q) 1 8 s a (omega (arith, b)) (eq-eqb (q ^ s) Q e) (λ j x y. ne_eqb (q ^ j) Q (h j x y))

pub degree_at : (q Q s p : ℕ) → 1 ≤ s → s < 9 → ((j : ℕ) → 1 ≤ j → j < s → q ^ j ≢ Q) → p ≡ q ^ (s - 1) → p * q ≡ Q → degree_over q Q ≡ Some s
degree_at q Q s p b l h e o =
    let m : s + 1 - 1 ≡ s = omega arith in
    degree_found q Q s b l (sym (power_next q s p b e ∙ ap (λ z. q ^ z) m) ∙ o) h

pub degree_none : (q Q : ℕ) → ((j : ℕ) → 1 ≤ j → j < 9 → q ^ j ≢ Q) → degree_over q Q ≡ None
degree_none q Q h = degrees q Q ∙ find_none (λ s. q ^ s == Q) 1 8 (λ j x y. ne_eqb (q ^ j) Q (h j x (omega (arith, y))))

pub no_power : (C D : Matrix) → degree_over (size D.field) (size C.field) ≡ None → first_refusal (concatenated_refusals C D) ≡ Some FieldsDiffer
unfolding first_refusal concatenated_refusals nested_refusals
no_power C D e = rw e refl

nested : (C D : Matrix) (s : ℕ) → degree_over (size D.field) (size C.field) ≡ Some s → first_refusal (concatenated_refusals C D) ≡ first_refusal (nested_refusals C D (Some s))
unfolding concatenated_refusals
nested C D s e = ap (λ o. first_refusal (nested_refusals C D o)) e

pub other_dimension : (C D : Matrix) (s : ℕ) → degree_over (size D.field) (size C.field) ≡ Some s → length D.rows ≢ s → first_refusal (concatenated_refusals C D) ≡ Some (InnerDimension (length D.rows) s)
unfolding first_refusal refuse_if bad_length nested_refusals
other_dimension C D s e d = nested C D s e ∙ (rw (ne_eqb (length D.rows) s d) refl)

pub nested_too_long : (C D : Matrix) (s : ℕ) → degree_over (size D.field) (size C.field) ≡ Some s → length D.rows ≡ s → 255 < C.columns * D.columns → first_refusal (concatenated_refusals C D) ≡ Some BadLength
unfolding first_refusal refuse_if bad_length nested_refusals
nested_too_long C D s e d l = nested C D s e ∙ (rw (eq-eqb (length D.rows) s d, long_length (C.columns * D.columns) l) refl)

pub nested_fine : (C D : Matrix) (s : ℕ) → degree_over (size D.field) (size C.field) ≡ Some s → length D.rows ≡ s → 1 ≤ C.columns * D.columns → C.columns * D.columns ≤ 255 → first_refusal (concatenated_refusals C D) ≡ None
unfolding first_refusal refuse_if bad_length nested_refusals
nested_fine C D s e d a l = nested C D s e ∙ (rw (eq-eqb (length D.rows) s d, short_length (C.columns * D.columns) a l) refl)

pub ruleset check_concatenated_laws = (no_power, small_size)

pub ruleset check_nested_laws = (other_dimension, nested_too_long, nested_fine)

pub ruleset degree_over_laws = (power_first, power_next, power_most, none_more, degree_at, degree_none)
