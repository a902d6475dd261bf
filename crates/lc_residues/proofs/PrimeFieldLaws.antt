-- The residues of numbers in the prime field, and the two periods of a length.
--   add_residues           the sum of two residues is the residue of the sum
--   residue_inside         a residue is an element
--   periods_apart          the other period is a period, and another element
--   period_product         the product of the two periods is their polynomial's constant coefficient
--   period_sum             minus the period and minus the other one have the sum 1
use Rattle.std.proofs.Common.{◌≡◌, ◌≢◌, ℕ, zero, suc, ◌+◌, ◌-◌, ◌/◌, ◌%◌, ◌<◌, ◌≤◌, Bool, true, false, not, if◌then◌else◌, ◌==◌, ◌&&◌, ◌||◌, List, length, replicate, IsTrue, refl, sym, ap, ap₂, ◌∙◌, arith, true≢false}
use Rattle.std.specs.List.{list_all}
use Rattle.std.proofs.Math.Nat.{mod-lt, mod-mod, add-mod, div-eq_of_lt}
use Rattle.std.proofs.lemmas.Bool.{and_parts, not-true, eq-eqb, eqb-true}
use Rattle.std.proofs.lemmas.List.{length-replicate}
use Rattle.lc_algebra.specs.declared.FieldName.{FieldName}
use Rattle.lc_algebra.specs.declared.FieldName.TheVariants.{Gf2}
use Rattle.lc_algebra.specs.Residue.{digits, number, plus, minus, times, top, up, times_x, product}
use Rattle.lc_algebra.specs.Field.{shape, shape_of, size, is_symbol, coefficients, add, neg, mul}
use Rattle.lc_algebra.specs.Span.{below}
use Rattle.lc_algebra.proofs.ResidueLaws.{plus_zero, residues_digits, digits_zero}
use Rattle.lc_algebra.proofs.SpanLaws.{below_contains}
use Rattle.lc_algebra.proofs.FieldTests.{positive, characteristic_inside, below as each_below, below_each}
use Rattle.lc_algebra.proofs.FieldLaws.{told_by_coefficients, coefficients_add, add_inside, neg_inside, mul_inside, add_assoc, add_neg, add_zero, neg_neg, negative_unique, mul_neg, neg_mul, mul_add, mul_one, one_inside}
use Rattle.lc_constructions.proofs.ExpansionLaws.{passes}
use Rattle.lc_language.specs.QuadraticResidues.{is_odd_prime, is_residue, is_residue_length, period_norm, is_period}
use Rattle.lc_residues.specs.Periods.{other_period}

zeros_sum : (p s : ℕ) → 0 < p → plus p (digits p s 0) (digits p s 0) ≡ digits p s 0
zeros_sum p s h =
    let z = digits_zero p s in
    let long : length (digits p s 0) ≡ s = ap (λ (u : List ℕ). length u) z ∙ length-replicate s 0 in
    ap (λ u. plus p u (digits p s 0)) (z ∙ sym (ap (λ k. replicate k 0) long)) ∙ plus_zero p (digits p s 0) (residues_digits p s 0 h)

digits_sum : (p s x y : ℕ) → 0 < p → plus p (digits p s (x % p)) (digits p s (y % p)) ≡ digits p s ((x + y) % p)
unfolding digits plus
digits_sum p zero x y h = refl
digits_sum p (suc s) x y h =
    let gone : (z : ℕ) → z % p / p ≡ 0 = λ z. div-eq_of_lt (mod-lt z h) in
    let head : (x % p % p + y % p % p) % p ≡ (x + y) % p % p = ap₂ (λ a b. (a + b) % p) (mod-mod x p) (mod-mod y p) ∙ sym (add-mod x y p) ∙ sym (mod-mod (x + y) p) in
    cc (head, gone x, gone y, gone (x + y), zeros_sum p s h)

pub residue_inside : (f : FieldName) (x : ℕ) → x % (shape_of f).characteristic < size f
residue_inside f x = omega (arith, mod-lt x (positive f), characteristic_inside f)

pub add_residues : (f : FieldName) (x y : ℕ) → add f (x % (shape_of f).characteristic) (y % (shape_of f).characteristic) ≡ (x + y) % (shape_of f).characteristic
unfolding coefficients
add_residues f x y =
    let p = (shape_of f).characteristic in
    told_by_coefficients f (add f (x % p) (y % p)) ((x + y) % p) (add_inside f (x % p) (y % p)) (residue_inside f (x + y))
    (coefficients_add f (x % p) (y % p) ∙ digits_sum p (shape_of f).degree x y (positive f))

-- ---- the two periods

unfoldable apart_test : FieldName → ℕ → ℕ → Bool
apart_test f n t = not (is_period f n t) || (is_period f n (other_period f t) && not (t == other_period f t))

unfoldable periods_test : FieldName → ℕ → Bool
periods_test f n = not (is_symbol f) || (not (is_residue_length (size f) n) || list_all (apart_test f n) (below (size f)))

periods_tests : (f : FieldName) → each_below (periods_test f) 256 ≡ true
unfolding each_below periods_test apart_test other_period below digits number plus minus times top up times_x product shape shape_of size is_symbol coefficients add neg mul is_odd_prime is_residue is_residue_length period_norm is_period
periods_tests Gf2 = refl
periods_tests _ = refl

pub periods_apart : (f : FieldName) (n t : ℕ) → IsTrue (is_symbol f) → n ≤ 255 → IsTrue (is_residue_length (size f) n) → t < size f → is_period f n t ≡ true → (is_period f n (other_period f t) ≡ true) × (t ≢ other_period f t)
unfolding periods_test apart_test
periods_apart f n t a l b m e =
    let h : periods_test f n ≡ true = below_each (periods_test f) 256 (periods_tests f) n (omega (arith, l)) in
    let k : list_all (apart_test f n) (below (size f)) ≡ true = rw (a, b) at h in
    let s : apart_test f n t ≡ true = passes (apart_test f n) (below (size f)) t k (below_contains (size f) t m) in
    let r : (is_period f n (other_period f t) && not (t == other_period f t)) ≡ true = rw e at s in
    let (u, v) = and_parts (is_period f n (other_period f t)) (not (t == other_period f t)) r in
    (u, (λ q. true≢false (sym (eq-eqb t (other_period f t) q) ∙ not-true (t == other_period f t) v)))

chosen_inside : (f : FieldName) (b : Bool) (x y : ℕ) → (if b then neg f x else y % (shape_of f).characteristic) < size f
chosen_inside f true x y = neg_inside f x
chosen_inside f false x y = residue_inside f y

norm_inside : (f : FieldName) (n : ℕ) → period_norm f n < size f
unfolding period_norm
norm_inside f n = chosen_inside f (n % 4 == 1) ((n - 1) / 4 % (shape_of f).characteristic) ((n + 1) / 4)

pub period_product : (f : FieldName) (n t : ℕ) → t < size f → is_period f n t ≡ true → mul f (neg f t) (neg f (other_period f t)) ≡ period_norm f n
unfolding is_period other_period
period_product f n t m e =
    let o = neg f (add f t 1) in
    let square : add f (add f (mul f t t) t) (period_norm f n) ≡ 0 = eqb-true (add f (add f (mul f t t) t) (period_norm f n)) 0 e in
    let norm : period_norm f n ≡ neg f (add f (mul f t t) t) = negative_unique f (add f (mul f t t) t) (period_norm f n) (norm_inside f n) square in
    let grown : mul f t (add f t 1) ≡ add f (mul f t t) t = mul_add f t t 1 ∙ ap (add f (mul f t t)) (mul_one f t m) in
    neg_mul f t (neg f o) ∙ ap (neg f) (mul_neg f t o) ∙ neg_neg f (mul f t o) (mul_inside f t o) ∙ mul_neg f t (add f t 1) ∙ ap (neg f) grown ∙ sym norm

pub period_sum : (f : FieldName) (t : ℕ) → add f (neg f t) (neg f (other_period f t)) ≡ 1
unfolding other_period
period_sum f t =
    let o = neg f (add f t 1) in
    let first : add f 1 o ≡ neg f t = negative_unique f t (add f 1 o) (add_inside f 1 o) (sym (add_assoc f t 1 o) ∙ add_neg f (add f t 1)) in
    ap (λ a. add f a (neg f o)) (sym first) ∙ add_assoc f 1 o (neg f o) ∙ ap (add f 1) (add_neg f o) ∙ add_zero f 1 (one_inside f)
