-- Which polynomials divide x^n - 1, by what division leaves in place.
--   remainder_is_zero      what is left is 0 exactly if the divisor divides
--   taken_is               the list up to its last nonzero entry is the trimmed one
--   trimmed_fits           which is a polynomial
--   take_zeros             the first of some zeros
--   division_over          x^n - 1, written over zeros and divided in place
use Rattle.std.proofs.Common.{◌≡◌, ℕ, zero, suc, ◌+◌, ◌-◌, ◌<◌, ◌≤◌, ◌↔◌, List, [], ◌∷◌, length, slice_index, take, drop, set, replicate, Bool, IsTrue, refl, sym, ap, subst, ◌∙◌, ⊎_elim, arith}
use Rattle.std.proofs.lemmas.Bool.{cases_lt}
use Rattle.std.proofs.lemmas.List.{get_or_past, get_or-take, length-take-le}
use Rattle.lc_algebra.specs.declared.FieldName.{FieldName}
use Rattle.lc_algebra.specs.Field.{neg}
use Rattle.lc_algebra.specs.Word.{Fits}
use Rattle.lc_algebra.specs.Polynomial.{trimmed, poly_sum, poly_product, x_power_minus_one, SamePolynomial, IsPolynomial, Divides}
use Rattle.lc_algebra.proofs.WordLaws.{same_words, fits_take, fits_drop}
use Rattle.lc_algebra.proofs.PolynomialLaws.{no_longer}
use Rattle.lc_poly.proofs.TrimLaws.{trimmed_is, trimmed_coefficients, length_trimmed}
use Rattle.lc_poly.proofs.DivisionLaws.{division_told, divides_exactly, x_power_ends}
use Rattle.lc_poly.proofs.QuotientLaws.{trimmed_exists}
use Rattle.lc_poly.proofs.MinimalLaws.{nothing}

pub remainder_is_zero : (f : FieldName) (a by w : List ℕ) → IsPolynomial f by → 0 < length by → Fits f w → SamePolynomial a (poly_sum f (poly_product f (drop (length by - 1) w) by) (take (length by - 1) w)) → ((i : ℕ) → slice_index (take (length by - 1) w) i ≡ 0) ↔ Divides f by a
remainder_is_zero f a by w p l h e =
    let m = length by - 1 in
    let q = trimmed_exists f (drop m w) (fits_drop f m w h) in
    let r = trimmed_exists f (take m w) (fits_take f m w h) in
    let x = divides_exactly f a by q.0 r.0 p (division_told f a by w q.0 r.0 h l e q.1 r.1) in (
      (λ z. x.0 (nothing r.0 (no_longer f [] r.0 r.1.polynomial (λ i. sym (z i) ∙ r.1.same i)))),
      (λ d i. r.1.same i ∙ ap (λ u. slice_index u i) (x.1 d)),
    )

pub taken_is : (u : List ℕ) (n : ℕ) (v : List ℕ) → n ≤ length u → (0 < n → 0 < slice_index u (n - 1)) → ((i : ℕ) → n ≤ i → slice_index u i ≡ 0) → v ≡ take n u → v ≡ trimmed u
taken_is u n v l leads zeros e =
    let k : length (take n u) ≡ n = length-take-le n u l in
    e ∙ same_words (take n u) (trimmed u) (k ∙ length_trimmed u n l leads zeros) (λ i. ⊎_elim (λ b. get_or-take n u i 0 b) (λ b. get_or_past (take n u) i 0 (omega (arith, k, b)) ∙ sym (zeros i b)) (cases_lt i n) ∙ trimmed_coefficients u i)

pub trimmed_fits : (f : FieldName) (u v : List ℕ) → Fits f u → v ≡ trimmed u → IsPolynomial f v
trimmed_fits f u v h e = (trimmed_is f u v h e).polynomial

pub take_zeros : (n m : ℕ) → n + 1 ≤ m → take {A = ℕ} (n + 1) (replicate m 0) ≡ replicate (n + 1) 0
take_zeros n m l = taken (n + 1) m l
  where
    taken : (k m : ℕ) → k ≤ m → take {A = ℕ} k (replicate m 0) ≡ replicate k 0
    taken zero zero l = refl
    taken zero (suc m) l = refl
    taken (suc k) zero l = absurd (omega (arith, l))
    taken (suc k) (suc m) l = ap (λ (u : List ℕ). 0 ∷ u) (taken k m (omega (arith, l)))

pub division_over : (f : FieldName) (n : ℕ) (zeros list work by low : List ℕ) (a : ℕ) (all_zero : Bool) → 1 ≤ n → IsPolynomial f by → 0 < length by → zeros ≡ replicate (n + 1) 0 → a ≡ neg f 1 → list ≡ set (set zeros 0 a) (length zeros - 1) 1 → Fits f work → SamePolynomial list (poly_sum f (poly_product f (drop (length by - 1) work) by) (take (length by - 1) work)) → low ≡ take (length by - 1) work → (IsTrue all_zero → (i : ℕ) → slice_index low i ≡ 0) → (((i : ℕ) → slice_index low i ≡ 0) → IsTrue all_zero) → IsTrue all_zero ↔ Divides f by (x_power_minus_one f n)
division_over f n zeros list work by low a all_zero l p b z e k h d t up down =
    let x : list ≡ x_power_minus_one f n = k ∙ x_power_ends f n zeros a l z e in
    let r = remainder_is_zero f list by work p b h d in (
      (λ y. subst (Divides f by) x (r.0 (λ i. ap (λ u. slice_index u i) (sym t) ∙ up y i))),
      (λ y. down (λ i. ap (λ u. slice_index u i) t ∙ r.1 (subst (Divides f by) (sym x) y) i)),
    )
