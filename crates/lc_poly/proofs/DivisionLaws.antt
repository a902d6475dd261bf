-- Division of polynomials: one quotient and one remainder, and what divides what.
--   division_told              what is left in place of the dividend, without last zeros
--   division_unique            there is one pair of quotient and remainder
--   divides_exactly            the remainder is 0 exactly if the divisor divides
--   x_power_polynomial         x^n - 1 has no last zero
--   x_power_ends, x_power_kept, x_power_fits, x_power_told      the list that x^n - 1 is made from
--   parts_told, divides_told   the same, of what the code holds
use Rattle.std.proofs.Common.{◌≡◌, ℕ, zero, suc, ◌+◌, ◌-◌, ◌<◌, ◌≤◌, ◌↔◌, List, [], ◌∷◌, ◌++◌, length, slice_index, take, drop, set, replicate, Bool, IsTrue, refl, sym, ap, ◌∙◌, arith}
use Rattle.std.proofs.lemmas.List.{get_or_past, get_or_push, length-take, length-append, length-replicate, length-set}
use Rattle.lc_algebra.specs.declared.FieldName.{FieldName}
use Rattle.lc_algebra.specs.Field.{add, neg}
use Rattle.lc_algebra.specs.Word.{Fits}
use Rattle.lc_algebra.specs.Polynomial.{trimmed, poly_sum, poly_scale, poly_product, x_power_minus_one, SamePolynomial, IsPolynomial, IsDivision, Divides}
use Rattle.lc_algebra.proofs.FieldLaws.{zero_inside, one_inside, neg_inside, add_comm, add_neg, add_cancel, add_zero, neg_one_mul, subtract_zero}
use Rattle.lc_algebra.proofs.WordLaws.{fits_cons, fits_symbol, fits_take, fits_drop}
use Rattle.lc_poly.proofs.TrimLaws.{IsTrimmed, trimmed_is}
use Rattle.lc_algebra.proofs.PolynomialLaws.{low_product, index_sum, index_multiple, fits_sum, fits_multiple, fits_product, product_inside, same_product, sum_product, multiple_product, no_longer, only_polynomial}
use Rattle.lc_poly.proofs.ListLaws.{written_back}

pub division_told : (f : FieldName) (a by w q r : List ℕ) → Fits f w → 0 < length by → SamePolynomial a (poly_sum f (poly_product f (drop (length by - 1) w) by) (take (length by - 1) w)) → IsTrimmed f (drop (length by - 1) w) q → IsTrimmed f (take (length by - 1) w) r → IsDivision f a by q r
division_told f a by w q r h l s tq tr =
    let m = length by - 1 in
    record {
      quotient = tq.polynomial;
      remainder = tr.polynomial;
      lower = omega (arith, length-take m w, no_longer f (take m w) r tr.polynomial tr.same);
      whole = λ k. s k ∙ index_sum f (poly_product f (drop m w) by) (take m w) k (fits_product f (drop m w) by) (fits_take f m w h) ∙ cc (same_product f (drop m w) q by k tq.same, tr.same k) ∙ sym (index_sum f (poly_product f q by) r k (fits_product f q by) tr.polynomial.fits);
    }

same_above : (f : FieldName) (a b q r : List ℕ) → IsDivision f a b q r → (i : ℕ) → length b - 1 ≤ i → slice_index (poly_product f q b) i ≡ slice_index a i
same_above f a b q r d i l =
    let z : slice_index r i ≡ 0 = get_or_past r i 0 (omega (arith, d.lower, l)) in
    sym (d.whole i ∙ index_sum f (poly_product f q b) r i (fits_product f q b) d.remainder.fits ∙ ap (add f (slice_index (poly_product f q b) i)) z ∙ add_zero f _ (product_inside f q b i))

pub division_unique : (f : FieldName) (a b q r p s : List ℕ) → IsPolynomial f b → IsDivision f a b q r → IsDivision f a b p s → (q ≡ p) × (r ≡ s)
division_unique f a b q r p s hb d e =
    let m = length b - 1 in
    let k : length b ≡ suc m = omega (arith, d.lower) in
    let D = poly_sum f q (poly_scale f (neg f 1) p) in
    let hD : Fits f D = fits_sum f q (poly_scale f (neg f 1) p) d.quotient.fits (fits_multiple f (neg f 1) p) in
    let z : (i : ℕ) → m ≤ i → slice_index (poly_product f D b) i ≡ 0 = λ i l.
    cc (sum_product f q (poly_scale f (neg f 1) p) b i, multiple_product f (neg f 1) p b i, same_above f a b q r d i l, same_above f a b p s e i l, neg_one_mul f (slice_index a i), add_neg f (slice_index a i)) in
    let zD : (i : ℕ) → slice_index D i ≡ 0 = low_product f D b m hD hb.fits k (hb.leads (omega (arith, k))) z in
    let sq : SamePolynomial q p = λ i. subtract_zero f (slice_index q i) (slice_index p i) (fits_symbol f q d.quotient.fits i) (fits_symbol f p e.quotient.fits i) (cc (zD i, index_sum f q (poly_scale f (neg f 1) p) i d.quotient.fits (fits_multiple f (neg f 1) p), index_multiple f (neg f 1) p i, neg_one_mul f (slice_index p i))) in
    let eq : q ≡ p = only_polynomial f q p d.quotient e.quotient sq in
    let sr : SamePolynomial r s = λ i.
    let P = slice_index (poly_product f q b) i in
    let x = d.whole i ∙ index_sum f (poly_product f q b) r i (fits_product f q b) d.remainder.fits in
    let y = e.whole i ∙ index_sum f (poly_product f p b) s i (fits_product f p b) e.remainder.fits in
    add_cancel f (slice_index r i) (slice_index s i) P (fits_symbol f r d.remainder.fits i) (fits_symbol f s e.remainder.fits i) (cc (x, y, eq, add_comm f P (slice_index r i), add_comm f P (slice_index s i))) in
    (eq, only_polynomial f r s d.remainder e.remainder sr)

whole_multiple : (f : FieldName) (h b : List ℕ) → SamePolynomial (poly_product f h b) (poly_sum f (poly_product f h b) [])
whole_multiple f h b i = sym (index_sum f (poly_product f h b) [] i (fits_product f h b) (λ j l. zero_inside f) ∙ add_zero f _ (product_inside f h b i))

pub divides_exactly : (f : FieldName) (a b q r : List ℕ) → IsPolynomial f b → IsDivision f a b q r → (r ≡ []) ↔ Divides f b a
divides_exactly f a b q r hb d = (
  (λ e. (q, d.quotient, λ i. d.whole i ∙ ap (λ x. slice_index (poly_sum f (poly_product f q b) x) i) e ∙ sym (whole_multiple f q b i))),
  (λ h.
      let n : IsDivision f a b h.0 [] = record {
        quotient = h.1;
        remainder = record { fits = λ i l. zero_inside f; leads = λ l. absurd (omega (arith, l)) };
        lower = omega (arith, d.lower);
        whole = λ i. h.2 i ∙ whole_multiple f h.0 b i;
      } in
      (division_unique f a b q r h.0 [] hb d n).1),
)

set_last : (k : ℕ) → set {A = ℕ} (replicate {A = ℕ} (suc k) 0) k 1 ≡ replicate k 0 ++ 1 ∷ []
set_last zero = refl
set_last (suc k) = ap (λ (u : List ℕ). 0 ∷ u) (set_last k)

pub x_power_ends : (f : FieldName) (n : ℕ) (z : List ℕ) (a : ℕ) → 1 ≤ n → z ≡ replicate (n + 1) 0 → a ≡ neg f 1 → set (set z 0 a) (length z - 1) 1 ≡ x_power_minus_one f n
unfolding x_power_minus_one
x_power_ends f zero z a l e d = absurd (omega (arith, l))
x_power_ends f (suc k) z a l e d =
    let n : suc k + 1 ≡ suc (suc k) = omega arith in
    let g : z ≡ replicate (suc (suc k)) 0 = e ∙ ap (λ j. replicate j 0) n in
    let h : length z - 1 ≡ suc k = omega (arith, ap (length {A = ℕ}) g, length-replicate {A = ℕ} (suc (suc k)) 0) in
    let m : suc k - 1 ≡ k = omega arith in
    rw (h, g, d, m) (ap (λ (u : List ℕ). neg f 1 ∷ u) (set_last k))

pub x_power_kept : (f : FieldName) (n : ℕ) (items value new : List ℕ) (a len : ℕ) → 1 ≤ n → items ≡ replicate (n + 1) 0 → value ≡ items → a ≡ neg f 1 → new ≡ set (set value 0 a) (length value - 1) 1 → length value ≡ len → take len (new ++ drop (length new) items) ≡ x_power_minus_one f n
x_power_kept f n items value new a len l ei ev ea en el =
    let k : len ≡ length new = omega (arith, el, ap (length {A = ℕ}) en, length-set (set value 0 a) (length value - 1) 1, length-set value 0 a) in
    written_back len new items k ∙ en ∙ x_power_ends f n value a l (ev ∙ ei) ea

fits_last : (f : FieldName) (k : ℕ) → Fits f (replicate k 0 ++ 1 ∷ [])
fits_last f zero = fits_cons f 1 [] (one_inside f) (λ i l. zero_inside f)
fits_last f (suc k) = fits_cons f 0 (replicate k 0 ++ 1 ∷ []) (zero_inside f) (fits_last f k)

pub x_power_fits : (f : FieldName) (n : ℕ) → Fits f (x_power_minus_one f n)
unfolding x_power_minus_one
x_power_fits f n = fits_cons f (neg f 1) (replicate (n - 1) 0 ++ 1 ∷ []) (neg_inside f 1) (fits_last f (n - 1))

last_one : (u : List ℕ) → slice_index (u ++ 1 ∷ []) (length (u ++ 1 ∷ []) - 1) ≡ 1
last_one u = let e : length (u ++ 1 ∷ []) - 1 ≡ length u = omega (arith, length-append u (1 ∷ [])) in rw e (get_or_push u 1 0 (length u) refl)

pub x_power_polynomial : (f : FieldName) (n : ℕ) → IsPolynomial f (x_power_minus_one f n)
unfolding x_power_minus_one
x_power_polynomial f n = record {
  fits = x_power_fits f n;
  leads = λ k. rw (last_one (neg f 1 ∷ replicate (n - 1) 0)) (omega arith);
}

pub x_power_told : (f : FieldName) (n : ℕ) (p : List ℕ) → p ≡ trimmed (x_power_minus_one f n) → p ≡ x_power_minus_one f n
x_power_told f n p e =
    let t = trimmed_is f (x_power_minus_one f n) p (x_power_fits f n) e in
    sym (only_polynomial f (x_power_minus_one f n) p (x_power_polynomial f n) t.polynomial t.same)

pub parts_told : (f : FieldName) (a by w x y u v q r : List ℕ) (m : ℕ) → Fits f w → 0 < length by → SamePolynomial a (poly_sum f (poly_product f (drop (length by - 1) w) by) (take (length by - 1) w)) → x ≡ w → y ≡ w → m ≡ length by - 1 → u ≡ drop m x → v ≡ take m y → q ≡ trimmed u → r ≡ trimmed v → IsDivision f a by q r
parts_told f a by w x y u v q r m h l s ex ey em eu ev tq tr =
    let eq : u ≡ drop (length by - 1) w = cc in
    let er : v ≡ take (length by - 1) w = cc in
    division_told f a by w q r h l s (trimmed_is f (drop (length by - 1) w) q (fits_drop f (length by - 1) w h) (tq ∙ ap trimmed eq)) (trimmed_is f (take (length by - 1) w) r (fits_take f (length by - 1) w h) (tr ∙ ap trimmed er))

pub divides_told : (f g : FieldName) (a b q r : List ℕ) (is_zero : Bool) → f ≡ g → IsPolynomial f b → IsDivision g a b q r → (IsTrue is_zero ↔ (r ≡ [])) → IsTrue is_zero ↔ Divides f b a
divides_told f g a b q r is_zero e hb d t =
    let x : (r ≡ []) ↔ Divides f b a = divides_exactly f a b q r hb (rw (← e) at d) in
    ((λ h. x.0 (t.0 h)), (λ h. t.1 (x.1 h)))

pub ruleset x_power_minus_one_laws = (x_power_fits, x_power_told)
