-- What the loops over lists of coefficients keep, and what they end with.
--   taken_trimmed               the coefficients up to the last nonzero one
--   value_none, value_step      Horner's rule, coefficient by coefficient from the last one down
--   IsAdded                     some coefficients of a multiple are added
--   added_whole     all of them
--   IsMultiplied, product_none, product_step     the product, from the first factor's last coefficient down
--   product_whole               the whole product
--   part_low, part_high         the coefficients of a window of a list
--   one_more            one more coefficient of the quotient; what is taken away and added again
--   IsDivided, division_none, division_step      the division, from the last place down
--   division_whole, division_short               the whole division, and that of a shorter polynomial
--   fits_set, fits_zeros   lists whose entries are elements
--   dropped                     nothing is left past the end
--   nothing_times               the product with the zero polynomial
--   written_back                a list that a slice of a vector was written as
use Rattle.std.proofs.Common.{◌≡◌, ℕ, zero, suc, ◌+◌, ◌-◌, ◌<◌, ◌≤◌, ⊎_elim, List, [], ◌∷◌, ◌++◌, length, slice_index, take, drop, set, replicate, refl, sym, ap, ◌∙◌, arith, add-zero}
use Rattle.std.proofs.lemmas.Bool.{cases_lt, cases_eq}
use Rattle.std.proofs.lemmas.List.{get_or_past, get_or-take, get_or-drop, drop_more, get_or-set_same, get_or-set_other, length-set, length-take-le, take-append-le}
use Rattle.std.proofs.Math.Seq.{take-length}
use Rattle.lc_algebra.specs.declared.FieldName.{FieldName}
use Rattle.lc_algebra.specs.Field.{size, add, neg, mul, IsInverse}
use Rattle.lc_algebra.specs.Word.{Fits}
use Rattle.lc_algebra.specs.Polynomial.{value_at, poly_sum, poly_product, SamePolynomial}
use Rattle.lc_algebra.proofs.FieldLaws.{zero_inside, mul_inside, add_comm, add_assoc, zero_add, add_zero, mul_comm, mul_assoc, mul_one, neg_mul, mul_zero}
use Rattle.lc_algebra.proofs.WordLaws.{fits_cons, fits_symbol}
use Rattle.lc_poly.proofs.TrimLaws.{IsTrimmed}
use Rattle.lc_poly.proofs.ZeroLaws.{value_cons, undone}
use Rattle.lc_algebra.proofs.PolynomialLaws.{index_sum, index_both, index_product_zero, index_product_suc, fits_product, same_product, product_commutes, product_associates, product_sum, value_sum, value_product}

pub taken_trimmed : (f : FieldName) (u : List ℕ) (n : ℕ) → Fits f u → n ≤ length u → (0 < n → 0 < slice_index u (n - 1)) → ((i : ℕ) → n ≤ i → slice_index u i ≡ 0) → IsTrimmed f u (take n u)
taken_trimmed f u n h l leads zeros =
    let e : length (take n u) ≡ n = length-take-le n u l in
    record {
      same = λ i. ⊎_elim (λ k. sym (get_or-take n u i 0 k)) (λ k. zeros i k ∙ sym (get_or_past (take n u) i 0 (omega (arith, e, k)))) (cases_lt i n);
      polynomial = record {
        fits = λ i k. rw (get_or-take n u i 0 (omega (arith, e, k))) (h i (omega (arith, e, k, l)));
        leads = λ k. rw e (rw (get_or-take n u (n - 1) 0 (omega (arith, e, k))) (leads (omega (arith, e, k))));
      };
    }

pub value_none : (f : FieldName) (u : List ℕ) (n x : ℕ) → n ≡ length u → 0 ≡ value_at f (drop n u) x
unfolding value_at
value_none f [] zero x e = refl
value_none f [] (suc n) x e = refl
value_none f (a ∷ u) zero x e = absurd (omega (arith, e))
value_none f (a ∷ u) (suc n) x e = value_none f u n x (omega (arith, e))

pub value_step : (f : FieldName) (u : List ℕ) (n x v : ℕ) → 0 < n → n ≤ length u → v ≡ value_at f (drop n u) x → add f (slice_index u (n - 1)) (mul f x v) ≡ value_at f (drop (n - 1) u) x
value_step f u n x v p l e =
    let d : drop (n - 1) u ≡ slice_index u (n - 1) ∷ drop (n - 1 + 1) u = drop_more u (n - 1) 0 (omega arith) in
    let m : n - 1 + 1 ≡ n = omega arith in
    rw (d, m, e) (sym (value_cons f (slice_index u (n - 1)) (drop n u) x))

pub record IsAdded (f : FieldName) (at : ℕ) (from : List ℕ) (factor n : ℕ) (old new : List ℕ) : Type 0 where
  pub long : length new ≡ length old
  pub fits : Fits f new
  pub before : (i : ℕ) → i < at → slice_index new i ≡ slice_index old i
  pub done : (k : ℕ) → k < n → slice_index new (at + k) ≡ add f (slice_index old (at + k)) (mul f factor (slice_index from k))
  pub rest : (k : ℕ) → n ≤ k → slice_index new (at + k) ≡ slice_index old (at + k)

pub fits_set : (f : FieldName) (u : List ℕ) (i x : ℕ) → Fits f u → x < size f → Fits f (set u i x)
fits_set f u i x h l k m =
    ⊎_elim
    (λ e. ⊎_elim (λ b. let r : slice_index (set u i x) k ≡ x = ap (λ j. slice_index (set u i x) j) e ∙ get_or-set_same u i x 0 b in rw r l) (λ b. rw (get_or_past (set u i x) k 0 (omega (arith, length-set {A = ℕ}, e, b))) (zero_inside f)) (cases_lt i (length u)))
    (λ d. rw (get_or-set_other u i k x 0 d) (fits_symbol f u h k))
    (cases_eq k i)

pub added_whole : (f : FieldName) (at : ℕ) (from : List ℕ) (factor n : ℕ) (old new : List ℕ) → IsAdded f at from factor n old new → n ≡ length from → Fits f old → (i : ℕ) → slice_index new (at + i) ≡ add f (slice_index old (at + i)) (mul f factor (slice_index from i))
added_whole f at from factor n old new h e k i =
    ⊎_elim (λ l. h.done i l)
    (λ l. cc (h.rest i l, get_or_past from i 0 (omega (arith, e, l)), mul_zero f factor, add_zero f (slice_index old (at + i)) (fits_symbol f old k (at + i))))
    (cases_lt i n)

pub dropped : (u : List ℕ) (n : ℕ) → length u ≤ n → drop n u ≡ []
dropped [] zero l = refl
dropped [] (suc n) l = refl
dropped (a ∷ u) zero l = absurd (omega (arith, l))
dropped (a ∷ u) (suc n) l = dropped u n (omega (arith, l))

pub nothing_times : (f : FieldName) (v : List ℕ) → poly_product f [] v ≡ []
unfolding poly_product
nothing_times f v = refl

pub record IsMultiplied (f : FieldName) (first second : List ℕ) (at : ℕ) (product : List ℕ) : Type 0 where
  pub long : length product ≡ length first + length second
  pub fits : Fits f product
  pub before : (i : ℕ) → i < at → slice_index product i ≡ 0
  pub whole : (k : ℕ) → slice_index product (at + k) ≡ slice_index (poly_product f (drop at first) second) k

pub product_none : (f : FieldName) (first second : List ℕ) (product : List ℕ) → length product ≡ length first + length second → ((i : ℕ) → slice_index product i ≡ 0) → IsMultiplied f first second (length first) product
product_none f first second product l z = record {
  long = l;
  fits = λ i k. rw (z i) (zero_inside f);
  before = λ i k. z i;
  whole = λ k. z (length first + k) ∙ sym (rw (dropped first (length first) (omega arith), nothing_times f second) refl);
}

raised : (f : FieldName) (at : ℕ) (rest second old : List ℕ) → slice_index old at ≡ 0 → ((k : ℕ) → slice_index old (at + 1 + k) ≡ slice_index (poly_product f rest second) k) → (k : ℕ) → slice_index old (at + k) ≡ slice_index (0 ∷ poly_product f rest second) k
raised f at rest second old z h zero = ap (slice_index old) (add-zero at) ∙ z
raised f at rest second old z h (suc k) =
    let e : at + suc k ≡ at + 1 + k = omega arith in
    ap (slice_index old) e ∙ h k

pub product_step : (f : FieldName) (first second : List ℕ) (at : ℕ) (old new : List ℕ) → IsMultiplied f first second (at + 1) old → at < length first → length new ≡ length old → Fits f new → ((i : ℕ) → i < at → slice_index new i ≡ slice_index old i) → ((i : ℕ) → slice_index new (at + i) ≡ add f (slice_index old (at + i)) (mul f (slice_index first at) (slice_index second i))) → IsMultiplied f first second at new
product_step f first second at old new h l long fits before sum =
    let d : drop at first ≡ slice_index first at ∷ drop (at + 1) first = drop_more first at 0 l in
    record {
      long = long ∙ h.long;
      fits = fits;
      before = λ i k. before i k ∙ h.before i (omega (arith, k));
      whole = λ k.
          let r : slice_index old (at + k) ≡ slice_index (0 ∷ poly_product f (drop (at + 1) first) second) k = raised f at (drop (at + 1) first) second old (h.before at (omega arith)) h.whole k in
          rw d (cc (sum k, r, index_both f (slice_index first at) (drop (at + 1) first) second k, add_comm f (slice_index (0 ∷ poly_product f (drop (at + 1) first) second) k) (mul f (slice_index first at) (slice_index second k))));
    }

pub product_whole : (f : FieldName) (first second : List ℕ) (product : List ℕ) → IsMultiplied f first second 0 product → SamePolynomial product (poly_product f first second)
product_whole f first second product h k =
    let e : 0 + k ≡ k = omega arith in
    ap (slice_index product) (sym e) ∙ h.whole k

pub record IsDivided (f : FieldName) (by : List ℕ) (m : ℕ) (old : List ℕ) (at : ℕ) (new : List ℕ) : Type 0 where
  pub long : length new ≡ length old
  pub fits : Fits f new
  pub before : (i : ℕ) → i < at → slice_index new i ≡ slice_index old i
  pub whole : (k : ℕ) → slice_index old (at + k) ≡ add f (slice_index (poly_product f (drop (at + m) new) by) k) (slice_index (take m (drop at new)) k)

pub part_low : (u : List ℕ) (at m k : ℕ) → k < m → slice_index (take m (drop at u)) k ≡ slice_index u (at + k)
part_low u at m k l = get_or-take m (drop at u) k 0 l ∙ get_or-drop at u k 0

pub part_high : (u : List ℕ) (m k : ℕ) → m ≤ k → slice_index (take m u) k ≡ 0
part_high [] zero k l = refl
part_high [] (suc m) k l = refl
part_high (a ∷ u) zero k l = refl
part_high (a ∷ u) (suc m) zero l = absurd (omega (arith, l))
part_high (a ∷ u) (suc m) (suc k) l = part_high u m k (omega (arith, l))

part_inside : (f : FieldName) (u : List ℕ) (at m k : ℕ) → Fits f u → slice_index (take m (drop at u)) k < size f
part_inside f u at m k h = ⊎_elim (λ l. rw (part_low u at m k l) (fits_symbol f u h (at + k))) (λ l. rw (part_high (drop at u) m k l) (zero_inside f)) (cases_lt k m)

pub fits_zeros : (f : FieldName) (n : ℕ) → Fits f (replicate n 0)
fits_zeros f zero = λ i l. zero_inside f
fits_zeros f (suc n) = fits_cons f 0 (replicate n 0) (zero_inside f) (fits_zeros f n)

pub division_none : (f : FieldName) (by : List ℕ) (m : ℕ) (old : List ℕ) (at : ℕ) → Fits f old → at + m ≡ length old → IsDivided f by m old at old
division_none f by m old at h e = record {
  long = refl;
  fits = h;
  before = λ i l. refl;
  whole = λ k.
      let z : poly_product f (drop (at + m) old) by ≡ [] = ap (λ u. poly_product f u by) (dropped old (at + m) (omega (arith, e))) ∙ nothing_times f by in
      let p : slice_index (take m (drop at old)) k ≡ slice_index old (at + k) = ⊎_elim (λ l. part_low old at m k l) (λ l. part_high (drop at old) m k l ∙ sym (get_or_past old (at + k) 0 (omega (arith, e, l)))) (cases_lt k m) in
      rw (z, p) (sym (zero_add f (slice_index old (at + k)) (fits_symbol f old h (at + k))));
}

at_low : (work old : List ℕ) (at m : ℕ) → slice_index work at ≡ slice_index old at → (k : ℕ) → k ≤ m → slice_index (slice_index old at ∷ take m (drop (at + 1) work)) k ≡ slice_index work (at + k)
at_low work old at m e zero l = sym e ∙ ap (slice_index work) (sym (add-zero at))
at_low work old at m e (suc k) l =
    let d : at + 1 + k ≡ at + suc k = omega arith in
    part_low work (at + 1) m k (omega (arith, l)) ∙ ap (slice_index work) d

above : (c : ℕ) (u : List ℕ) (m k : ℕ) → m < k → slice_index (c ∷ take m u) k ≡ 0
above c u m zero l = absurd (omega (arith, l))
above c u m (suc k) l = part_high u m k (omega (arith, l))

same_after : (c : ℕ) (u v : List ℕ) → SamePolynomial u v → SamePolynomial (c ∷ u) (c ∷ v)
same_after c u v h zero = refl
same_after c u v h (suc i) = h i

read_after : (u : List ℕ) (at k : ℕ) → slice_index (slice_index u at ∷ drop (at + 1) u) k ≡ slice_index u (at + k)
read_after u at zero = ap (slice_index u) (sym (add-zero at))
read_after u at (suc k) =
    let d : at + 1 + k ≡ at + suc k = omega arith in
    get_or-drop (at + 1) u k 0 ∙ ap (slice_index u) d

-- one more place: c is the coefficient above which d is q by + r
pub one_more : (f : FieldName) (by q d r s : List ℕ) (c factor : ℕ) → c < size f → ((k : ℕ) → slice_index s k < size f) → ((k : ℕ) → slice_index d k ≡ add f (slice_index (poly_product f q by) k) (slice_index r k)) → ((k : ℕ) → add f (mul f factor (slice_index by k)) (slice_index s k) ≡ slice_index (c ∷ r) k) → (k : ℕ) → slice_index (c ∷ d) k ≡ add f (slice_index (poly_product f (factor ∷ q) by) k) (slice_index s k)
one_more f by q d r s c factor l i h g zero = cc (index_product_zero f factor q by, g 0)
one_more f by q d r s c factor l i h g (suc k) =
    let M = mul f factor (slice_index by (suc k)) in
    let P = slice_index (poly_product f q by) k in
    let S = slice_index s (suc k) in
    cc (index_product_suc f factor q by k, g (suc k), h k, add_comm f M P, add_assoc f P M S)

pub division_step : (f : FieldName) (by : List ℕ) (m : ℕ) (old : List ℕ) (at : ℕ) (work added : List ℕ) (factor inverse : ℕ) → length by ≡ m + 1 → Fits f old → IsDivided f by m old (at + 1) work → at + m < length work → IsInverse f (slice_index by m) inverse → factor ≡ mul f (slice_index work (at + m)) inverse → length added ≡ length work → Fits f added → ((i : ℕ) → i < at → slice_index added i ≡ slice_index work i) → ((i : ℕ) → slice_index added (at + i) ≡ add f (slice_index work (at + i)) (mul f (neg f factor) (slice_index by i))) → IsDivided f by m old at (set added (at + m) factor)
division_step f by m old at work added factor inverse eb ho h l inv ef long fits before sum =
    let new = set added (at + m) factor in
    let inside : factor < size f = rw ef (mul_inside f (slice_index work (at + m)) inverse) in
    let hw : (k : ℕ) → slice_index work k < size f = fits_symbol f work h.fits in
    let fn : Fits f new = fits_set f added (at + m) factor fits inside in
    let top : mul f factor (slice_index by m) ≡ slice_index work (at + m) = cc (ef, mul_assoc f (slice_index work (at + m)) inverse (slice_index by m), mul_comm f inverse (slice_index by m), inv.one, mul_one f (slice_index work (at + m)) (hw (at + m))) in
    let r = take m (drop (at + 1) work) in
    let s = take m (drop at new) in
    let c = slice_index old at in
    let low : (k : ℕ) → k ≤ m → slice_index (c ∷ r) k ≡ slice_index work (at + k) = at_low work old at m (h.before at (omega arith)) in
    let g : (k : ℕ) → add f (mul f factor (slice_index by k)) (slice_index s k) ≡ slice_index (c ∷ r) k = λ k.
    ⊎_elim
    (λ b.
    let a : slice_index s k ≡ add f (slice_index work (at + k)) (mul f (neg f factor) (slice_index by k)) = part_low new at m k b ∙ get_or-set_other added (at + m) (at + k) factor 0 (omega (arith, b)) ∙ sum k in
    cc (a, neg_mul f factor (slice_index by k), undone f (slice_index work (at + k)) (mul f factor (slice_index by k)) (hw (at + k)), low k (omega (arith, b))))
    (λ b.
    let a : slice_index s k ≡ 0 = part_high (drop at new) m k b in
    ⊎_elim
    (λ e. let t : mul f factor (slice_index by k) ≡ slice_index work (at + k) = rw e top in cc (a, t, add_zero f (slice_index work (at + k)) (hw (at + k)), low k (omega (arith, e))))
    (λ e. cc (a, get_or_past by k 0 (omega (arith, e, b, eb)), mul_zero f factor, zero_add f 0 (zero_inside f), above c (drop (at + 1) work) m k (omega (arith, e, b))))
    (cases_eq k m))
    (cases_lt k m) in
    let q0 = drop (at + 1 + m) work in
    let d0 = drop (at + 1) old in
    let hd : (k : ℕ) → slice_index d0 k ≡ add f (slice_index (poly_product f q0 by) k) (slice_index r k) = λ k. get_or-drop (at + 1) old k 0 ∙ h.whole k in
    let ln : length new ≡ length work = length-set added (at + m) factor ∙ long in
    let dn : drop (at + m) new ≡ slice_index new (at + m) ∷ drop (at + m + 1) new = drop_more new (at + m) 0 (omega (arith, ln)) in
    let tn : slice_index new (at + m) ≡ factor = get_or-set_same added (at + m) factor 0 (omega (arith, long)) in
    let sq : SamePolynomial (drop (at + m + 1) new) q0 = λ j.
    let e1 : at + m + 1 + j ≡ at + (m + 1 + j) = omega arith in
    let e2 : at + 1 + m + j ≡ at + (m + 1 + j) = omega arith in
    get_or-drop (at + m + 1) new j 0 ∙ get_or-set_other added (at + m) (at + m + 1 + j) factor 0 (omega arith) ∙ ap (slice_index added) e1 ∙ sum (m + 1 + j) ∙ ap (λ x. add f (slice_index work (at + (m + 1 + j))) (mul f (neg f factor) x)) (get_or_past by (m + 1 + j) 0 (omega (arith, eb))) ∙ ap (add f (slice_index work (at + (m + 1 + j)))) (mul_zero f (neg f factor)) ∙ add_zero f (slice_index work (at + (m + 1 + j))) (hw (at + (m + 1 + j))) ∙ ap (slice_index work) (sym e2) ∙ sym (get_or-drop (at + 1 + m) work j 0) in
    let sp : SamePolynomial (drop (at + m) new) (factor ∷ q0) = rw (dn, tn) (same_after factor (drop (at + m + 1) new) q0 sq) in
    record {
      long = ln ∙ h.long;
      fits = fn;
      before = λ i b. get_or-set_other added (at + m) i factor 0 (omega (arith, b)) ∙ before i b ∙ h.before i (omega (arith, b));
      whole = λ k. sym (read_after old at k) ∙ one_more f by q0 d0 r s c factor (fits_symbol f old ho at) (λ j. part_inside f new at m j fn) hd g k ∙ ap (λ x. add f x (slice_index s k)) (sym (same_product f (drop (at + m) new) (factor ∷ q0) by k sp));
    }

pub division_whole : (f : FieldName) (by : List ℕ) (m : ℕ) (old new : List ℕ) → IsDivided f by m old 0 new → SamePolynomial old (poly_sum f (poly_product f (drop m new) by) (take m new))
division_whole f by m old new h k =
    let e : 0 + k ≡ k = omega arith in
    let d : 0 + m ≡ m = omega arith in
    ap (slice_index old) (sym e) ∙ h.whole k ∙ ap (λ j. add f (slice_index (poly_product f (drop j new) by) k) (slice_index (take m new) k)) d ∙ sym (index_sum f (poly_product f (drop m new) by) (take m new) k (fits_product f (drop m new) by) (λ i l. part_inside f new 0 m i h.fits))

pub division_short : (f : FieldName) (by : List ℕ) (m : ℕ) (u : List ℕ) → Fits f u → length u ≤ m → SamePolynomial u (poly_sum f (poly_product f (drop m u) by) (take m u))
unfolding poly_sum
division_short f by m u h l k =
    rw (dropped u m l, nothing_times f by) (⊎_elim (λ b. sym (get_or-take m u k 0 b)) (λ b. get_or_past u k 0 (omega (arith, l, b)) ∙ sym (part_high u m k b)) (cases_lt k m))

pub written_back : (n : ℕ) (to items : List ℕ) → n ≡ length to → take n (to ++ drop (length to) items) ≡ to
written_back n to items e = rw e (take-append-le (length to) to (drop (length to) items) (omega arith) ∙ take-length to)

pub ruleset products_of_polynomials_laws = (product_commutes, product_associates, product_sum)

pub ruleset values_of_polynomials_laws = (value_sum, value_product)
