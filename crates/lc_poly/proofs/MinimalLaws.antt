-- The search for a polynomial over a small field that has a given zero in a large one.
--   vanishes_none, none_reached         no coefficients more
--   vanishes_more, more_reached         one coefficient more
--   value_power, value_x_power         the values of x^n and of x^n - 1
--   length_x_power, last_up            how long x^n - 1 is; the last coefficient, one place up
--   value_scaled                       the value of a multiple by an element of the small field
--   embedded_x_power                   x^n - 1 stands for itself in the large field
--   vanishes_lower                      a polynomial with the zero is reached from its upper coefficients
--   polynomial_reached                 and, divided by its last coefficient, from a 1
--   size_reached                       each element is a zero of some polynomial with as many coefficients as the large field
--                                      has elements, and a last 1
--   IsUpper, upper_none, upper_step    the coefficients that are found, from the last one down
--   minimal_told, minimal_trimmed      the polynomial that is found is the minimal one
use Rattle.std.proofs.Common.{◌≡◌, ℕ, zero, suc, ◌+◌, ◌-◌, ◌<◌, ◌≤◌, ⊎_elim, List, [], ◌∷◌, ◌++◌, length, map, slice_index, drop, set, replicate, refl, sym, ap, ◌∙◌, arith}
use Rattle.std.proofs.lemmas.Bool.{cases_lt}
use Rattle.std.proofs.lemmas.List.{drop_more, drop-set, get_or-set_same, get_or-set_other, length-set, length-append, length-replicate}
use Rattle.lc_algebra.specs.declared.FieldName.{FieldName}
use Rattle.lc_algebra.specs.Field.{size, add, neg, mul, pow}
use Rattle.lc_algebra.specs.Word.{Fits}
use Rattle.lc_algebra.specs.Polynomial.{value_at, poly_scale, x_power_minus_one, IsPolynomial, trimmed}
use Rattle.lc_algebra.specs.Embedding.{IsSubfield, embed, IsMinimal}
use Rattle.lc_algebra.proofs.FieldLaws.{zero_inside, one_inside, add_inside, mul_inside, add_comm, add_neg, zero_add, mul_comm, mul_swap, mul_add, mul_zero, mul_one, mul_neg, inverse_of}
use Rattle.lc_algebra.proofs.PowerLaws.{pow_zero, pow_suc, pow_size}
use Rattle.lc_algebra.proofs.EmbeddingLaws.{embed_zero, embed_one, embed_mul, embed_neg}
use Rattle.lc_algebra.proofs.WordLaws.{fits_head, fits_tail, fits_cons, fits_symbol}
use Rattle.lc_poly.proofs.TrimLaws.{trimmed_is}
use Rattle.lc_poly.specs.Minimal.{next_value, CanVanish}
use Rattle.lc_algebra.proofs.PolynomialLaws.{index_multiple, fits_multiple, only_polynomial}
use Rattle.lc_poly.proofs.ListLaws.{fits_set, fits_zeros, dropped}
use Rattle.lc_poly.proofs.DivisionLaws.{x_power_polynomial}
use Rattle.lc_poly.proofs.ZeroLaws.{value_cons, value_constant}

module _ (small large : FieldName) (a : ℕ) where
  pub vanishes_none : (n v : ℕ) → n ≡ 0 → v ≡ 0 → CanVanish small large a n v
  unfolding CanVanish
  vanishes_none n v e h = rw e h

  pub none_reached : (n v : ℕ) → n ≡ 0 → CanVanish small large a n v → v ≡ 0
  unfolding CanVanish
  none_reached zero v e h = h
  none_reached (suc n) v e h = absurd (omega (arith, e))

  pub vanishes_more : (n v c : ℕ) → 0 < n → c < size small → CanVanish small large a (n - 1) (next_value small large a c v) → CanVanish small large a n v
  unfolding CanVanish
  vanishes_more zero v c l k h = absurd (omega (arith, l))
  vanishes_more (suc n) v c l k h =
      let e : suc n - 1 ≡ n = omega arith in
      (c, k, rw e at h)

  pub more_reached : (n v : ℕ) → 0 < n → CanVanish small large a n v → (c : ℕ) × (c < size small) × CanVanish small large a (n - 1) (next_value small large a c v)
  unfolding CanVanish
  more_reached zero v l h = absurd (omega (arith, l))
  more_reached (suc n) v l h =
      let e : suc n - 1 ≡ n = omega arith in
      (h.0, h.1, rw e h.2)

  pub not_reached : (n v m : ℕ) → 0 < n → ((c : ℕ) → c < m → CanVanish small large a (n - 1) (next_value small large a c v) → ⊥) → size small ≤ m → CanVanish small large a n v → ⊥
  not_reached n v m l h k r =
      let t = more_reached n v l r in
      h t.0 (omega (arith, k, t.1)) t.2

pub value_power : (f : FieldName) (k x : ℕ) → value_at f (replicate k 0 ++ 1 ∷ []) x ≡ pow f x k
value_power f zero x = value_constant f 1 x (one_inside f) ∙ sym (pow_zero f x)
value_power f (suc k) x = cc (value_cons f 0 (replicate k 0 ++ 1 ∷ []) x, value_power f k x, pow_suc f x k, zero_add f (mul f x (pow f x k)) (mul_inside f x (pow f x k)))

x_power_cons : (f : FieldName) (k : ℕ) → x_power_minus_one f (suc k) ≡ neg f 1 ∷ (replicate k 0 ++ 1 ∷ [])
unfolding x_power_minus_one
x_power_cons f k = let e : suc k - 1 ≡ k = omega arith in rw e refl

pub value_x_power : (f : FieldName) (n x : ℕ) → 1 ≤ n → value_at f (x_power_minus_one f n) x ≡ add f (pow f x n) (neg f 1)
value_x_power f zero x l = absurd (omega (arith, l))
value_x_power f (suc k) x l = cc (x_power_cons f k, value_cons f (neg f 1) (replicate k 0 ++ 1 ∷ []) x, value_power f k x, pow_suc f x k, add_comm f (neg f 1) (mul f x (pow f x k)))

embedded_zeros : (small large : FieldName) (k : ℕ) → IsSubfield small large → map (embed small large) (replicate k 0 ++ 1 ∷ []) ≡ replicate k 0 ++ 1 ∷ []
embedded_zeros small large zero s = cc (embed_one small large s)
embedded_zeros small large (suc k) s = cc (embed_zero small large s, embedded_zeros small large k s)

pub embedded_x_power : (small large : FieldName) (n : ℕ) → IsSubfield small large → 1 ≤ n → map (embed small large) (x_power_minus_one small n) ≡ x_power_minus_one large n
embedded_x_power small large zero s l = absurd (omega (arith, l))
embedded_x_power small large (suc k) s l =
    rw (x_power_cons small k, x_power_cons large k) (cc (embedded_zeros small large k s, embed_neg small large 1 s (one_inside small), embed_one small large s))

pub value_scaled : (small large : FieldName) (k : ℕ) (u : List ℕ) (x : ℕ) → IsSubfield small large → k < size small → Fits small u → value_at large (map (embed small large) (poly_scale small k u)) x ≡ mul large (embed small large k) (value_at large (map (embed small large) u) x)
unfolding poly_scale value_at
value_scaled small large k [] x s l h = sym (mul_zero large (embed small large k))
value_scaled small large k (c ∷ u) x s l h =
    cc (value_scaled small large k u x s l (fits_tail small c u h), embed_mul small large k c s l (fits_head small c u h), mul_swap large x (embed small large k) (value_at large (map (embed small large) u) x), mul_add large (embed small large k) (embed small large c) (mul large x (value_at large (map (embed small large) u) x)))

length_multiple : (f : FieldName) (c : ℕ) (u : List ℕ) → length (poly_scale f c u) ≡ length u
unfolding poly_scale
length_multiple f c [] = refl
length_multiple f c (a ∷ u) = ap suc (length_multiple f c u)

pub length_x_power : (f : FieldName) (n : ℕ) → 1 ≤ n → length (x_power_minus_one f n) ≡ n + 1
length_x_power f zero l = absurd (omega (arith, l))
length_x_power f (suc k) l = rw (x_power_cons f k) (omega (arith, length-append {A = ℕ} (replicate k 0) (1 ∷ []), length-replicate {A = ℕ} k 0))

pub last_up : (u : List ℕ) → 0 < length u → 0 < slice_index u (length u - 1) → 0 < slice_index (0 ∷ u) (length (0 ∷ u) - 1)
last_up [] l h = absurd (omega (arith, l))
last_up (c ∷ u) l h =
    let e : length (0 ∷ c ∷ u) - 1 ≡ suc (length u) = omega arith in
    let d : length (c ∷ u) - 1 ≡ length u = omega arith in
    rw e (rw d at h)

pub nothing : (u : List ℕ) → length u ≤ 0 → u ≡ []
nothing [] l = refl
nothing (c ∷ u) l = absurd (omega (arith, l))

pub record IsUpper (small large : FieldName) (a degree place value : ℕ) (list : List ℕ) : Type 0 where
  pub long : length list ≡ degree + 1
  pub fits : Fits small list
  pub lead : slice_index list degree ≡ 1
  pub inside : value < size large
  pub place_inside : place ≤ degree
  pub is : value ≡ value_at large (map (embed small large) (drop place list)) a
  pub reaches : CanVanish small large a place value

module _ (small large : FieldName) (a : ℕ) (s : IsSubfield small large) (inside : a < size large) where
  abbrev values : List ℕ → ℕ
  values u = value_at large (map (embed small large) u) a

  values_cons : (c : ℕ) (u : List ℕ) → values (c ∷ u) ≡ next_value small large a c (values u)
  values_cons c u = value_cons large (embed small large c) (map (embed small large) u) a

  pub vanishes_lower : (u : List ℕ) (n : ℕ) → Fits small u → n ≤ length u → values u ≡ 0 → CanVanish small large a n (values (drop n u))
  unfolding CanVanish
  vanishes_lower u zero h l z = z
  vanishes_lower u (suc n) h l z =
      let d : drop n u ≡ slice_index u n ∷ drop (n + 1) u = drop_more u n 0 (omega (arith, l)) in
      let e : n + 1 ≡ suc n = omega arith in
      let v : values (drop n u) ≡ next_value small large a (slice_index u n) (values (drop (suc n) u)) = ap values d ∙ values_cons (slice_index u n) (drop (n + 1) u) ∙ ap (λ j. next_value small large a (slice_index u n) (values (drop j u))) e in
      (slice_index u n, fits_symbol small u h n, rw v at (vanishes_lower u n h (omega (arith, l)) z))

  last_kept : (u : List ℕ) (n : ℕ) → length u ≡ n + 1 → slice_index u n ≡ 1 → values (drop n u) ≡ 1
  last_kept u n l e =
      let d : drop n u ≡ slice_index u n ∷ drop (n + 1) u = drop_more u n 0 (omega (arith, l)) in
      let z : drop (n + 1) u ≡ [] = dropped u (n + 1) (omega (arith, l)) in
      rw (d, z, e) (rw (embed_one small large s) (value_constant large 1 a (one_inside large)))

  pub polynomial_reached : (v : List ℕ) → IsPolynomial small v → 0 < length v → values v ≡ 0 → CanVanish small large a (length v - 1) 1
  polynomial_reached v p l z =
      let n = length v - 1 in
      let i = inverse_of small (slice_index v n) (fits_symbol small v p.fits n) (p.leads l) in
      let w = poly_scale small i.0 v in
      let lw : length w ≡ length v = length_multiple small i.0 v in
      let lead : slice_index w n ≡ 1 = index_multiple small i.0 v n ∙ mul_comm small i.0 (slice_index v n) ∙ i.1.one in
      let zw : values w ≡ 0 = value_scaled small large i.0 v a s i.1.inside p.fits ∙ ap (mul large (embed small large i.0)) z ∙ mul_zero large (embed small large i.0) in
      let k : values (drop n w) ≡ 1 = last_kept w n (omega (arith, lw, l)) lead in
      rw k at (vanishes_lower w n (fits_multiple small i.0 v) (omega (arith, lw)) zw)

  up_polynomial : (u : List ℕ) → IsPolynomial small u → 0 < length u → IsPolynomial small (0 ∷ u)
  up_polynomial u p l = record {
    fits = fits_cons small 0 u (zero_inside small) p.fits;
    leads = λ k. last_up u l (p.leads l);
  }

  pub size_reached : CanVanish small large a (size large) 1
  size_reached =
      let q = size large in
      let b : 1 < q = one_inside large in
      let m = q - 1 in
      let x = x_power_minus_one small m in
      let lx : length x ≡ q = length_x_power small m (omega arith) ∙ omega arith in
      let p : IsPolynomial small (0 ∷ x) = up_polynomial x (x_power_polynomial small m) (omega (arith, lx)) in
      let vx : values x ≡ add large (pow large a m) (neg large 1) = ap (λ u. value_at large u a) (embedded_x_power small large m s (omega arith)) ∙ value_x_power large m a (omega arith) in
      let t : mul large a (pow large a m) ≡ a = sym (pow_suc large a m) ∙ (let e : suc m ≡ q = omega arith in ap (pow large a) e) ∙ pow_size large a inside in
      let y : mul large a (neg large 1) ≡ neg large a = mul_neg large a 1 ∙ ap (neg large) (mul_one large a inside) in
      let z : values (0 ∷ x) ≡ 0 = values_cons 0 x ∙ cc (embed_zero small large s, vx, mul_add large a (pow large a m) (neg large 1), t, y, add_neg large a, zero_add large 0 (zero_inside large)) in
      let r : CanVanish small large a (length (0 ∷ x) - 1) 1 = polynomial_reached (0 ∷ x) p (omega arith) z in
      let e : length (0 ∷ x) - 1 ≡ q = omega (arith, lx) in
      rw e at r

  pub upper_none : (degree : ℕ) → CanVanish small large a degree 1 → IsUpper small large a degree degree 1 (set (replicate (degree + 1) 0) degree 1)
  upper_none degree r =
      let l : length {A = ℕ} (replicate (degree + 1) 0) ≡ degree + 1 = length-replicate (degree + 1) 0 in
      let long : length (set (replicate (degree + 1) 0) degree 1) ≡ degree + 1 = length-set (replicate (degree + 1) 0) degree 1 ∙ l in
      let lead : slice_index (set (replicate (degree + 1) 0) degree 1) degree ≡ 1 = get_or-set_same (replicate (degree + 1) 0) degree 1 0 (omega (arith, l)) in
      record {
        long = long;
        fits = fits_set small (replicate (degree + 1) 0) degree 1 (fits_zeros small (degree + 1)) (one_inside small);
        lead = lead;
        inside = one_inside large;
        place_inside = omega arith;
        is = sym (last_kept (set (replicate (degree + 1) 0) degree 1) degree long lead);
        reaches = r;
      }

  pub upper_step : (degree place value : ℕ) (list : List ℕ) (c next : ℕ) → IsUpper small large a degree place value list → 0 < place → c < size small → next ≡ next_value small large a c value → CanVanish small large a (place - 1) next → IsUpper small large a degree (place - 1) next (set list (place - 1) c)
  upper_step degree place value list c next h l k e r =
      let d : drop (place - 1) (set list (place - 1) c) ≡ c ∷ drop (place - 1 + 1) list = drop-set list (place - 1) c (omega (arith, h.long, h.place_inside)) in
      let m : place - 1 + 1 ≡ place = omega arith in
      record {
        long = length-set list (place - 1) c ∙ h.long;
        fits = fits_set small list (place - 1) c h.fits k;
        lead = get_or-set_other list (place - 1) degree c 0 (omega (arith, h.place_inside)) ∙ h.lead;
        inside = rw e (add_inside large (embed small large c) (mul large a value));
        place_inside = omega (arith, h.place_inside);
        is = e ∙ ap (next_value small large a c) h.is ∙ sym (values_cons c (drop place list)) ∙ ap (λ j. values (c ∷ drop j list)) (sym m) ∙ ap values (sym d);
        reaches = r;
      }

  pub minimal_told : (degree place value : ℕ) (list : List ℕ) → IsUpper small large a degree place value list → place ≡ 0 → ((n : ℕ) → n < degree → CanVanish small large a n 1 → ⊥) → IsMinimal small large a list
  minimal_told degree place value list h e none =
      let j : length list - 1 ≡ degree = omega (arith, h.long) in
      let z : value ≡ 0 = none_reached small large a place value e h.reaches in
      let d : values list ≡ 0 = (let q : values (drop place list) ≡ values list = ap (λ i. values (drop i list)) e in sym q ∙ sym h.is ∙ z) in
      record {
        polynomial = record { fits = h.fits; leads = λ l. rw (j, h.lead) (omega arith) };
        monic = rw j h.lead;
        zero_at = d;
        least = λ v pv zv l. ⊎_elim (λ b. absurd (none (length v - 1) (omega (arith, l, h.long, b)) (polynomial_reached v pv b zv))) (λ b. nothing v b) (cases_lt 0 (length v));
      }

pub minimal_trimmed : (small large : FieldName) (a : ℕ) (list p : List ℕ) → IsMinimal small large a list → p ≡ trimmed list → IsMinimal small large a p
minimal_trimmed small large a list p h e =
    let t = trimmed_is small list p h.polynomial.fits e in
    let same : list ≡ p = only_polynomial small list p h.polynomial t.polynomial t.same in
    rw same at h
