-- The zeros of a minimal polynomial are the powers of its zero by powers of the small field's size.
--   raised_product             raising coefficients to the size of the small field keeps products
--   roots_product f rs         the product of x - r, for r in rs
--   value_linear, root_of_product, product_has_root      its zeros
--   roots_last                 the last factor may come first
--   raised_roots               its coefficients raised are those of the raised zeros
--   preimage, preimages        elements that are their own power by that size stand for elements of the small field
--   orbit                      a and its powers by that size
--   minimal_roots, minimal_zeros      the zeros of the minimal polynomial of a are these
--   cyclotomic_roots           and if a is a power, those of its cyclotomic set
use Rattle.std.proofs.Common.{◌≡◌, ◌≢◌, ℕ, zero, suc, ◌+◌, ◌-◌, ◌*◌, ◌/◌, ◌%◌, ◌^◌, ◌<◌, ◌↔◌, ◌⊎◌, inl, inr, ⊎_elim, List, [], ◌∷◌, ◌++◌, length, map, slice_index, Contains, refl, sym, ap, subst, ◌∙◌, arith, mul-zero}
use Rattle.std.proofs.Math.Nat.{pow-suc, pow-zero, pow-succ', mul-suc, mod-add-div}
use Rattle.std.proofs.lemmas.Nat.{pow-add}
use Rattle.std.proofs.lemmas.Bool.{cases_eq}
use Rattle.std.proofs.lemmas.List.{length-map}
use Rattle.lc_algebra.specs.declared.FieldName.{FieldName}
use Rattle.lc_algebra.specs.Field.{shape_of, size, add, neg, mul, pow}
use Rattle.lc_algebra.specs.Word.{Fits}
use Rattle.lc_algebra.specs.Span.{below}
use Rattle.lc_algebra.specs.Polynomial.{value_at, poly_product, x_power_minus_one, SamePolynomial, IsPolynomial}
use Rattle.lc_algebra.specs.Embedding.{IsSubfield, embed, IsMinimal, IsCyclotomicSet}
use Rattle.lc_algebra.proofs.FieldLaws.{zero_inside, one_inside, neg_inside, mul_inside, add_comm, add_neg, neg_add, zero_add, add_zero, mul_add, mul_zero, zero_mul, mul_one, mul_neg, negative_unique, subtract_zero, no_zero_divisors}
use Rattle.lc_algebra.proofs.PowerLaws.{pow_suc, pow_inside, pow_one, one_pow, zero_pow, pow_mul, mul_pow, pow_size}
use Rattle.lc_algebra.proofs.OrderLaws.{power_of_rest}
use Rattle.lc_algebra.proofs.EmbeddingLaws.{embed_inside, embed_injective}
use Rattle.lc_algebra.proofs.WordLaws.{fits_cons}
use Rattle.lc_algebra.proofs.SpanLaws.{contains_head, contains_tail, contains_cases, contains_map, contains_below, length_below}
use Rattle.lc_algebra.proofs.DimensionLaws.{AreDistinct, distinct_map, distinct_below}
use Rattle.lc_algebra.proofs.PolynomialLaws.{index_product_zero, index_product_suc, product_inside, product_commutes, product_associates, product_same, same_product, value_inside, value_product}
use Rattle.lc_poly.proofs.DivisionLaws.{x_power_polynomial}
use Rattle.lc_poly.proofs.MinimalLaws.{value_x_power, length_x_power, last_up}
use Rattle.lc_poly.proofs.ZeroLaws.{few_zeros, value_cons, value_none}
use Rattle.lc_poly.proofs.QuotientLaws.{trimmed_exists, value_embedded_same, value_embedded_product, minimal_divides}
use Rattle.lc_poly.proofs.ConjugateLaws.{small_power_sum, embed_fixed, conjugate_zero, cyclotomic_zeros}

linear : FieldName → ℕ → List ℕ
linear f r = neg f r ∷ 1 ∷ []

unfoldable pub roots_product : FieldName → List ℕ → List ℕ
roots_product f [] = 1 ∷ []
roots_product f (r ∷ rs) = poly_product f (neg f r ∷ 1 ∷ []) (roots_product f rs)

pub value_linear : (f : FieldName) (r x : ℕ) → x < size f → value_at f (neg f r ∷ 1 ∷ []) x ≡ add f (neg f r) x
value_linear f r x l = cc (value_cons f (neg f r) (1 ∷ []) x, value_cons f 1 [] x, value_none f x, mul_zero f x, add_zero f 1 (one_inside f), mul_one f x l)

value_one : (f : FieldName) (x : ℕ) → value_at f (1 ∷ []) x ≡ 1
value_one f x = cc (value_cons f 1 [] x, value_none f x, mul_zero f x, add_zero f 1 (one_inside f))

pub root_of_product : (f : FieldName) (rs : List ℕ) (x : ℕ) → ((r : ℕ) → Contains rs r → r < size f) → x < size f → value_at f (roots_product f rs) x ≡ 0 → Contains rs x
unfolding roots_product
root_of_product f [] x h l z = absurd (omega (arith, value_one f x, z))
root_of_product f (r ∷ rs) x h l z =
    let t : mul f (value_at f (neg f r ∷ 1 ∷ []) x) (value_at f (roots_product f rs) x) ≡ 0 = sym (value_product f (neg f r ∷ 1 ∷ []) (roots_product f rs) x) ∙ z in
    ⊎_elim
    (λ e.
    let d : add f x (neg f r) ≡ 0 = add_comm f x (neg f r) ∙ sym (value_linear f r x l) ∙ e in
    let s : x ≡ r = subtract_zero f x r l (h r (contains_head r rs)) d in
    subst (Contains (r ∷ rs)) (sym s) (contains_head r rs))
    (λ e. contains_tail r x rs (root_of_product f rs x (λ y c. h y (contains_tail r y rs c)) l e))
    (no_zero_divisors f _ _ (value_inside f (neg f r ∷ 1 ∷ []) x) (value_inside f (roots_product f rs) x) t)

pub product_has_root : (f : FieldName) (r : ℕ) (rs : List ℕ) → r < size f → value_at f (roots_product f (r ∷ rs)) r ≡ 0
unfolding roots_product
product_has_root f r rs l = cc (value_product f (neg f r ∷ 1 ∷ []) (roots_product f rs) r, value_linear f r r l, neg_add f r, zero_mul f (value_at f (roots_product f rs) r))

roots_inside : (f : FieldName) (rs : List ℕ) (i : ℕ) → slice_index (roots_product f rs) i < size f
unfolding roots_product
roots_inside f [] zero = one_inside f
roots_inside f [] (suc i) = zero_inside f
roots_inside f (r ∷ rs) i = product_inside f (neg f r ∷ 1 ∷ []) (roots_product f rs) i

product_swapped : (f : FieldName) (u v w : List ℕ) → SamePolynomial (poly_product f u (poly_product f v w)) (poly_product f v (poly_product f u w))
product_swapped f u v w i = sym (product_associates f u v w i) ∙ same_product f (poly_product f u v) (poly_product f v u) w i (product_commutes f u v) ∙ product_associates f v u w i

pub roots_last : (f : FieldName) (rs : List ℕ) (r : ℕ) → SamePolynomial (roots_product f (rs ++ r ∷ [])) (roots_product f (r ∷ rs))
unfolding roots_product
roots_last f [] r i = refl
roots_last f (s ∷ rs) r i = product_same f (neg f s ∷ 1 ∷ []) (roots_product f (rs ++ r ∷ [])) (poly_product f (neg f r ∷ 1 ∷ []) (roots_product f rs)) i (roots_last f rs r) ∙ product_swapped f (neg f s ∷ 1 ∷ []) (neg f r ∷ 1 ∷ []) (roots_product f rs) i

times_power : (n a b : ℕ) → n ^ (a * b) ≡ (n ^ a) ^ b
times_power n a zero = rw (mul-zero a, pow-zero n, pow-zero (n ^ a)) refl
times_power n a (suc b) = rw (mul-suc a b, pow-suc (n ^ a) b, pow-add n (a * b) a) (ap (λ x. x * n ^ a) (times_power n a b))

module _ (small large : FieldName) (sub : IsSubfield small large) where
  abbrev raise : ℕ → ℕ
  raise c = pow large c (size small)

  raise_zero : raise 0 ≡ 0
  raise_zero = zero_pow large (size small) (zero_inside small)

  index_raised : (u : List ℕ) (i : ℕ) → slice_index (map (λ c. pow large c (size small)) u) i ≡ raise (slice_index u i)
  index_raised [] i = sym raise_zero
  index_raised (c ∷ u) zero = refl
  index_raised (c ∷ u) (suc i) = index_raised u i

  pub raised_product : (u v : List ℕ) (i : ℕ) → raise (slice_index (poly_product large u v) i) ≡ slice_index (poly_product large (map (λ c. pow large c (size small)) u) (map (λ c. pow large c (size small)) v)) i
  unfolding poly_product
  raised_product [] v i = raise_zero
  raised_product (c ∷ u) v zero = cc (index_product_zero large c u v, mul_pow large c (slice_index v 0) (size small), index_product_zero large (raise c) (map (λ c. pow large c (size small)) u) (map (λ c. pow large c (size small)) v), index_raised v 0)
  raised_product (c ∷ u) v (suc i) =
      cc (index_product_suc large c u v i, small_power_sum small large sub (mul large c (slice_index v (suc i))) (slice_index (poly_product large u v) i) (mul_inside large c (slice_index v (suc i))) (product_inside large u v i), mul_pow large c (slice_index v (suc i)) (size small), index_product_suc large (raise c) (map (λ c. pow large c (size small)) u) (map (λ c. pow large c (size small)) v) i, index_raised v (suc i), raised_product u v i)

  raise_neg : (r : ℕ) → r < size large → raise (neg large r) ≡ neg large (raise r)
  raise_neg r l = negative_unique large (raise r) (raise (neg large r)) (pow_inside large (neg large r) (size small)) (sym (small_power_sum small large sub r (neg large r) l (neg_inside large r)) ∙ ap raise (add_neg large r) ∙ raise_zero)

  pub raised_roots : (rs : List ℕ) → ((r : ℕ) → Contains rs r → r < size large) → (i : ℕ) → raise (slice_index (roots_product large rs) i) ≡ slice_index (roots_product large (map (λ c. pow large c (size small)) rs)) i
  unfolding roots_product
  raised_roots [] h zero = one_pow large (size small)
  raised_roots [] h (suc i) = raise_zero
  raised_roots (r ∷ rs) h i =
      let P = roots_product large rs in
      let e : map (λ c. pow large c (size small)) (neg large r ∷ 1 ∷ []) ≡ neg large (raise r) ∷ 1 ∷ [] = cc (raise_neg r (h r (contains_head r rs)), one_pow large (size small)) in
      raised_product (neg large r ∷ 1 ∷ []) P i ∙ ap (λ u. slice_index (poly_product large u (map (λ c. pow large c (size small)) P)) i) e ∙ product_same large (neg large (raise r) ∷ 1 ∷ []) (map (λ c. pow large c (size small)) P) (roots_product large (map (λ c. pow large c (size small)) rs)) i (λ j. index_raised P j ∙ raised_roots rs (λ y c. h y (contains_tail r y rs c)) j)

  found : (c n : ℕ) → ((d : ℕ) × (d < n) × (embed small large d ≡ c)) ⊎ ((d : ℕ) → d < n → embed small large d ≢ c)
  found c zero = inr (λ d l. absurd (omega (arith, l)))
  found c (suc n) =
      ⊎_elim
      (λ e. inl (n, omega arith, e))
      (λ e. ⊎_elim (λ t. inl (t.0, omega (arith, t.1), t.2)) (λ h. inr (λ d l. ⊎_elim (λ s. λ k. e (ap (embed small large) (sym s) ∙ k)) (λ s. h d (omega (arith, l, s))) (cases_eq d n))) (found c n))
      (cases_eq (embed small large n) c)

  fixed_zero : (y : ℕ) → y < size large → raise y ≡ y → value_at large (0 ∷ x_power_minus_one large (size small - 1)) y ≡ 0
  fixed_zero y l e =
      let m = size small - 1 in
      let b : 1 < size small = one_inside small in
      let s : suc m ≡ size small = omega arith in
      let t : mul large y (pow large y m) ≡ y = sym (pow_suc large y m) ∙ ap (pow large y) s ∙ e in
      cc (value_cons large 0 (x_power_minus_one large m) y, value_x_power large m y (omega arith), mul_add large y (pow large y m) (neg large 1), t, mul_neg large y 1, mul_one large y l, add_neg large y, zero_add large 0 (zero_inside large))

  pub preimage : (c : ℕ) → c < size large → raise c ≡ c → (d : ℕ) × (d < size small) × (embed small large d ≡ c)
  preimage c l e =
      ⊎_elim (λ t. t)
      (λ h.
      let q = size small in
      let b : 1 < q = one_inside small in
      let X = x_power_minus_one large (q - 1) in
      let U = 0 ∷ X in
      let images = map (embed small large) (below q) in
      let lX : length X ≡ q - 1 + 1 = length_x_power large (q - 1) (omega arith) in
      let li : length images ≡ q = length-map (below q) (embed small large) ∙ length_below q in
      let p : IsPolynomial large X = x_power_polynomial large (q - 1) in
      let lead : 0 < slice_index U (length U - 1) = last_up X (omega (arith, lX)) (p.leads (omega (arith, lX))) in
      let distinct : AreDistinct (c ∷ images) = (
        (λ m. let t = contains_map (embed small large) (below q) c m in h t.0 (contains_below q t.0 t.1) (sym t.2)),
        distinct_map (embed small large) (below q) (λ x y s t k. embed_injective small large x y sub (contains_below q x s) (contains_below q y t) k) (distinct_below q),
      ) in
      let zeros : (x : ℕ) → Contains (c ∷ images) x → (x < size large) × (value_at large U x ≡ 0) = λ x m.
      ⊎_elim
      (λ s. subst (λ y. (y < size large) × (value_at large U y ≡ 0)) s (l, fixed_zero c l e))
      (λ s.
      let t = contains_map (embed small large) (below q) x s in
      subst (λ y. (y < size large) × (value_at large U y ≡ 0)) (sym t.2) (embed_inside small large t.0, fixed_zero (embed small large t.0) (embed_inside small large t.0) (embed_fixed small large sub t.0 (contains_below q t.0 t.1))))
      (contains_cases c x images m) in
      let z : slice_index U (length U - 1) ≡ 0 = few_zeros large U (c ∷ images) (fits_cons large 0 X (zero_inside large) p.fits) distinct zeros (omega (arith, lX, li)) (length U - 1) in
      absurd (omega (arith, lead, z)))
      (found c (size small))

  pub preimages : (P : List ℕ) → ((i : ℕ) → slice_index P i < size large) → ((i : ℕ) → raise (slice_index P i) ≡ slice_index P i) → (u : List ℕ) × Fits small u × (map (embed small large) u ≡ P)
  preimages [] l h = ([], (λ i k. zero_inside small), refl)
  preimages (c ∷ P) l h =
      let d = preimage c (l 0) (h 0) in
      let t = preimages P (λ i. l (suc i)) (λ i. h (suc i)) in
      (d.0 ∷ t.0, fits_cons small d.0 t.0 d.1 t.1, cc (d.2, t.2))

  pub orbit : ℕ → ℕ → List ℕ
  orbit a zero = []
  orbit a (suc n) = a ∷ orbit (pow large a (size small)) n

  orbit_raised : (a n : ℕ) → map (λ c. pow large c (size small)) (orbit a n) ≡ orbit (raise a) n
  unfolding orbit
  orbit_raised a zero = refl
  orbit_raised a (suc n) = ap (λ u. raise a ∷ u) (orbit_raised (raise a) n)

  one_more_power : (a n : ℕ) → pow large (raise a) (size small ^ n) ≡ pow large a (size small ^ suc n)
  one_more_power a n = sym (pow_mul large a (size small) (size small ^ n)) ∙ ap (pow large a) (sym (pow-succ' (size small) n))

  orbit_last : (a n : ℕ) → a < size large → orbit a (suc n) ≡ orbit a n ++ pow large a (size small ^ n) ∷ []
  unfolding orbit
  orbit_last a zero l = cc (ap (pow large a) (pow-zero (size small)), pow_one large a l)
  orbit_last a (suc n) l = ap (λ u. a ∷ u) (orbit_last (raise a) n (pow_inside large a (size small)) ∙ ap (λ x. orbit (raise a) n ++ x ∷ []) (one_more_power a n))

  pub orbit_power : (a n b : ℕ) → a < size large → Contains (orbit a n) b → (j : ℕ) × (b ≡ pow large a (size small ^ j))
  unfolding orbit
  orbit_power a zero b l c = absurd (omega (arith, c.1))
  orbit_power a (suc n) b l c =
      ⊎_elim
      (λ e. (0, sym (ap (pow large a) (pow-zero (size small)) ∙ pow_one large a l ∙ e)))
      (λ d. let t = orbit_power (raise a) n b (pow_inside large a (size small)) d in (suc t.0, t.1 ∙ one_more_power a t.0))
      (contains_cases a b (orbit (raise a) n) c)

  orbit_inside : (a n : ℕ) → a < size large → (r : ℕ) → Contains (orbit a n) r → r < size large
  orbit_inside a n l r c = let t = orbit_power a n r l c in rw (t.1) (pow_inside large a (size small ^ t.0))

  orbit_fixed : (a k : ℕ) → a < size large → pow large a (size small ^ suc k) ≡ a → (i : ℕ) → raise (slice_index (roots_product large (orbit a (suc k))) i) ≡ slice_index (roots_product large (orbit a (suc k))) i
  unfolding orbit
  orbit_fixed a k l e i =
      let L = orbit (raise a) k in
      let m : map (λ c. pow large c (size small)) (orbit a (suc k)) ≡ L ++ a ∷ [] = orbit_raised a (suc k) ∙ orbit_last (raise a) k (pow_inside large a (size small)) ∙ ap (λ x. L ++ x ∷ []) (one_more_power a k ∙ e) in
      raised_roots (orbit a (suc k)) (orbit_inside a (suc k) l) i ∙ ap (λ u. slice_index (roots_product large u) i) m ∙ roots_last large L a i

  pub roots_of_minimal : (a k : ℕ) (u : List ℕ) (b : ℕ) → a < size large → pow large a (size small ^ suc k) ≡ a → IsMinimal small large a u → b < size large → value_at large (map (embed small large) u) b ≡ 0 → (j : ℕ) × (b ≡ pow large a (size small ^ j))
  unfolding orbit
  roots_of_minimal a k u b l e m lb z =
      let rs = orbit a (suc k) in
      let P = roots_product large rs in
      let t = preimages P (roots_inside large rs) (orbit_fixed a k l e) in
      let v = trimmed_exists small t.0 t.1 in
      let same : (x : ℕ) → value_at large (map (embed small large) v.0) x ≡ value_at large P x = λ x. sym (value_embedded_same small large sub t.0 v.0 x v.1.same) ∙ ap (λ w. value_at large w x) t.2 in
      let za : value_at large (map (embed small large) v.0) a ≡ 0 = same a ∙ product_has_root large a (orbit (raise a) k) l in
      let d = minimal_divides small large sub a u v.0 m v.1.polynomial za in
      let zb : value_at large P b ≡ 0 = sym (same b) ∙ value_embedded_same small large sub v.0 (poly_product small d.0 u) b d.2 ∙ value_embedded_product small large sub d.0 u b d.1.fits m.polynomial.fits ∙ ap (mul large (value_at large (map (embed small large) d.0) b)) z ∙ mul_zero large (value_at large (map (embed small large) d.0) b) in
      orbit_power a (suc k) b l (root_of_product large rs b (orbit_inside a (suc k) l) lb zb)

  at_least_one : (m : ℕ) → size large ≡ size small ^ m → (k : ℕ) × (size large ≡ size small ^ suc k)
  at_least_one zero e = absurd (omega (arith, one_inside large, e ∙ pow-zero (size small)))
  at_least_one (suc k) e = (k, e)

  pub size_power : (k : ℕ) × (size large ≡ size small ^ suc k)
  unfolding size
  size_power =
      let p = (shape_of large).characteristic in
      let s = (shape_of small).degree in
      let m = (shape_of large).degree / s in
      let d : (shape_of large).degree ≡ s * m = omega (arith, sub.degree, mod-add-div (shape_of large).degree s) in
      at_least_one m (ap (λ x. p ^ x) d ∙ times_power p s m ∙ ap (λ x. (x ^ s) ^ m) (sym sub.characteristic))

  pub minimal_roots : (a : ℕ) (u : List ℕ) (b : ℕ) → a < size large → IsMinimal small large a u → b < size large → value_at large (map (embed small large) u) b ≡ 0 → (j : ℕ) × (b ≡ pow large a (size small ^ j))
  minimal_roots a u b l m lb z =
      let t = size_power in
      roots_of_minimal a t.0 u b l (ap (pow large a) (sym t.1) ∙ pow_size large a l) m lb z

  pub minimal_zeros : (a : ℕ) (u : List ℕ) (b : ℕ) → a < size large → IsMinimal small large a u → b < size large → (value_at large (map (embed small large) u) b ≡ 0) ↔ ((j : ℕ) × (b ≡ pow large a (size small ^ j)))
  minimal_zeros a u b l m lb = (
    minimal_roots a u b l m lb,
    (λ t. ap (value_at large (map (embed small large) u)) t.1 ∙ conjugate_zero small large sub u a t.0 m.polynomial.fits l m.zero_at),
  )

  pub cyclotomic_roots : (a n i : ℕ) (xs u : List ℕ) (b : ℕ) → pow large a n ≡ 1 → IsCyclotomicSet n (size small) i xs → IsMinimal small large (pow large a i) u → b < size large → (value_at large (map (embed small large) u) b ≡ 0) ↔ ((k : ℕ) × Contains xs k × (b ≡ pow large a k))
  cyclotomic_roots a n i xs u b o s m lb = (
    (λ z.
        let t = minimal_roots (pow large a i) u b (pow_inside large a i) m lb z in
        let k = (i * size small ^ t.0) % n in
        (k, (s.members k).1 (t.0, refl), t.1 ∙ sym (pow_mul large a i (size small ^ t.0)) ∙ sym (power_of_rest large a n (i * size small ^ t.0) o))),
    (λ t. ap (value_at large (map (embed small large) u)) t.2 ∙ cyclotomic_zeros small large sub u a n i xs m.polynomial.fits o s m.zero_at t.0 t.1),
  )
