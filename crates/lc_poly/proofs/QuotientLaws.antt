-- Quotients and remainders exist, and a minimal polynomial divides each polynomial with its zero.
--   trimmed_exists             a list of elements has a polynomial without last zeros
--   division_exists            there are a quotient and a remainder
--   index_embedded             the coefficients of a polynomial, seen in a larger field
--   value_embedded_same, value_embedded_sum, value_embedded_product      values in a larger field of sums and products
--   minimal_divides            each polynomial over the small field with the zero is a multiple of the minimal one
use Rattle.std.proofs.Common.{◌≡◌, ℕ, zero, suc, ◌-◌, ◌<◌, ◌≤◌, ⊎_elim, List, [], ◌∷◌, length, map, slice_index, take, refl, sym, ap, ◌∙◌, arith}
use Rattle.std.proofs.lemmas.Bool.{cases_lt, cases_eq}
use Rattle.std.proofs.lemmas.List.{get_or_past, get_or-take, length-take}
use Rattle.lc_algebra.specs.declared.FieldName.{FieldName}
use Rattle.lc_algebra.specs.Field.{size, add, neg, mul}
use Rattle.lc_algebra.specs.Word.{Fits}
use Rattle.lc_algebra.specs.Polynomial.{value_at, poly_sum, poly_scale, poly_product, SamePolynomial, IsPolynomial, IsDivision, Divides, trimmed}
use Rattle.lc_algebra.specs.Embedding.{IsSubfield, embed, IsMinimal}
use Rattle.lc_algebra.proofs.FieldLaws.{zero_inside, mul_inside, zero_add, add_zero, mul_comm, mul_assoc, mul_add, add_mul, mul_zero, zero_mul, mul_one, neg_mul, inverse_of}
use Rattle.lc_algebra.proofs.EmbeddingLaws.{embed_zero, embed_add}
use Rattle.lc_algebra.proofs.WordLaws.{fits_head, fits_tail, fits_cons, fits_symbol, add_exchange, fits_take}
use Rattle.lc_algebra.proofs.PolynomialLaws.{index_sum, index_multiple, fits_sum, fits_multiple, fits_product, same_product, value_inside, value_same, no_longer}
use Rattle.lc_poly.proofs.TrimLaws.{IsTrimmed, trimmed_is}
use Rattle.lc_poly.proofs.ListLaws.{part_high, one_more}
use Rattle.lc_poly.proofs.DivisionLaws.{divides_exactly}
use Rattle.lc_poly.proofs.MinimalLaws.{value_scaled}
use Rattle.lc_poly.proofs.ZeroLaws.{undone}

pub trimmed_exists : (f : FieldName) (u : List ℕ) → Fits f u → (v : List ℕ) × IsTrimmed f u v
trimmed_exists f u h = (trimmed u, trimmed_is f u (trimmed u) h refl)

record AreParts (f : FieldName) (m : ℕ) (b a q r : List ℕ) : Type 0 where
  quotient : Fits f q
  remainder : Fits f r
  short : length r ≤ m
  whole : (k : ℕ) → slice_index a k ≡ add f (slice_index (poly_product f q b) k) (slice_index r k)

parts_none : (f : FieldName) (m : ℕ) (b : List ℕ) → AreParts f m b [] [] []
unfolding poly_product
parts_none f m b = record { quotient = λ i l. zero_inside f; remainder = λ i l. zero_inside f; short = omega arith; whole = λ k. sym (zero_add f 0 (zero_inside f)) }

parts_more : (f : FieldName) (m : ℕ) (b : List ℕ) (c : ℕ) (a q r : List ℕ) → Fits f b → length b ≡ suc m → 0 < slice_index b m → c < size f → AreParts f m b a q r → (p : List ℕ) × (s : List ℕ) × AreParts f m b (c ∷ a) p s
parts_more f m b c a q r hb eb lead l h =
    let i = inverse_of f (slice_index b m) (fits_symbol f b hb m) lead in
    let fr : Fits f (c ∷ r) = fits_cons f c r l h.remainder in
    let hr : (k : ℕ) → slice_index (c ∷ r) k < size f = fits_symbol f (c ∷ r) fr in
    let factor = mul f (slice_index (c ∷ r) m) i.0 in
    let w = poly_sum f (c ∷ r) (poly_scale f (neg f factor) b) in
    let fw : Fits f w = fits_sum f (c ∷ r) (poly_scale f (neg f factor) b) fr (fits_multiple f (neg f factor) b) in
    let s = take m w in
    let fs : Fits f s = fits_take f m w fw in
    let top : mul f factor (slice_index b m) ≡ slice_index (c ∷ r) m = cc (mul_assoc f (slice_index (c ∷ r) m) i.0 (slice_index b m), mul_comm f i.0 (slice_index b m), i.1.one, mul_one f (slice_index (c ∷ r) m) (hr m)) in
    let g : (k : ℕ) → add f (mul f factor (slice_index b k)) (slice_index s k) ≡ slice_index (c ∷ r) k = λ k.
    ⊎_elim
    (λ n.
    let e : slice_index s k ≡ add f (slice_index (c ∷ r) k) (mul f (neg f factor) (slice_index b k)) = get_or-take m w k 0 n ∙ index_sum f (c ∷ r) (poly_scale f (neg f factor) b) k fr (fits_multiple f (neg f factor) b) ∙ ap (add f (slice_index (c ∷ r) k)) (index_multiple f (neg f factor) b k) in
    cc (e, neg_mul f factor (slice_index b k), undone f (slice_index (c ∷ r) k) (mul f factor (slice_index b k)) (hr k)))
    (λ n.
    let e : slice_index s k ≡ 0 = part_high w m k n in
    ⊎_elim
    (λ d. let t : mul f factor (slice_index b k) ≡ slice_index (c ∷ r) k = rw d top in cc (e, t, add_zero f (slice_index (c ∷ r) k) (hr k)))
    (λ d. cc (e, get_or_past b k 0 (omega (arith, d, n, eb)), mul_zero f factor, zero_add f 0 (zero_inside f), get_or_past (c ∷ r) k 0 (omega (arith, d, n, h.short))))
    (cases_eq k m))
    (cases_lt k m) in (
      factor ∷ q,
      s,
      record {
        quotient = fits_cons f factor q (mul_inside f (slice_index (c ∷ r) m) i.0) h.quotient;
        remainder = fs;
        short = omega (arith, length-take m w);
        whole = one_more f b q a r s c factor l (fits_symbol f s fs) h.whole g;
      },
    )

parts_exist : (f : FieldName) (m : ℕ) (b a : List ℕ) → Fits f b → length b ≡ suc m → 0 < slice_index b m → Fits f a → (q : List ℕ) × (r : List ℕ) × AreParts f m b a q r
parts_exist f m b [] hb eb lead h = ([], [], parts_none f m b)
parts_exist f m b (c ∷ a) hb eb lead h =
    let t = parts_exist f m b a hb eb lead (fits_tail f c a h) in
    parts_more f m b c a t.0 t.1 hb eb lead (fits_head f c a h) t.2

pub division_exists : (f : FieldName) (a b : List ℕ) → Fits f a → IsPolynomial f b → 0 < length b → (q : List ℕ) × (r : List ℕ) × IsDivision f a b q r
division_exists f a b h p l =
    let t = parts_exist f (length b - 1) b a p.fits (omega arith) (p.leads l) h in
    let q = trimmed_exists f t.0 t.2.quotient in
    let r = trimmed_exists f t.1 t.2.remainder in (
      q.0,
      r.0,
      record {
        quotient = q.1.polynomial;
        remainder = r.1.polynomial;
        lower = omega (arith, t.2.short, no_longer f t.1 r.0 r.1.polynomial r.1.same);
        whole = λ k. t.2.whole k ∙ cc (same_product f t.0 q.0 b k q.1.same, r.1.same k) ∙ sym (index_sum f (poly_product f q.0 b) r.0 k (fits_product f q.0 b) r.1.polynomial.fits);
      },
    )

module _ (small large : FieldName) (sub : IsSubfield small large) where
  abbrev seen : List ℕ → List ℕ
  seen u = map (embed small large) u

  pub index_embedded : (u : List ℕ) (i : ℕ) → slice_index (seen u) i ≡ embed small large (slice_index u i)
  index_embedded [] i = sym (embed_zero small large sub)
  index_embedded (c ∷ u) zero = refl
  index_embedded (c ∷ u) (suc i) = index_embedded u i

  pub value_embedded_same : (u v : List ℕ) (x : ℕ) → SamePolynomial u v → value_at large (seen u) x ≡ value_at large (seen v) x
  value_embedded_same u v x h = value_same large (seen u) (seen v) x (λ i. index_embedded u i ∙ ap (embed small large) (h i) ∙ sym (index_embedded v i))

  pub value_embedded_sum : (u v : List ℕ) (x : ℕ) → Fits small u → Fits small v → value_at large (seen (poly_sum small u v)) x ≡ add large (value_at large (seen u) x) (value_at large (seen v) x)
  unfolding value_at poly_sum
  value_embedded_sum [] v x h k = sym (zero_add large _ (value_inside large (seen v) x))
  value_embedded_sum (a ∷ u) [] x h k = sym (add_zero large _ (value_inside large (seen (a ∷ u)) x))
  value_embedded_sum (a ∷ u) (b ∷ v) x h k =
      let U = value_at large (seen u) x in
      let V = value_at large (seen v) x in
      cc (value_embedded_sum u v x (fits_tail small a u h) (fits_tail small b v k), embed_add small large a b sub (fits_head small a u h) (fits_head small b v k), mul_add large x U V, add_exchange large (embed small large a) (embed small large b) (mul large x U) (mul large x V))

  pub value_embedded_product : (u v : List ℕ) (x : ℕ) → Fits small u → Fits small v → value_at large (seen (poly_product small u v)) x ≡ mul large (value_at large (seen u) x) (value_at large (seen v) x)
  unfolding value_at poly_product
  value_embedded_product [] v x h k = sym (zero_mul large _)
  value_embedded_product (c ∷ u) v x h k =
      let U = value_at large (seen u) x in
      let V = value_at large (seen v) x in
      let P = value_at large (seen (poly_product small u v)) x in
      let up : value_at large (seen (0 ∷ poly_product small u v)) x ≡ mul large x P = ap (λ y. add large y (mul large x P)) (embed_zero small large sub) ∙ zero_add large (mul large x P) (mul_inside large x P) in
      cc (value_embedded_sum (poly_scale small c v) (0 ∷ poly_product small u v) x (fits_multiple small c v) (fits_cons small 0 (poly_product small u v) (zero_inside small) (fits_product small u v)), value_scaled small large c v x sub (fits_head small c u h) k, up, value_embedded_product u v x (fits_tail small c u h) k, mul_assoc large x U V, add_mul large (embed small large c) (mul large x U) V)

  nonempty : (u : List ℕ) → slice_index u (length u - 1) ≡ 1 → 0 < length u
  nonempty [] h = absurd (omega (arith, h))
  nonempty (c ∷ u) h = omega arith

  pub minimal_divides : (a : ℕ) (u v : List ℕ) → IsMinimal small large a u → IsPolynomial small v → value_at large (seen v) a ≡ 0 → Divides small u v
  minimal_divides a u v m p z =
      let l : 0 < length u = nonempty u m.monic in
      let t = division_exists small v u p.fits m.polynomial l in
      let q = t.0 in
      let r = t.1 in
      let d = t.2 in
      let Q = value_at large (seen q) a in
      let R = value_at large (seen r) a in
      let e : value_at large (seen v) a ≡ add large (mul large Q (value_at large (seen u) a)) R = value_embedded_same v (poly_sum small (poly_product small q u) r) a d.whole ∙ value_embedded_sum (poly_product small q u) r a (fits_product small q u) d.remainder.fits ∙ ap (λ y. add large y R) (value_embedded_product q u a d.quotient.fits m.polynomial.fits) in
      let zr : R ≡ 0 = sym (cc (e, m.zero_at, mul_zero large Q, zero_add large R (value_inside large (seen r) a))) ∙ z in
      let n : r ≡ [] = m.least r d.remainder zr d.lower in
      (divides_exactly small v u q r m.polynomial d).0 n
