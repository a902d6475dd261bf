-- The polynomial over a small field that has exactly some elements of a large one as its zeros: the product of x - r has coefficients
-- in the small field if the elements come with their powers by its size (MacWilliams and Sloane, chapters 4 and 7).
--   one_times, linear_times      products with 1 and with c + x
--   roots_top, roots_high      the product of x - r has last coefficient 1
--   roots_zero             and is 0 at each r
--   raise_once             elements are told by their powers
--   monic_same             polynomials of one degree with last coefficient 1 and as many common zeros are equal
--   roots_fixed            the coefficients are their own powers by the size of the small field
--   AreConjugate           different elements of the large field, with their powers
--   zero_polynomial        the polynomial over the small field
--   zeros_divide           it divides each polynomial with these zeros
use Rattle.std.proofs.Common.{◌≡◌, ℕ, zero, suc, ◌-◌, ◌^◌, ◌<◌, ◌≤◌, ⊎_elim, List, [], ◌∷◌, map, length, slice_index, Contains, refl, sym, ap, subst, ◌∙◌, arith}
use Rattle.std.proofs.Math.Nat.{pow-succ'}
use Rattle.std.proofs.lemmas.Bool.{cases_lt, cases_eq}
use Rattle.std.proofs.lemmas.List.{get_or_past, length-map}
use Rattle.lc_algebra.specs.declared.FieldName.{FieldName}
use Rattle.lc_algebra.specs.Field.{size, add, neg, mul, pow}
use Rattle.lc_algebra.specs.Word.{Fits}
use Rattle.lc_algebra.specs.Polynomial.{value_at, poly_sum, poly_scale, poly_product, SamePolynomial, IsPolynomial, Divides}
use Rattle.lc_algebra.specs.Embedding.{IsSubfield, embed}
use Rattle.lc_algebra.proofs.FieldLaws.{zero_inside, one_inside, mul_inside, add_zero, zero_add, add_neg, mul_zero, one_mul, neg_one_mul, subtract_zero}
use Rattle.lc_algebra.proofs.PowerLaws.{pow_inside, pow_mul, pow_size}
use Rattle.lc_algebra.proofs.EmbeddingLaws.{embed_inside, embed_zero, embed_injective}
use Rattle.lc_algebra.proofs.WordLaws.{fits_symbol, fits_one}
use Rattle.lc_algebra.proofs.SpanLaws.{contains_cases, contains_map}
use Rattle.lc_algebra.proofs.DimensionLaws.{AreDistinct, distinct_map}
use Rattle.lc_algebra.proofs.PolynomialLaws.{index_sum, index_multiple, index_both, index_product_suc, fits_sum, fits_multiple, fits_product, value_inside, value_same, value_sum, value_multiple, value_product}
use Rattle.lc_algebra.proofs.CommonLaws.{zero_at}
use Rattle.lc_poly.proofs.ListLaws.{nothing_times}
use Rattle.lc_poly.proofs.DivisionLaws.{divides_exactly}
use Rattle.lc_poly.proofs.ZeroLaws.{few_zeros}
use Rattle.lc_poly.proofs.QuotientLaws.{trimmed_exists, division_exists, index_embedded, value_embedded_same, value_embedded_sum, value_embedded_product}
use Rattle.lc_poly.proofs.RootLaws.{roots_product, product_has_root, raised_roots, preimages, size_power}
use Rattle.lc_poly.proofs.DegreeLaws.{listed, length_listed, listed_word, listed_same}

pub one_times : (f : FieldName) (v : List ℕ) (i : ℕ) → Fits f v → slice_index (poly_product f (1 ∷ []) v) i ≡ slice_index v i
one_times f v i h =
    index_both f 1 [] v i ∙ ap (λ w. add f (mul f 1 (slice_index v i)) (slice_index (0 ∷ w) i)) (nothing_times f v) ∙ ap (add f (mul f 1 (slice_index v i))) (zero_at i)
    ∙ add_zero f (mul f 1 (slice_index v i)) (mul_inside f 1 (slice_index v i)) ∙ one_mul f (slice_index v i) (fits_symbol f v h i)

linear_times : (f : FieldName) (c : ℕ) (v : List ℕ) (i : ℕ) → Fits f v → slice_index (poly_product f (c ∷ 1 ∷ []) v) (suc i) ≡ add f (mul f c (slice_index v (suc i))) (slice_index v i)
linear_times f c v i h = index_product_suc f c (1 ∷ []) v i ∙ ap (add f (mul f c (slice_index v (suc i)))) (one_times f v i h)

pub fits_roots : (f : FieldName) (rs : List ℕ) → Fits f (roots_product f rs)
unfolding roots_product
fits_roots f [] = fits_one f
fits_roots f (r ∷ rs) = fits_product f (neg f r ∷ 1 ∷ []) (roots_product f rs)

pub roots_high : (f : FieldName) (rs : List ℕ) (i : ℕ) → length rs < i → slice_index (roots_product f rs) i ≡ 0
unfolding roots_product
roots_high f [] zero l = absurd (omega (arith, l))
roots_high f [] (suc i) l = get_or_past {X = ℕ} [] i 0 (omega arith)
roots_high f (r ∷ rs) zero l = absurd (omega (arith, l))
roots_high f (r ∷ rs) (suc i) l =
    let P = roots_product f rs in
    linear_times f (neg f r) P i (fits_roots f rs) ∙ cc (roots_high f rs (suc i) (omega (arith, l)), roots_high f rs i (omega (arith, l)), mul_zero f (neg f r), zero_add f 0 (zero_inside f))

pub roots_top : (f : FieldName) (rs : List ℕ) → slice_index (roots_product f rs) (length rs) ≡ 1
unfolding roots_product
roots_top f [] = refl
roots_top f (r ∷ rs) =
    let P = roots_product f rs in
    linear_times f (neg f r) P (length rs) (fits_roots f rs) ∙ cc (roots_high f rs (suc (length rs)) (omega arith), roots_top f rs, mul_zero f (neg f r), zero_add f 1 (one_inside f))

pub roots_zero : (f : FieldName) (rs : List ℕ) (x : ℕ) → x < size f → Contains rs x → value_at f (roots_product f rs) x ≡ 0
unfolding roots_product
roots_zero f [] x l c = absurd (omega (arith, c.1))
roots_zero f (r ∷ rs) x l c =
    ⊎_elim
    (λ e. ap (λ s. value_at f (poly_product f (neg f s ∷ 1 ∷ []) (roots_product f rs)) x) e ∙ product_has_root f x rs l)
    (λ t. value_product f (neg f r ∷ 1 ∷ []) (roots_product f rs) x ∙ ap (mul f (value_at f (neg f r ∷ 1 ∷ []) x)) (roots_zero f rs x l t) ∙ mul_zero f (value_at f (neg f r ∷ 1 ∷ []) x))
    (contains_cases r x rs c)

pub monic_same : (f : FieldName) (u v xs : List ℕ) → Fits f u → Fits f v → AreDistinct xs → ((x : ℕ) → Contains xs x → (x < size f) × (value_at f u x ≡ 0) × (value_at f v x ≡ 0)) → ((i : ℕ) → length xs ≤ i → slice_index u i ≡ slice_index v i) → SamePolynomial u v
monic_same f u v xs hu hv d z same i =
    let minus = poly_scale f (neg f 1) v in
    let D = poly_sum f u minus in
    let m = length xs in
    let fits : Fits f D = fits_sum f u minus hu (fits_multiple f (neg f 1) v) in
    let at : (j : ℕ) → slice_index D j ≡ add f (slice_index u j) (neg f (slice_index v j)) = λ j. index_sum f u minus j hu (fits_multiple f (neg f 1) v) ∙ ap (add f (slice_index u j)) (index_multiple f (neg f 1) v j ∙ neg_one_mul f (slice_index v j)) in
    let high : (j : ℕ) → m ≤ j → slice_index D j ≡ 0 = λ j l. at j ∙ ap (λ y. add f y (neg f (slice_index v j))) (same j l) ∙ add_neg f (slice_index v j) in
    let L = listed m D in
    let zeros : (x : ℕ) → Contains xs x → (x < size f) × (value_at f L x ≡ 0) = λ x c.
    let (l, a, b) = z x c in
    (l, value_same f L D x (listed_same m D high) ∙ value_sum f u minus x ∙ cc (a, value_multiple f (neg f 1) v x, b, mul_zero f (neg f 1), zero_add f 0 (zero_inside f))) in
    let none : slice_index D i ≡ 0 = sym (listed_same m D high i) ∙ few_zeros f L xs (listed_word f m D fits).fits d zeros (omega (arith, length_listed m D)) i in
    subtract_zero f (slice_index u i) (slice_index v i) (fits_symbol f u hu i) (fits_symbol f v hv i) (sym (at i) ∙ none)

pub record AreConjugate (small large : FieldName) (rs : List ℕ) : Type 0 where
  pub inside : (r : ℕ) → Contains rs r → r < size large
  pub distinct : AreDistinct rs
  pub powers : (r : ℕ) → Contains rs r → Contains rs (pow large r (size small))

module _ (small large : FieldName) (sub : IsSubfield small large) where
  abbrev raise : ℕ → ℕ
  raise c = pow large c (size small)

  raise_once : (a b : ℕ) → a < size large → b < size large → raise a ≡ raise b → a ≡ b
  raise_once a b l m e =
      let t = size_power small large sub in
      let back : (c : ℕ) → c < size large → pow large (raise c) (size small ^ t.0) ≡ c = λ c k. sym (pow_mul large c (size small) (size small ^ t.0)) ∙ ap (pow large c) (sym (pow-succ' (size small) t.0) ∙ sym t.1) ∙ pow_size large c k in
      sym (back a l) ∙ ap (λ c. pow large c (size small ^ t.0)) e ∙ back b m

  roots_fixed : (rs : List ℕ) → AreConjugate small large rs → (i : ℕ) → raise (slice_index (roots_product large rs) i) ≡ slice_index (roots_product large rs) i
  roots_fixed rs c i =
      let ss = map (λ r. pow large r (size small)) rs in
      let P = roots_product large rs in
      let Q = roots_product large ss in
      let m : length ss ≡ length rs = length-map rs (λ r. pow large r (size small)) in
      let apart : AreDistinct ss = distinct_map (λ r. pow large r (size small)) rs (λ x y a b e. raise_once x y (c.inside x a) (c.inside y b) e) c.distinct in
      let zeros : (x : ℕ) → Contains ss x → (x < size large) × (value_at large Q x ≡ 0) × (value_at large P x ≡ 0) = λ x s.
      let (r, a, e) = contains_map (λ r. pow large r (size small)) rs x s in
      let l : x < size large = subst (λ y. y < size large) (sym e) (pow_inside large r (size small)) in
      (l, roots_zero large ss x l s, roots_zero large rs x l (subst (Contains rs) (sym e) (c.powers r a))) in
      let above : (j : ℕ) → length ss ≤ j → slice_index Q j ≡ slice_index P j = λ j l.
      ⊎_elim
      (λ e. ap (slice_index Q) (e ∙ sym m) ∙ roots_top large ss ∙ sym (ap (slice_index P) e ∙ roots_top large rs))
      (λ e. roots_high large ss j (omega (arith, l, e, m)) ∙ sym (roots_high large rs j (omega (arith, l, e, m))))
      (cases_eq j (length rs)) in
      raised_roots small large sub rs c.inside i ∙ monic_same large Q P ss (fits_roots large ss) (fits_roots large rs) apart zeros above i

  pub zero_polynomial : (rs : List ℕ) → AreConjugate small large rs → (u : List ℕ) × IsPolynomial small u × (length u ≡ suc (length rs)) × ((r : ℕ) → Contains rs r → value_at large (map (embed small large) u) r ≡ 0)
  zero_polynomial rs c =
      let P = roots_product large rs in
      let m = length rs in
      let (t, fits, e) = preimages small large sub P (fits_symbol large P (fits_roots large rs)) (roots_fixed rs c) in
      let (u, k) = trimmed_exists small t fits in
      let seen : (i : ℕ) → embed small large (slice_index u i) ≡ slice_index P i = λ i. ap (embed small large) (sym (k.same i)) ∙ sym (index_embedded small large sub t i) ∙ ap (λ w. slice_index w i) e in
      let nonzero : slice_index u m ≡ 0 → ⊥ = λ z. absurd (omega (arith, seen m, roots_top large rs, ap (embed small large) z, embed_zero small large sub)) in
      let high : (i : ℕ) → m < i → slice_index u i ≡ 0 = λ i l. embed_injective small large (slice_index u i) 0 sub (fits_symbol small u k.polynomial.fits i) (zero_inside small) (seen i ∙ roots_high large rs i l ∙ sym (embed_zero small large sub)) in
      let long : length u ≡ suc m = ⊎_elim
      (λ l. absurd (nonzero (get_or_past u m 0 (omega (arith, l)))))
      (λ l. ⊎_elim (λ b. absurd (omega (arith, k.polynomial.leads (omega (arith, b)), high (length u - 1) (omega (arith, b))))) (λ b. omega (arith, l, b)) (cases_lt (suc m) (length u)))
      (cases_lt (length u) (suc m)) in
      (u, k.polynomial, long, (λ r a. sym (value_embedded_same small large sub t u r k.same) ∙ ap (λ w. value_at large w r) e ∙ roots_zero large rs r (c.inside r a) a))

  pub zeros_divide : (rs u v : List ℕ) → AreConjugate small large rs → IsPolynomial small u → length u ≡ suc (length rs) → ((r : ℕ) → Contains rs r → value_at large (map (embed small large) u) r ≡ 0) → Fits small v → ((r : ℕ) → Contains rs r → value_at large (map (embed small large) v) r ≡ 0) → Divides small u v
  zeros_divide rs u v c p e zu h zv =
      let (q, r, d) = division_exists small v u h p (omega (arith, e)) in
      let Q = poly_product small q u in
      let zeros : (x : ℕ) → Contains rs x → (x < size large) × (value_at large (map (embed small large) r) x ≡ 0) = λ x a.
      let R = value_at large (map (embed small large) r) x in
      let s : value_at large (map (embed small large) v) x ≡ add large (mul large (value_at large (map (embed small large) q) x) (value_at large (map (embed small large) u) x)) R = value_embedded_same small large sub v (poly_sum small Q r) x d.whole ∙ value_embedded_sum small large sub Q r x (fits_product small q u) d.remainder.fits ∙ ap (λ y. add large y R) (value_embedded_product small large sub q u x d.quotient.fits p.fits) in
      (c.inside x a, sym (cc (s, zu x a, mul_zero large (value_at large (map (embed small large) q) x), zero_add large R (value_inside large (map (embed small large) r) x))) ∙ zv x a) in
      let all_zero : (i : ℕ) → slice_index r i ≡ 0 = λ i.
      embed_injective small large (slice_index r i) 0 sub (fits_symbol small r d.remainder.fits i) (zero_inside small)
      (sym (index_embedded small large sub r i) ∙ few_zeros large (map (embed small large) r) rs (embedded_fits r) c.distinct zeros (omega (arith, d.lower, e, length-map r (embed small large))) i ∙ sym (embed_zero small large sub)) in
      (divides_exactly small v u q r p d).0 (only_zeros r d.remainder all_zero)
    where
      embedded_fits : (r : List ℕ) → Fits large (map (embed small large) r)
      embedded_fits r i l = subst (λ y. y < size large) (sym (index_embedded small large sub r i)) (embed_inside small large (slice_index r i))

      only_zeros : (r : List ℕ) → IsPolynomial small r → ((i : ℕ) → slice_index r i ≡ 0) → r ≡ []
      only_zeros [] p z = refl
      only_zeros (a ∷ r) p z = absurd (omega (arith, p.leads (omega arith), z (length (a ∷ r) - 1)))
