-- Products of minimal polynomials of powers of an element of order n, over cyclotomic sets without a common number.
--   common_number              two cyclotomic sets with a common number are equal
--   spread                     a zero at one power brings those of its cyclotomic set
--   zeros_of_product           the zeros of the product
--   divides_where_zero         it divides each polynomial that has a zero for each set
--   divides_x_power            so it divides x^n - 1
--   multiples_of_product       its multiples are the polynomials with all its zeros
--   new_is_apart               the set of a number that stands in no set yet is apart from all of them
--   product_zeros, product_multiples, product_divides_x_power      the same of each list with the product's coefficients
use Rattle.std.proofs.Common.{◌≡◌, ◌≢◌, ℕ, zero, suc, ◌+◌, ◌*◌, ◌%◌, ◌^◌, ◌<◌, ◌≤◌, ◌↔◌, ⊎_elim, List, [], ◌∷◌, map, slice_index, mul-zero, All, AllPairs, Contains, refl, sym, ap, subst, ◌∙◌, arith, mod-lt}
use Rattle.std.proofs.Math.Nat.{pow-zero, mod-eq_of_lt, mul_comm, add_comm, suc-mul, mul-suc}
use Rattle.std.proofs.lemmas.Nat.{pow-add}
use Rattle.std.proofs.lemmas.List.Elements.{All-cons, All-contains}
use Rattle.std.proofs.lemmas.List.Kept.{AllPairs-cons}
use Rattle.lc_algebra.specs.declared.FieldName.{FieldName}
use Rattle.lc_algebra.specs.Field.{size, add, neg, mul, pow, HasOrder}
use Rattle.lc_algebra.specs.Word.{Fits}
use Rattle.lc_algebra.specs.Polynomial.{value_at, poly_product, x_power_minus_one, SamePolynomial, IsPolynomial, Divides}
use Rattle.lc_algebra.specs.Embedding.{IsSubfield, embed, IsCyclotomicSet}
use Rattle.lc_algebra.proofs.FieldLaws.{zero_inside, one_inside, add_neg, add_zero, mul_zero, zero_mul, one_mul, no_zero_divisors}
use Rattle.lc_algebra.proofs.PowerLaws.{pow_one, pow_size, pow_inside, one_pow, pow_mul}
use Rattle.lc_algebra.proofs.OrderLaws.{power_of_rest, equal_powers}
use Rattle.lc_algebra.proofs.EmbeddingLaws.{embed_one}
use Rattle.lc_algebra.proofs.WordLaws.{fits_cons, fits_symbol}
use Rattle.lc_algebra.proofs.SpanLaws.{contains_head, contains_tail, contains_cases}
use Rattle.lc_poly.specs.Factors.{Factor, IsFactor, AreApart, AreFactors, StandsIn, product_of}
use Rattle.lc_algebra.proofs.PolynomialLaws.{index_both, fits_product, product_commutes, product_same, value_inside}
use Rattle.lc_poly.proofs.MinimalLaws.{value_x_power, embedded_x_power}
use Rattle.lc_poly.proofs.DivisionLaws.{x_power_polynomial}
use Rattle.lc_poly.proofs.QuotientLaws.{value_embedded_same, value_embedded_product}
use Rattle.lc_poly.proofs.ConjugateLaws.{cyclotomic_zeros, product_divides}
use Rattle.lc_poly.proofs.RootLaws.{size_power, cyclotomic_roots}

inside_set : (n q i : ℕ) (xs : List ℕ) (k : ℕ) → 1 ≤ n → IsCyclotomicSet n q i xs → Contains xs k → k < n
inside_set n q i xs k l s c = let t = (s.members k).0 c in rw (t.1) (mod-lt (i * q ^ t.0) (omega (arith, l)))

own_number : (n q i : ℕ) (xs : List ℕ) → IsCyclotomicSet n q i xs → Contains xs (i % n)
own_number n q i xs s =
    let e : i * q ^ 0 ≡ i = rw (pow-zero q) (omega arith) in
    (s.members (i % n)).1 (0, ap (λ x. x % n) (sym e))

product_one : (f : FieldName) (v : List ℕ) → Fits f v → SamePolynomial v (poly_product f v (1 ∷ []))
unfolding poly_product
product_one f v h i =
    let z : slice_index (0 ∷ []) i ≡ 0 = nothing_behind i in
    sym (product_commutes f v (1 ∷ []) i ∙ index_both f 1 [] v i ∙ cc (z, one_mul f (slice_index v i) (fits_symbol f v h i), add_zero f (slice_index v i) (fits_symbol f v h i)))
  where
    nothing_behind : (i : ℕ) → slice_index (0 ∷ []) i ≡ 0
    nothing_behind zero = refl
    nothing_behind (suc i) = refl

fits_factors : (f : FieldName) (ts : List Factor) → Fits f (product_of f ts)
unfolding product_of
fits_factors f [] = fits_cons f 1 [] (one_inside f) (λ i l. zero_inside f)
fits_factors f (t ∷ ts) = fits_product f (product_of f ts) t.polynomial

apart_head : (t : Factor) (ts : List Factor) → AllPairs AreApart (t ∷ ts) → (s : Factor) → Contains ts s → AreApart t s
apart_head t ts h s c = subst (AreApart t) c.2 (h 0 (suc c.0) s (omega arith) (omega (arith, c.1)))

apart_tail : (t : Factor) (ts : List Factor) → AllPairs AreApart (t ∷ ts) → AllPairs AreApart ts
apart_tail t ts h i j d l k = h (suc i) (suc j) d (omega (arith, l)) (omega (arith, k))

all_of_members : (ts : List Factor) (P : Factor → Type 0) → ((s : Factor) → Contains ts s → P s) → All P ts
all_of_members [] P h k d l = absurd (omega (arith, l))
all_of_members (t ∷ ts) P h zero d l = h t (contains_head t ts)
all_of_members (t ∷ ts) P h (suc k) d l = all_of_members ts P (λ s c. h s (contains_tail t s ts c)) k d (omega (arith, l))

module _ (small large : FieldName) (sub : IsSubfield small large) where
  abbrev values : List ℕ → ℕ → ℕ
  values u x = value_at large (map (embed small large) u) x

  pub spread : (u : List ℕ) (b n i : ℕ) (xs : List ℕ) → Fits small u → HasOrder large b n → IsCyclotomicSet n (size small) i xs → values u (pow large b i) ≡ 0 → (k : ℕ) → Contains xs k → values u (pow large b k) ≡ 0
  spread u b n i xs h o s z k c = cyclotomic_zeros small large sub u b n i xs h o.one s z k c

  value_of_one : (x : ℕ) → values (1 ∷ []) x ≡ 1
  unfolding value_at
  value_of_one x = cc (embed_one small large sub, mul_zero large x, add_zero large 1 (one_inside large))

  module _ (b n : ℕ) (order : HasOrder large b n) where
    pub zeros_of_product : (ts : List Factor) (x : ℕ) → ((t : Factor) → Contains ts t → IsFactor small large b n t) → x < size large → (values (product_of small ts) x ≡ 0) ↔ ((k : ℕ) × StandsIn ts k × (x ≡ pow large b k))
    unfolding product_of
    zeros_of_product [] x each l = (
      (λ z. absurd (omega (arith, value_of_one x, z))),
      (λ s. absurd (omega (arith, s.1.1.1))),
    )
    zeros_of_product (t ∷ ts) x each l =
        let here = each t (contains_head t ts) in
        let rest = zeros_of_product ts x (λ s c. each s (contains_tail t s ts c)) l in
        let own = cyclotomic_roots small large sub b n t.number t.numbers t.polynomial x order.one here.cyclotomic here.minimal l in
        let G = values (product_of small ts) x in
        let U = values t.polynomial x in
        let e : values (poly_product small (product_of small ts) t.polynomial) x ≡ mul large G U = value_embedded_product small large sub (product_of small ts) t.polynomial x (fits_factors small ts) here.minimal.polynomial.fits in (
          (λ z.
              ⊎_elim
              (λ g. let s = rest.0 g in (s.0, (s.1.0, contains_tail t s.1.0 ts s.1.1, s.1.2), s.2))
              (λ u. let s = own.0 u in (s.0, (t, contains_head t ts, s.1), s.2))
              (no_zero_divisors large G U (value_inside large _ x) (value_inside large _ x) (sym e ∙ z))),
          (λ s.
              ⊎_elim
              (λ d.
              let u : U ≡ 0 = own.1 (s.0, subst (λ r. Contains r.numbers s.0) (sym d) s.1.2, s.2) in
              e ∙ ap (mul large G) u ∙ mul_zero large G)
              (λ d.
              let g : G ≡ 0 = rest.1 (s.0, (s.1.0, d, s.1.2), s.2) in
              e ∙ ap (λ y. mul large y U) g ∙ zero_mul large U)
              (contains_cases t s.1.0 ts s.1.1)),
        )

    pub divides_where_zero : (ts : List Factor) (v : List ℕ) → ((t : Factor) → Contains ts t → IsFactor small large b n t) → AllPairs AreApart ts → IsPolynomial small v → ((t : Factor) → Contains ts t → values v (pow large b t.number) ≡ 0) → Divides small (product_of small ts) v
    unfolding product_of
    divides_where_zero [] v each apart p z = (v, p, product_one small v p.fits)
    divides_where_zero (t ∷ ts) v each apart p z =
        let here = each t (contains_head t ts) in
        let later : (s : Factor) → Contains ts s → IsFactor small large b n s = λ s c. each s (contains_tail t s ts c) in
        let d : Divides small (product_of small ts) v = divides_where_zero ts v later (apart_tail t ts apart) p (λ s c. z s (contains_tail t s ts c)) in
        let own : Contains t.numbers (t.number % n) = own_number n (size small) t.number t.numbers here.cyclotomic in
        let lacks : values (product_of small ts) (pow large b t.number) ≢ 0 = λ e.
        let s = (zeros_of_product ts (pow large b t.number) later (pow_inside large b t.number)).0 e in
        let k : t.number % n ≡ s.0 % n = equal_powers large b n t.number s.0 order s.2 in
        let i : s.0 < n = inside_set n (size small) s.1.0.number s.1.0.numbers s.0 order.positive (later s.1.0 s.1.1).cyclotomic s.1.2 in
        let j : t.number % n ≡ s.0 = k ∙ mod-eq_of_lt i in
        apart_head t ts apart s.1.0 s.1.1 s.0 (subst (Contains t.numbers) j own) s.1.2 in
        product_divides small large sub (pow large b t.number) (product_of small ts) t.polynomial v here.minimal (fits_factors small ts) lacks d (z t (contains_head t ts))

    power_of_power : (i : ℕ) → pow large (pow large b i) n ≡ 1
    power_of_power i = sym (pow_mul large b i n) ∙ ap (pow large b) (mul_comm i n) ∙ pow_mul large b n i ∙ ap (λ x. pow large x i) order.one ∙ one_pow large i

    pub x_power_zero : (i : ℕ) → values (x_power_minus_one small n) (pow large b i) ≡ 0
    x_power_zero i = ap (λ u. value_at large u (pow large b i)) (embedded_x_power small large n sub order.positive) ∙ value_x_power large n (pow large b i) order.positive ∙ ap (λ x. add large x (neg large 1)) (power_of_power i) ∙ add_neg large 1

    pub divides_x_power : (ts : List Factor) → ((t : Factor) → Contains ts t → IsFactor small large b n t) → AllPairs AreApart ts → Divides small (product_of small ts) (x_power_minus_one small n)
    divides_x_power ts each apart = divides_where_zero ts (x_power_minus_one small n) each apart (x_power_polynomial small n) (λ t c. x_power_zero t.number)

    pub multiple_zero : (ts : List Factor) (v : List ℕ) (k : ℕ) → ((t : Factor) → Contains ts t → IsFactor small large b n t) → Divides small (product_of small ts) v → StandsIn ts k → values v (pow large b k) ≡ 0
    multiple_zero ts v k each d s =
        let g : values (product_of small ts) (pow large b k) ≡ 0 = (zeros_of_product ts (pow large b k) each (pow_inside large b k)).1 (k, s, refl) in
        value_embedded_same small large sub v (poly_product small d.0 (product_of small ts)) (pow large b k) d.2 ∙ value_embedded_product small large sub d.0 (product_of small ts) (pow large b k) d.1.fits (fits_factors small ts) ∙ ap (mul large (values d.0 (pow large b k))) g ∙ mul_zero large (values d.0 (pow large b k))

    pub multiples_of_product : (ts : List Factor) (v : List ℕ) → ((t : Factor) → Contains ts t → IsFactor small large b n t) → AllPairs AreApart ts → IsPolynomial small v → Divides small (product_of small ts) v ↔ ((k : ℕ) → StandsIn ts k → values v (pow large b k) ≡ 0)
    multiples_of_product ts v each apart p = (
      (λ d. λ k s. multiple_zero ts v k each d s),
      (λ z. divides_where_zero ts v each apart p (λ t c.
          let e : pow large b t.number ≡ pow large b (t.number % n) = sym (power_of_rest large b n t.number order.one) in
          ap (values v) e ∙ z (t.number % n) (t, c, own_number n (size small) t.number t.numbers (each t c).cyclotomic))),
    )

  conjugate_again : (y j l : ℕ) → pow large (pow large y (size small ^ j)) (size small ^ l) ≡ pow large y (size small ^ (j + l))
  conjugate_again y j l = sym (pow_mul large y (size small ^ j) (size small ^ l)) ∙ ap (pow large y) (sym (pow-add (size small) j l))

  -- after whole rounds of conjugates each element comes again
  conjugate_round : (y t j : ℕ) → y < size large → size large ≡ size small ^ t → pow large y (size small ^ (t * j)) ≡ y
  conjugate_round y t zero l e = ap (λ m. pow large y (size small ^ m)) (mul-zero t) ∙ ap (pow large y) (pow-zero (size small)) ∙ pow_one large y l
  conjugate_round y t (suc j) l e = ap (λ m. pow large y (size small ^ m)) (mul-suc t j) ∙ sym (conjugate_again y (t * j) t) ∙ ap (λ x. pow large x (size small ^ t)) (conjugate_round y t j l e) ∙ ap (pow large y) (sym e) ∙ pow_size large y l

  module _ (b n : ℕ) (order : HasOrder large b n) where
    power_in_set : (i x j : ℕ) → x ≡ (i * size small ^ j) % n → pow large b x ≡ pow large (pow large b i) (size small ^ j)
    power_in_set i x j e = ap (pow large b) e ∙ power_of_rest large b n (i * size small ^ j) order.one ∙ pow_mul large b i (size small ^ j)

    reached : (i k x z : ℕ) (xs ys : List ℕ) → IsCyclotomicSet n (size small) i xs → IsCyclotomicSet n (size small) k ys → Contains xs x → Contains ys x → Contains xs z → Contains ys z
    reached i k x z xs ys s r cx cy cz =
        let q = size small in
        let y = pow large b i in
        let w = pow large b k in
        let jx = (s.members x).0 cx in
        let jy = (r.members x).0 cy in
        let jz = (s.members z).0 cz in
        let t = size_power small large sub in
        let j = jx.0 in
        let m = t.0 * j in
        let meet : pow large y (q ^ j) ≡ pow large w (q ^ jy.0) = sym (power_in_set i x j jx.1) ∙ power_in_set k x jy.0 jy.1 in
        let whole : suc t.0 * j ≡ j + m = suc-mul t.0 j ∙ add_comm m j in
        let back : y ≡ pow large w (q ^ (jy.0 + m)) = sym (conjugate_round y (suc t.0) j (pow_inside large b i) t.1) ∙ ap (λ e. pow large y (q ^ e)) whole ∙ sym (conjugate_again y j m) ∙ ap (λ x. pow large x (q ^ m)) meet ∙ conjugate_again w jy.0 m in
        let there : pow large b z ≡ pow large b (k * q ^ (jy.0 + m + jz.0)) = power_in_set i z jz.0 jz.1 ∙ ap (λ x. pow large x (q ^ jz.0)) back ∙ conjugate_again w (jy.0 + m) jz.0 ∙ sym (pow_mul large b k (q ^ (jy.0 + m + jz.0))) in
        let small_z : z % n ≡ z = mod-eq_of_lt (inside_set n q i xs z order.positive s cz) in
        (r.members z).1 (jy.0 + m + jz.0, sym small_z ∙ equal_powers large b n z (k * q ^ (jy.0 + m + jz.0)) order there)

    pub common_number : (i k x : ℕ) (xs ys : List ℕ) → IsCyclotomicSet n (size small) i xs → IsCyclotomicSet n (size small) k ys → Contains xs x → Contains ys x → (z : ℕ) → Contains xs z ↔ Contains ys z
    common_number i k x xs ys s r cx cy z = (reached i k x z xs ys s r cx cy, reached k i x z ys xs r s cy cx)

    -- the set of a number that stands in none of the sets has no number of theirs
    pub new_is_apart : (t : Factor) (ts : List Factor) → AreFactors small large b n ts → IsFactor small large b n t → (StandsIn ts (t.number % n) → ⊥) → AreFactors small large b n (t ∷ ts)
    new_is_apart t ts h one new = record {
      each = All-cons (IsFactor small large b n) t ts one h.each;
      apart =
          AllPairs-cons AreApart t ts
          (all_of_members ts (AreApart t) (λ s c. λ k x y.
          new (s, c, (common_number t.number s.number k t.numbers s.numbers one.cyclotomic (All-contains (IsFactor small large b n) ts s h.each c).cyclotomic x y (t.number % n)).0 (own_number n (size small) t.number t.numbers one.cyclotomic))))
          h.apart;
    }

-- the same of each list with the coefficients of the product
module _ (small large : FieldName) (sub : IsSubfield small large) (b n : ℕ) (ts : List Factor) (g : List ℕ) (order : HasOrder large b n) (factors : AreFactors small large b n ts) (same : SamePolynomial (product_of small ts) g) where
  each_factor : (t : Factor) → Contains ts t → IsFactor small large b n t
  each_factor t c = All-contains (IsFactor small large b n) ts t factors.each c

  divides_same : (u v : List ℕ) → SamePolynomial u g → Divides small u v → Divides small g v
  divides_same u v s d = (d.0, d.1, λ i. d.2 i ∙ product_same small d.0 u g i s)

  pub product_zeros : (x : ℕ) → x < size large → (value_at large (map (embed small large) g) x ≡ 0) ↔ ((k : ℕ) × StandsIn ts k × (x ≡ pow large b k))
  product_zeros x l =
      let e = value_embedded_same small large sub (product_of small ts) g x same in
      let z = zeros_of_product small large sub b n order ts x each_factor l in
      ((λ h. z.0 (e ∙ h)), (λ h. sym e ∙ z.1 h))

  pub product_multiples : (v : List ℕ) → IsPolynomial small v → Divides small g v ↔ ((k : ℕ) → StandsIn ts k → value_at large (map (embed small large) v) (pow large b k) ≡ 0)
  product_multiples v p =
      let m = multiples_of_product small large sub b n order ts v each_factor factors.apart p in (
        (λ d. m.0 (d.0, d.1, λ i. d.2 i ∙ sym (product_same small d.0 (product_of small ts) g i same))),
        (λ z. divides_same (product_of small ts) v same (m.1 z)),
      )

  pub product_divides_x_power : Divides small g (x_power_minus_one small n)
  product_divides_x_power = divides_same (product_of small ts) (x_power_minus_one small n) same (divides_x_power small large sub b n order ts each_factor factors.apart)
