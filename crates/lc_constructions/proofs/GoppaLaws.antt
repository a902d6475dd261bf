-- A Goppa code by the sums of w_i a_i^j / G(a_i) is the Goppa code by rational functions (MacWilliams and Sloane, chapter 12).
-- Fractions
--   fraction_once             two polynomials that are 1 / (x - a) modulo g are congruent
--   known_fraction            one of them, by the quotient of g less g(a) on division by x - a
--   known_is_fraction         it is one
--   sums_congruent            sums over two lists of fractions are congruent
-- Sums
--   lifted f xs ys k u        the products y_i x_i^k u(x_i)
--   lifted_cons, lifted_none  the sum with these, coefficient by coefficient of u
--   lifted_zero, lifted_last  sums that are 0 below an exponent
--   known_sum                 the coefficients of the sum of the known fractions
--   zeros_from_sums, sums_from_zeros      they are 0 exactly if the sums of the Goppa code are 0
-- The codes
--   goppa_by_fractions, goppa_by_any_fractions      so both definitions have the same words
use Rattle.std.proofs.Common.{◌≡◌, ℕ, zero, suc, ◌+◌, ◌-◌, ◌<◌, ◌≤◌, ◌↔◌, List, [], ◌∷◌, ◌++◌, length, map, drop, slice_index, Contains, refl, sym, ap, ap₂, subst, ◌∙◌, ⊎_elim, arith}
use Rattle.std.proofs.lemmas.Bool.{cases_lt}
use Rattle.std.proofs.lemmas.List.{get_or_push, drop-append-le, length-append, length-drop}
use Rattle.lc_algebra.specs.declared.FieldName.{FieldName}
use Rattle.lc_algebra.specs.Field.{size, add, neg, mul, pow, IsInverse}
use Rattle.lc_algebra.specs.Polynomial.{value_at, poly_sum, poly_scale, poly_product, SamePolynomial, IsPolynomial}
use Rattle.lc_algebra.specs.Embedding.{embed}
use Rattle.lc_algebra.specs.Word.{Fits, word_dot}
use Rattle.lc_algebra.proofs.FieldLaws.{zero_inside, neg_inside, mul_inside, add_comm, add_assoc, zero_add, add_zero, add_neg, neg_neg, neg_zero, mul_comm, mul_assoc, mul_swap, mul_add, mul_neg, neg_mul, neg_one_mul, mul_zero, one_mul, no_zero_divisors}
use Rattle.lc_algebra.proofs.WordLaws.{dot_inside, fits_cons, fits_symbol, add_exchange, fits_one, fits_none}
use Rattle.lc_algebra.proofs.SpanLaws.{contains_head, contains_tail}
use Rattle.lc_algebra.proofs.PolynomialLaws.{index_sum, index_multiple, index_both, fits_sum, fits_multiple, fits_product, product_inside, product_same, same_product, zeros_product, product_sum, multiple_product, sum_product, product_commutes, product_associates, value_inside, low_product, lowered, fits_lowered, index_lowered, value_from_lowered, step_lowered}
use Rattle.lc_constructions.specs.Alternant.{inverse, check_row, goppa_multipliers, goppa_sum, IsGoppaWord}
use Rattle.lc_constructions.specs.Goppa.{AreCongruent, IsFraction, AreFractions, fraction_sum, IsGoppaWordByFractions}
use Rattle.lc_constructions.proofs.InverseLaws.{inverse_is}
use Rattle.lc_constructions.proofs.ClosedLaws.{neg_of_sum}

-- ---- fractions

abbrev minus_point : FieldName → ℕ → List ℕ
minus_point K a = neg K a ∷ 1 ∷ []

nothing_above : (K : FieldName) (u : List ℕ) (i : ℕ) → slice_index (0 ∷ poly_product K [] u) i ≡ 0
unfolding poly_product
nothing_above K u zero = refl
nothing_above K u (suc i) = refl

constant_times : (K : FieldName) (c : ℕ) (u : List ℕ) (i : ℕ) → slice_index (poly_product K (c ∷ []) u) i ≡ mul K c (slice_index u i)
constant_times K c u i = index_both K c [] u i ∙ ap (add K (mul K c (slice_index u i))) (nothing_above K u i) ∙ add_zero K (mul K c (slice_index u i)) (mul_inside K c (slice_index u i))

one_times : (K : FieldName) (u : List ℕ) (i : ℕ) → Fits K u → slice_index (poly_product K u (1 ∷ [])) i ≡ slice_index u i
one_times K u i h = product_commutes K u (1 ∷ []) i ∙ constant_times K 1 u i ∙ one_mul K (slice_index u i) (fits_symbol K u h i)

-- u times what is congruent to 1 is u and a multiple
times_one : (K : FieldName) (g u v m : List ℕ) (i : ℕ) → Fits K u → SamePolynomial v (poly_sum K (poly_product K m g) (1 ∷ [])) → slice_index (poly_product K u v) i ≡ add K (slice_index (poly_product K (poly_product K u m) g) i) (slice_index u i)
times_one K g u v m i h s =
    product_same K u v (poly_sum K (poly_product K m g) (1 ∷ [])) i s ∙ product_sum K u (poly_product K m g) (1 ∷ []) i
    ∙ ap₂ (add K) (sym (product_associates K u m g i)) (one_times K u i h)

cancelled : (K : FieldName) (s : ℕ) → s < size K → add K (mul K (neg K 1) s) s ≡ 0
cancelled K s l = cc (neg_one_mul K s, add_comm K (neg K s) s, add_neg K s)

-- if s + x is t + y then x is (t - s) + y
moved_over : (K : FieldName) (s x t y : ℕ) → s < size K → x < size K → add K s x ≡ add K t y → x ≡ add K (add K t (mul K (neg K 1) s)) y
moved_over K s x t y k l e =
    let n = mul K (neg K 1) s in
    sym (ap (λ z. add K z y) (add_comm K t n) ∙ add_assoc K n t y ∙ ap (add K n) (sym e) ∙ sym (add_assoc K n s x) ∙ ap (λ z. add K z x) (cancelled K s k) ∙ zero_add K x l)

multiples_differ : (K : FieldName) (g u v : List ℕ) (i : ℕ) → slice_index (poly_product K (poly_sum K u (poly_scale K (neg K 1) v)) g) i ≡ add K (slice_index (poly_product K u g) i) (mul K (neg K 1) (slice_index (poly_product K v g) i))
multiples_differ K g u v i = sum_product K u (poly_scale K (neg K 1) v) g i ∙ ap (add K (slice_index (poly_product K u g) i)) (multiple_product K (neg K 1) v g i)

pub fraction_once : (K : FieldName) (g : List ℕ) (a : ℕ) (h k : List ℕ) → IsFraction K g a h → IsFraction K g a k → AreCongruent K g h k
fraction_once K g a h k p q =
    let d = minus_point K a in
    let (m, mf, ms) = p.one in
    let (n, nf, ns) = q.one in
    let km = poly_product K k m in
    let hn = poly_product K h n in
    let r = poly_sum K km (poly_scale K (neg K 1) hn) in
    let rf : Fits K r = fits_sum K km (poly_scale K (neg K 1) hn) (fits_product K k m) (fits_multiple K (neg K 1) hn) in (
      r,
      rf,
      λ i.
          let x = slice_index (poly_product K km g) i in
          let y = slice_index (poly_product K hn g) i in
          let left : slice_index (poly_product K k (poly_product K d h)) i ≡ add K x (slice_index k i) = times_one K g k (poly_product K d h) m i q.fits ms in
          let right : slice_index (poly_product K h (poly_product K d k)) i ≡ add K y (slice_index h i) = times_one K g h (poly_product K d k) n i p.fits ns in
          let same : slice_index (poly_product K k (poly_product K d h)) i ≡ slice_index (poly_product K h (poly_product K d k)) i =
          product_commutes K k (poly_product K d h) i ∙ same_product K (poly_product K d h) (poly_product K h d) k i (λ j. product_commutes K d h j) ∙ product_associates K h d k i in
          let e : add K y (slice_index h i) ≡ add K x (slice_index k i) = sym right ∙ sym same ∙ left in
          moved_over K y (slice_index h i) x (slice_index k i) (product_inside K hn g i) (fits_symbol K h p.fits i) e
          ∙ sym (index_sum K (poly_product K r g) k i (fits_product K r g) q.fits ∙ ap (λ z. add K z (slice_index k i)) (multiples_differ K g km hn i)),
    )

fits_fractions : (K : FieldName) (cs : List ℕ) (hs : List (List ℕ)) → Fits K (fraction_sum K cs hs)
unfolding fraction_sum
fits_fractions K [] hs = fits_none K
fits_fractions K (c ∷ cs) [] = fits_none K
fits_fractions K (c ∷ cs) (h ∷ hs) = fits_sum K (poly_scale K c h) (fraction_sum K cs hs) (fits_multiple K c h) (fits_fractions K cs hs)

congruent_multiple : (K : FieldName) (g : List ℕ) (c : ℕ) (h k u v : List ℕ) → Fits K h → Fits K k → Fits K u → Fits K v → AreCongruent K g h k → AreCongruent K g u v → AreCongruent K g (poly_sum K (poly_scale K c h) u) (poly_sum K (poly_scale K c k) v)
congruent_multiple K g c h k u v hf kf uf vf (m, mf, ms) (n, nf, ns) =
    let cm = poly_scale K c m in
    let r = poly_sum K cm n in (
      r,
      fits_sum K cm n (fits_multiple K c m) nf,
      λ i.
          let x = slice_index (poly_product K m g) i in
          let y = slice_index (poly_product K n g) i in
          let hi : slice_index h i ≡ add K x (slice_index k i) = ms i ∙ index_sum K (poly_product K m g) k i (fits_product K m g) kf in
          let ui : slice_index u i ≡ add K y (slice_index v i) = ns i ∙ index_sum K (poly_product K n g) v i (fits_product K n g) vf in
          let left : slice_index (poly_sum K (poly_scale K c h) u) i ≡ add K (mul K c (slice_index h i)) (slice_index u i) =
          index_sum K (poly_scale K c h) u i (fits_multiple K c h) uf ∙ ap (λ z. add K z (slice_index u i)) (index_multiple K c h i) in
          let product : slice_index (poly_product K r g) i ≡ add K (mul K c x) y = sum_product K cm n g i ∙ ap (λ z. add K z y) (multiple_product K c m g i) in
          let rest : slice_index (poly_sum K (poly_scale K c k) v) i ≡ add K (mul K c (slice_index k i)) (slice_index v i) =
          index_sum K (poly_scale K c k) v i (fits_multiple K c k) vf ∙ ap (λ z. add K z (slice_index v i)) (index_multiple K c k i) in
          left ∙ ap₂ (λ a b. add K (mul K c a) b) hi ui ∙ ap (λ z. add K z (add K y (slice_index v i))) (mul_add K c x (slice_index k i)) ∙ add_exchange K (mul K c x) (mul K c (slice_index k i)) y (slice_index v i)
          ∙ sym (index_sum K (poly_product K r g) (poly_sum K (poly_scale K c k) v) i (fits_product K r g) (fits_sum K (poly_scale K c k) v (fits_multiple K c k) vf) ∙ ap₂ (add K) product rest),
    )

congruent_nothing : (K : FieldName) (g : List ℕ) → AreCongruent K g [] []
unfolding poly_product poly_sum
congruent_nothing K g = ([], fits_none K, (λ i. refl))

pub sums_congruent : (K : FieldName) (g points cs : List ℕ) (hs ks : List (List ℕ)) → AreFractions K g points hs → AreFractions K g points ks → AreCongruent K g (fraction_sum K cs hs) (fraction_sum K cs ks)
unfolding fraction_sum
sums_congruent K g points [] hs ks p q = congruent_nothing K g
sums_congruent K g [] (c ∷ cs) [] [] p q = congruent_nothing K g
sums_congruent K g [] (c ∷ cs) [] (k ∷ ks) p q = absurd q
sums_congruent K g [] (c ∷ cs) (h ∷ hs) ks p q = absurd p
sums_congruent K g (a ∷ points) (c ∷ cs) [] ks p q = absurd p
sums_congruent K g (a ∷ points) (c ∷ cs) (h ∷ hs) [] p q = absurd q
sums_congruent K g (a ∷ points) (c ∷ cs) (h ∷ hs) (k ∷ ks) p q =
    congruent_multiple K g c h k (fraction_sum K cs hs) (fraction_sum K cs ks) p.0.fits q.0.fits (fits_fractions K cs hs) (fits_fractions K cs ks)
    (fraction_once K g a h k p.0 q.0) (sums_congruent K g points cs hs ks p.1 q.1)

-- ---- the known fraction

-- minus (g - g(a)) / (x - a), divided by g(a)
unfoldable pub known_fraction : FieldName → List ℕ → ℕ → List ℕ
known_fraction K g a = poly_scale K (neg K (inverse K (value_at K g a))) (lowered K a g)

turned : (K : FieldName) (a u v q : ℕ) → v < size K → u < size K → v ≡ add K u (mul K a q) → u ≡ add K (mul K (neg K a) q) v
turned K a u v q l m e =
    sym (ap (add K (mul K (neg K a) q)) (e ∙ add_comm K u (mul K a q)) ∙ sym (add_assoc K (mul K (neg K a) q) (mul K a q) u) ∙ ap (λ z. add K z u) (ap (λ z. add K z (mul K a q)) (neg_mul K a q) ∙ add_comm K (neg K (mul K a q)) (mul K a q) ∙ add_neg K (mul K a q)) ∙ zero_add K u m)

-- g is (x - a) q + g(a), coefficient by coefficient
linear_times : (K : FieldName) (g : List ℕ) (a i : ℕ) → Fits K g → slice_index g i ≡ add K (slice_index (poly_product K (minus_point K a) (lowered K a g)) i) (slice_index (value_at K g a ∷ []) i)
unfolding poly_product
linear_times K g a zero h =
    let q = lowered K a g in
    let t : slice_index (poly_product K (minus_point K a) q) 0 ≡ mul K (neg K a) (slice_index q 0) = index_both K (neg K a) (1 ∷ []) q 0 ∙ add_zero K (mul K (neg K a) (slice_index q 0)) (mul_inside K (neg K a) (slice_index q 0)) in
    turned K a (slice_index g 0) (value_at K g a) (slice_index q 0) (value_inside K g a) (fits_symbol K g h 0) (value_from_lowered K a g) ∙ ap (λ z. add K z (value_at K g a)) (sym t)
linear_times K g a (suc i) h =
    let q = lowered K a g in
    let qi : slice_index q i < size K = fits_symbol K q (fits_lowered K a g) i in
    let one : slice_index (poly_product K (1 ∷ []) q) i ≡ slice_index q i = constant_times K 1 q i ∙ one_mul K (slice_index q i) qi in
    let t : slice_index (poly_product K (minus_point K a) q) (suc i) ≡ add K (mul K (neg K a) (slice_index q (suc i))) (slice_index q i) = index_both K (neg K a) (1 ∷ []) q (suc i) ∙ ap (add K (mul K (neg K a) (slice_index q (suc i)))) one in
    turned K a (slice_index g (suc i)) (slice_index q i) (slice_index q (suc i)) qi (fits_symbol K g h (suc i)) (step_lowered K a g i) ∙ sym t
    ∙ sym (add_zero K (slice_index (poly_product K (minus_point K a) q) (suc i)) (product_inside K (minus_point K a) q (suc i)))

cancels : (K : FieldName) (v y i : ℕ) → mul K v y ≡ 1 → add K (mul K (neg K y) (slice_index (v ∷ []) i)) (slice_index (1 ∷ []) i) ≡ 0
cancels K v y zero e = ap (λ z. add K z 1) (neg_mul K y v ∙ ap (neg K) (mul_comm K y v ∙ e)) ∙ add_comm K (neg K 1) 1 ∙ add_neg K 1
cancels K v y (suc i) e = ap (λ z. add K z 0) (mul_zero K (neg K y)) ∙ zero_add K 0 (zero_inside K)

pub known_is_fraction : (K : FieldName) (g : List ℕ) (a : ℕ) → Fits K g → 0 < value_at K g a → IsFraction K g a (known_fraction K g a)
unfolding known_fraction
known_is_fraction K g a h p =
    let v = value_at K g a in
    let y = inverse K v in
    let n = neg K y in
    let q = lowered K a g in
    let d = minus_point K a in
    let inv : IsInverse K v y = inverse_is K v (value_inside K g a) p in
    record {
      fits = fits_multiple K n q;
      one = (
        n ∷ [],
        fits_cons K n [] (neg_inside K y) (fits_none K),
        λ i.
            let x = slice_index (poly_product K d q) i in
            let w = slice_index (v ∷ []) i in
            let o = slice_index (1 ∷ []) i in
            let left : slice_index (poly_product K d (poly_scale K n q)) i ≡ mul K n x =
            product_commutes K d (poly_scale K n q) i ∙ multiple_product K n q d i ∙ ap (mul K n) (product_commutes K q d i) in
            let right : slice_index (poly_sum K (poly_product K (n ∷ []) g) (1 ∷ [])) i ≡ add K (mul K n (slice_index g i)) o =
            index_sum K (poly_product K (n ∷ []) g) (1 ∷ []) i (fits_product K (n ∷ []) g) (fits_one K) ∙ ap (λ z. add K z o) (constant_times K n g i) in
            let whole : add K (mul K n (slice_index g i)) o ≡ mul K n x =
            ap (λ z. add K (mul K n z) o) (linear_times K g a i h) ∙ ap (λ z. add K z o) (mul_add K n x w) ∙ add_assoc K (mul K n x) (mul K n w) o
            ∙ ap (add K (mul K n x)) (cancels K v y i inv.one) ∙ add_zero K (mul K n x) (mul_inside K n x) in
            left ∙ sym whole ∙ sym right,
      );
    }

known_fractions : (K : FieldName) (g points : List ℕ) → Fits K g → ((a : ℕ) → Contains points a → 0 < value_at K g a) → AreFractions K g points (map (known_fraction K g) points)
known_fractions K g [] h p = tt
known_fractions K g (a ∷ points) h p = (known_is_fraction K g a h (p a (contains_head a points)), known_fractions K g points h (λ b c. p b (contains_tail a b points c)))

-- ---- sums with the values of a polynomial

unfoldable pub lifted : FieldName → List ℕ → List ℕ → ℕ → List ℕ → List ℕ
lifted K (x ∷ xs) (y ∷ ys) k u = mul K y (mul K (pow K x k) (value_at K u x)) ∷ lifted K xs ys k u
lifted K _ _ k u = []

lifted_term : (f : FieldName) (z y p c x v : ℕ) → mul f z (mul f y (mul f p (add f c (mul f x v)))) ≡ add f (mul f c (mul f z (mul f y p))) (mul f z (mul f y (mul f (mul f x p) v)))
lifted_term f z y p c x v =
    cc (mul_add f p c (mul f x v), mul_add f y (mul f p c) (mul f p (mul f x v)), mul_add f z (mul f y (mul f p c)) (mul f y (mul f p (mul f x v))), mul_comm f p c, mul_swap f y c p, mul_swap f z c (mul f y p), mul_assoc f x p v, mul_swap f p x v)

pub lifted_cons : (f : FieldName) (xs ys : List ℕ) (k c : ℕ) (u z : List ℕ) → word_dot f z (lifted f xs ys k (c ∷ u)) ≡ add f (mul f c (word_dot f z (check_row f xs ys k))) (word_dot f z (lifted f xs ys (suc k) u))
unfolding word_dot check_row lifted value_at pow
lifted_cons f xs ys k c u [] = sym (cc (mul_zero f c, zero_add f 0 (zero_inside f)))
lifted_cons f [] ys k c u (b ∷ z) = sym (cc (mul_zero f c, zero_add f 0 (zero_inside f)))
lifted_cons f (x ∷ xs) [] k c u (b ∷ z) = sym (cc (mul_zero f c, zero_add f 0 (zero_inside f)))
lifted_cons f (x ∷ xs) (y ∷ ys) k c u (b ∷ z) =
    let p = pow f x k in
    let v = value_at f u x in
    let s = word_dot f z (check_row f xs ys k) in
    let t = word_dot f z (lifted f xs ys (suc k) u) in
    ap₂ (add f) (lifted_term f b y p c x v) (lifted_cons f xs ys k c u z)
    ∙ add_exchange f (mul f c (mul f b (mul f y p))) (mul f b (mul f y (mul f (mul f x p) v))) (mul f c s) t
    ∙ ap (λ q. add f q (add f (mul f b (mul f y (mul f (mul f x p) v))) t)) (sym (mul_add f c (mul f b (mul f y p)) s))

pub lifted_none : (f : FieldName) (xs ys : List ℕ) (k : ℕ) (z : List ℕ) → word_dot f z (lifted f xs ys k []) ≡ 0
unfolding word_dot lifted value_at
lifted_none f xs ys k [] = refl
lifted_none f [] ys k (b ∷ z) = refl
lifted_none f (x ∷ xs) [] k (b ∷ z) = refl
lifted_none f (x ∷ xs) (y ∷ ys) k (b ∷ z) = cc (mul_zero f (pow f x k), mul_zero f y, mul_zero f b, lifted_none f xs ys k z, zero_add f 0 (zero_inside f))

pub lifted_zero : (f : FieldName) (xs ys z : List ℕ) (r k : ℕ) (u : List ℕ) → ((j : ℕ) → j < r → word_dot f z (check_row f xs ys j) ≡ 0) → k + length u ≤ r → word_dot f z (lifted f xs ys k u) ≡ 0
lifted_zero f xs ys z r k [] s l = lifted_none f xs ys k z
lifted_zero f xs ys z r k (c ∷ u) s l =
    lifted_cons f xs ys k c u z ∙ ap₂ (λ a b. add f (mul f c a) b) (s k (omega (arith, l))) (lifted_zero f xs ys z r (suc k) u s (omega (arith, l))) ∙ cc (mul_zero f c, zero_add f 0 (zero_inside f))

pub lifted_last : (f : FieldName) (xs ys z : List ℕ) (b k : ℕ) (u : List ℕ) → ((j : ℕ) → j < k + length u → word_dot f z (check_row f xs ys j) ≡ 0) → word_dot f z (lifted f xs ys k (u ++ b ∷ [])) ≡ mul f b (word_dot f z (check_row f xs ys (k + length u)))
lifted_last f xs ys z b k [] s =
    let e : k ≡ k + 0 = omega arith in
    lifted_cons f xs ys k b [] z ∙ ap (add f (mul f b (word_dot f z (check_row f xs ys k)))) (lifted_none f xs ys (suc k) z) ∙ add_zero f (mul f b (word_dot f z (check_row f xs ys k))) (mul_inside f b (word_dot f z (check_row f xs ys k))) ∙ ap (λ j. mul f b (word_dot f z (check_row f xs ys j))) e
lifted_last f xs ys z b k (c ∷ u) s =
    let e : suc k + length u ≡ k + length (c ∷ u) = omega arith in
    let rest = word_dot f z (lifted f xs ys (suc k) (u ++ b ∷ [])) in
    lifted_cons f xs ys k c (u ++ b ∷ []) z ∙ ap (λ a. add f (mul f c a) rest) (s k (omega arith)) ∙ ap (λ a. add f a rest) (mul_zero f c) ∙ zero_add f rest (dot_inside f z (lifted f xs ys (suc k) (u ++ b ∷ [])))
    ∙ lifted_last f xs ys z b (suc k) u (λ j l. s j (omega (arith, l))) ∙ ap (λ j. mul f b (word_dot f z (check_row f xs ys j))) e

-- ---- the coefficients of the sum of the known fractions

known_term : (K : FieldName) (c y v : ℕ) → v < size K → mul K c (mul K (neg K y) v) ≡ neg K (mul K c (mul K y (mul K 1 v)))
known_term K c y v l = ap (mul K c) (neg_mul K y v) ∙ mul_neg K c (mul K y v) ∙ ap (λ t. neg K (mul K c (mul K y t))) (sym (one_mul K v l))

pub known_sum : (K : FieldName) (g cs points : List ℕ) (k : ℕ) → slice_index (fraction_sum K cs (map (known_fraction K g) points)) k ≡ neg K (word_dot K cs (lifted K points (goppa_multipliers K g points) 0 (drop (suc k) g)))
unfolding fraction_sum word_dot lifted goppa_multipliers known_fraction pow
known_sum K g [] points k = sym (neg_zero K)
known_sum K g (c ∷ cs) [] k = sym (neg_zero K)
known_sum K g (c ∷ cs) (a ∷ points) k =
    let y = inverse K (value_at K g a) in
    let q = lowered K a g in
    let h = poly_scale K (neg K y) q in
    let hs = map (known_fraction K g) points in
    let u = drop (suc k) g in
    let v = value_at K u a in
    let rest = word_dot K cs (lifted K points (goppa_multipliers K g points) 0 u) in
    let first : slice_index (poly_scale K c h) k ≡ neg K (mul K c (mul K y (mul K 1 v))) =
    index_multiple K c h k ∙ ap (mul K c) (index_multiple K (neg K y) q k ∙ ap (mul K (neg K y)) (index_lowered K a g k)) ∙ known_term K c y v (value_inside K u a) in
    index_sum K (poly_scale K c h) (fraction_sum K cs hs) k (fits_multiple K c h) (fits_fractions K cs hs) ∙ ap₂ (add K) first (known_sum K g cs points k)
    ∙ sym (neg_of_sum K (mul K c (mul K y (mul K 1 v))) rest)

abbrev sum_at : FieldName → List ℕ → List ℕ → List ℕ → ℕ → ℕ
sum_at K g cs points j = word_dot K cs (check_row K points (goppa_multipliers K g points) j)

abbrev known_total : FieldName → List ℕ → List ℕ → List ℕ → List ℕ
known_total K g cs points = fraction_sum K cs (map (known_fraction K g) points)

pub zeros_from_sums : (K : FieldName) (g cs points : List ℕ) → ((j : ℕ) → j < length g - 1 → sum_at K g cs points j ≡ 0) → (k : ℕ) → slice_index (known_total K g cs points) k ≡ 0
zeros_from_sums K g cs points s k =
    known_sum K g cs points k
    ∙ ap (neg K) (lifted_zero K points (goppa_multipliers K g points) cs (length g - 1) 0 (drop (suc k) g) s (omega (arith, length-drop (suc k) g)))
    ∙ neg_zero K

-- past the degree the coefficients are 0
high_zero : (K : FieldName) (g cs points : List ℕ) (k : ℕ) → length g - 1 ≤ k → slice_index (known_total K g cs points) k ≡ 0
high_zero K g cs points k l =
    known_sum K g cs points k
    ∙ ap (neg K) (lifted_zero K points (goppa_multipliers K g points) cs 0 0 (drop (suc k) g) (λ j m. absurd (omega (arith, m))) (omega (arith, l, length-drop (suc k) g)))
    ∙ neg_zero K

split_last : (g : List ℕ) → 0 < length g → (front : List ℕ) × ((b : ℕ) × (g ≡ front ++ b ∷ []))
split_last [] l = absurd (omega (arith, l))
split_last (c ∷ []) l = ([], (c, refl))
split_last (c ∷ d ∷ g) l = let (front, (b, e)) = split_last (d ∷ g) (omega arith) in (c ∷ front, (b, ap (λ t. c ∷ t) e))

negative_zero : (K : FieldName) (x : ℕ) → x < size K → neg K x ≡ 0 → x ≡ 0
negative_zero K x l e = sym (neg_neg K x l) ∙ ap (neg K) e ∙ neg_zero K

-- with g = front + b x^t, the sums below n being 0, the coefficient t - 1 - n is minus b times the sum n
next_sum : (K : FieldName) (front : List ℕ) (b : ℕ) (cs points : List ℕ) (n : ℕ) → b < size K → 0 < b → n < length front
    → ((j : ℕ) → j < n → sum_at K (front ++ b ∷ []) cs points j ≡ 0) → ((k : ℕ) → slice_index (known_total K (front ++ b ∷ []) cs points) k ≡ 0) → sum_at K (front ++ b ∷ []) cs points n ≡ 0
next_sum K front b cs points n lb pb l s z =
    let g = front ++ b ∷ [] in
    let t = length front in
    let k = t - suc n in
    let u = drop (t - n) front in
    let ys = goppa_multipliers K g points in
    let long : length u ≡ n = omega (arith, length-drop (t - n) front, l) in
    let e : suc k ≡ t - n = omega (arith, l) in
    let d : drop (suc k) g ≡ u ++ b ∷ [] = ap (λ m. drop m g) e ∙ drop-append-le (t - n) front (b ∷ []) (omega arith) in
    let w = word_dot K cs (lifted K points ys 0 (u ++ b ∷ [])) in
    let negative : neg K w ≡ 0 = ap (λ v. neg K (word_dot K cs (lifted K points ys 0 v))) (sym d) ∙ sym (known_sum K g cs points k) ∙ z k in
    let here : w ≡ mul K b (sum_at K g cs points (0 + length u)) = lifted_last K points ys cs b 0 u (λ j m. s j (omega (arith, m, long))) in
    let at : mul K b (sum_at K g cs points n) ≡ 0 =
    ap (λ m. mul K b (sum_at K g cs points m)) (sym (omega (arith, long))) ∙ sym here ∙ negative_zero K w (dot_inside K cs (lifted K points ys 0 (u ++ b ∷ []))) negative in
    ⊎_elim (λ q. absurd (omega (arith, q, pb))) (λ q. q) (no_zero_divisors K b (sum_at K g cs points n) lb (dot_inside K cs (check_row K points ys n)) at)

all_sums : (K : FieldName) (front : List ℕ) (b : ℕ) (cs points : List ℕ) (n : ℕ) → b < size K → 0 < b → n ≤ length front
    → ((k : ℕ) → slice_index (known_total K (front ++ b ∷ []) cs points) k ≡ 0) → (j : ℕ) → j < n → sum_at K (front ++ b ∷ []) cs points j ≡ 0
all_sums K front b cs points zero lb pb l z j m = absurd (omega (arith, m))
all_sums K front b cs points (suc n) lb pb l z j m =
    let below : (i : ℕ) → i < n → sum_at K (front ++ b ∷ []) cs points i ≡ 0 = all_sums K front b cs points n lb pb (omega (arith, l)) z in
    ⊎_elim (λ k. below j k) (λ k. subst (λ i. sum_at K (front ++ b ∷ []) cs points i ≡ 0) (omega (arith, m, k)) (next_sum K front b cs points n lb pb (omega (arith, l)) below z)) (cases_lt j n)

pub sums_from_zeros : (K : FieldName) (g cs points : List ℕ) → IsPolynomial K g → 0 < length g → ((k : ℕ) → slice_index (known_total K g cs points) k ≡ 0) → (j : ℕ) → j < length g - 1 → sum_at K g cs points j ≡ 0
sums_from_zeros K g cs points p l z j m =
    let (front, (b, e)) = split_last g l in
    let long : length g ≡ length front + 1 = ap (λ u. length u) e ∙ length-append front (b ∷ []) in
    let at : slice_index g (length g - 1) ≡ b = ap (λ u. slice_index u (length g - 1)) e ∙ get_or_push front b 0 (length g - 1) (omega (arith, long)) in
    let lb : b < size K = subst (λ x. x < size K) at (fits_symbol K g p.fits (length g - 1)) in
    let pb : 0 < b = subst (λ x. 0 < x) at (p.leads l) in
    subst (λ u. sum_at K u cs points j ≡ 0) (sym e)
    (all_sums K front b cs points (length front) lb pb (omega arith) (λ k. subst (λ u. slice_index (known_total K u cs points) k ≡ 0) e (z k)) j (omega (arith, m, long)))

-- ---- the codes

sum_is_multiple : (K : FieldName) (g u v : List ℕ) → Fits K v → AreCongruent K g u v → AreCongruent K g v [] → (m : List ℕ) × Fits K m × ((i : ℕ) → slice_index u i ≡ slice_index (poly_product K m g) i)
sum_is_multiple K g u v h (n, nf, ns) (m, mf, ms) =
    let r = poly_sum K n m in (
      r,
      fits_sum K n m nf mf,
      λ i.
          let x = slice_index (poly_product K n g) i in
          let vi : slice_index v i ≡ slice_index (poly_product K m g) i = ms i ∙ index_sum K (poly_product K m g) [] i (fits_product K m g) (fits_none K) ∙ add_zero K (slice_index (poly_product K m g) i) (product_inside K m g i) in
          ns i ∙ index_sum K (poly_product K n g) v i (fits_product K n g) h ∙ ap (add K x) vi ∙ sym (sum_product K n m g i),
    )

zero_congruent : (K : FieldName) (g u : List ℕ) → ((i : ℕ) → slice_index u i ≡ 0) → AreCongruent K g u []
unfolding poly_product poly_sum
zero_congruent K g u z = ([], fits_none K, (λ i. z i))

zero_from_multiple : (K : FieldName) (g cs points : List ℕ) (hs : List (List ℕ)) → IsPolynomial K g → 0 < length g → AreFractions K g points (map (known_fraction K g) points) → AreFractions K g points hs → AreCongruent K g (fraction_sum K cs hs) [] → (i : ℕ) → slice_index (known_total K g cs points) i ≡ 0
zero_from_multiple K g cs points hs p l kf hf c i =
    let (m, mf, ms) = sum_is_multiple K g (known_total K g cs points) (fraction_sum K cs hs) (fits_fractions K cs hs) (sums_congruent K g points cs (map (known_fraction K g) points) hs kf hf) c in
    let nothing : (i : ℕ) → slice_index m i ≡ 0 = low_product K m g (length g - 1) mf p.fits (omega (arith, l)) (p.leads l) (λ j k. sym (ms j) ∙ high_zero K g cs points j k) in
    ms i ∙ zeros_product K m g i nothing

pub goppa_by_fractions : (f K : FieldName) (g points w : List ℕ) → IsPolynomial K g → 0 < length g → ((a : ℕ) → Contains points a → 0 < value_at K g a) → IsGoppaWord f K g points w ↔ IsGoppaWordByFractions f K g points w
unfolding goppa_sum
goppa_by_fractions f K g points w p l n =
    let cs = map (embed f K) w in
    let kf = known_fractions K g points p.fits n in (
      (λ h. (map (known_fraction K g) points, kf, zero_congruent K g (known_total K g cs points) (zeros_from_sums K g cs points h))),
      (λ h. let (hs, hf, c) = h in sums_from_zeros K g cs points p l (zero_from_multiple K g cs points hs p l kf hf c)),
    )

-- any polynomials that are 1 / (x - a_i) will do
pub goppa_by_any_fractions : (f K : FieldName) (g points w : List ℕ) (hs : List (List ℕ)) → IsPolynomial K g → 0 < length g → ((a : ℕ) → Contains points a → 0 < value_at K g a) → AreFractions K g points hs → IsGoppaWord f K g points w ↔ AreCongruent K g (fraction_sum K (map (embed f K) w) hs) []
unfolding goppa_sum
goppa_by_any_fractions f K g points w hs p l n hf =
    let cs = map (embed f K) w in
    let kf = known_fractions K g points p.fits n in
    let known = map (known_fraction K g) points in (
      (λ h. transitive K g (fraction_sum K cs hs) (fraction_sum K cs known) (fits_fractions K cs known) (sums_congruent K g points cs hs known hf kf) (zeros_from_sums K g cs points h)),
      (λ c. sums_from_zeros K g cs points p l (zero_from_multiple K g cs points hs p l kf hf c)),
    )
  where
    transitive : (K : FieldName) (g u v : List ℕ) → Fits K v → AreCongruent K g u v → ((i : ℕ) → slice_index v i ≡ 0) → AreCongruent K g u []
    transitive K g u v h (n, nf, ns) z =
        (n, nf, λ i. ns i ∙ index_sum K (poly_product K n g) v i (fits_product K n g) h ∙ ap (add K (slice_index (poly_product K n g) i)) (z i) ∙ sym (index_sum K (poly_product K n g) [] i (fits_product K n g) (fits_none K)))
