-- Degrees of products, and lists of a given length.
--   product_drop           coefficients of a product that the first factor's lower ones don't reach
--   product_high           no coefficients above the sum of the degrees
--   product_top            the coefficient at the sum of the degrees
--   low_factor             the first factor of a product of low degree
--   same_factor            products with an equal second factor have equal first factors
--   divisor_degrees        the degrees of two factors of x^n - 1 sum to n
--   listed k t             the first k coefficients of t
--   listed_word, listed_same      they are a word, and t has no others if it is 0 from k on
use Rattle.std.proofs.Common.{◌≡◌, ℕ, zero, suc, ◌+◌, ◌-◌, ◌<◌, ◌≤◌, ⊎_elim, List, [], ◌∷◌, length, slice_index, drop, refl, sym, ap, subst, ◌∙◌, arith}
use Rattle.std.proofs.lemmas.Bool.{cases_lt}
use Rattle.std.proofs.lemmas.List.{get_or_past, get_or-drop, drop_more}
use Rattle.lc_algebra.specs.declared.FieldName.{FieldName}
use Rattle.lc_algebra.specs.Field.{add, neg, mul}
use Rattle.lc_algebra.specs.Word.{Fits, IsWord}
use Rattle.lc_algebra.specs.Polynomial.{poly_sum, poly_scale, poly_product, x_power_minus_one, SamePolynomial, IsPolynomial}
use Rattle.lc_algebra.proofs.FieldLaws.{zero_inside, mul_inside, add_zero, zero_add, add_neg, mul_zero, neg_one_mul, subtract_zero, no_zero_divisors}
use Rattle.lc_algebra.proofs.WordLaws.{fits_head, fits_tail, fits_cons, fits_symbol, fits_drop}
use Rattle.lc_algebra.proofs.PolynomialLaws.{index_sum, index_multiple, index_both, index_product_suc, fits_sum, fits_multiple, product_inside, sum_product, multiple_product, product_nothing, low_product}
use Rattle.lc_algebra.proofs.CommonLaws.{zero_at}
use Rattle.lc_poly.proofs.ListLaws.{nothing_times, dropped}
use Rattle.lc_poly.proofs.DivisionLaws.{x_power_polynomial}
use Rattle.lc_poly.proofs.MinimalLaws.{length_x_power, nothing}

past : (i : ℕ) → slice_index [] i ≡ 0
past i = get_or_past {X = ℕ} [] i 0 (omega arith)

drop_none : (u : List ℕ) → drop 0 u ≡ u
drop_none [] = refl
drop_none (a ∷ u) = refl

pub product_drop : (f : FieldName) (u v : List ℕ) (k i : ℕ) → length v ≤ suc i → slice_index (poly_product f u v) (k + i) ≡ slice_index (poly_product f (drop k u) v) i
unfolding poly_product
product_drop f u v zero i l =
    let e : 0 + i ≡ i = omega arith in
    ap (slice_index (poly_product f u v)) e ∙ ap (λ w. slice_index (poly_product f w v) i) (sym (drop_none u))
product_drop f [] v (suc k) i l = past (suc k + i) ∙ sym (past i)
product_drop f (c ∷ u) v (suc k) i l =
    let P = slice_index (poly_product f u v) (k + i) in
    let e : suc k + i ≡ suc (k + i) = omega arith in
    let z : slice_index v (suc (k + i)) ≡ 0 = get_or_past v (suc (k + i)) 0 (omega (arith, l)) in
    ap (slice_index (poly_product f (c ∷ u) v)) e ∙ index_product_suc f c u v (k + i) ∙ ap (λ y. add f (mul f c y) P) z ∙ ap (λ y. add f y P) (mul_zero f c) ∙ zero_add f P (product_inside f u v (k + i)) ∙ product_drop f u v k i l

pub product_high : (f : FieldName) (u v : List ℕ) (k : ℕ) → length u + length v ≤ suc k → slice_index (poly_product f u v) k ≡ 0
product_high f u v k l =
    ⊎_elim
    (λ b.
    let e : v ≡ [] = nothing v (omega (arith, l, b)) in
    ap (λ w. slice_index (poly_product f u w) k) e ∙ product_nothing f u k)
    (λ b.
    let m = length u in
    let d : k ≡ m + (k - m) = omega (arith, b) in
    ap (slice_index (poly_product f u v)) d ∙ product_drop f u v m (k - m) (omega (arith, l, b))
    ∙ ap (λ w. slice_index (poly_product f w v) (k - m)) (dropped u m (omega arith)) ∙ ap (λ w. slice_index w (k - m)) (nothing_times f v) ∙ past (k - m))
    (cases_lt k (length u))

pub product_top : (f : FieldName) (u v : List ℕ) → 0 < length u → 0 < length v → slice_index (poly_product f u v) (length u - 1 + (length v - 1)) ≡ mul f (slice_index u (length u - 1)) (slice_index v (length v - 1))
product_top f u v a b =
    let k = length u - 1 in
    let i = length v - 1 in
    let c = slice_index u k in
    let d : drop k u ≡ c ∷ [] = drop_more u k 0 (omega (arith, a)) ∙ ap (λ w. c ∷ w) (dropped u (k + 1) (omega (arith, a))) in
    product_drop f u v k i (omega (arith, b)) ∙ ap (λ w. slice_index (poly_product f w v) i) d ∙ index_both f c [] v i
    ∙ ap (λ w. add f (mul f c (slice_index v i)) (slice_index (0 ∷ w) i)) (nothing_times f v) ∙ ap (add f (mul f c (slice_index v i))) (zero_at i) ∙ add_zero f (mul f c (slice_index v i)) (mul_inside f c (slice_index v i))

pub low_factor : (f : FieldName) (u by : List ℕ) (n : ℕ) → Fits f u → IsPolynomial f by → 0 < length by → ((i : ℕ) → n + (length by - 1) ≤ i → slice_index (poly_product f u by) i ≡ 0) → (i : ℕ) → n ≤ i → slice_index u i ≡ 0
low_factor f u by n h p l z i b =
    let m = length by - 1 in
    let k : length by ≡ suc m = omega (arith, l) in
    let low : (j : ℕ) → m ≤ j → slice_index (poly_product f (drop n u) by) j ≡ 0 = λ j c. sym (product_drop f u by n j (omega (arith, k, c))) ∙ z (n + j) (omega (arith, c)) in
    let e : i ≡ n + (i - n) = omega (arith, b) in
    ap (slice_index u) e ∙ sym (get_or-drop n u (i - n) 0) ∙ low_product f (drop n u) by m (fits_drop f n u h) p.fits k (p.leads l) low (i - n)

pub same_factor : (f : FieldName) (u w by : List ℕ) → Fits f u → Fits f w → IsPolynomial f by → 0 < length by → SamePolynomial (poly_product f u by) (poly_product f w by) → SamePolynomial u w
same_factor f u w by hu hw p l s i =
    let minus = poly_scale f (neg f 1) w in
    let D = poly_sum f u minus in
    let z : (j : ℕ) → slice_index (poly_product f D by) j ≡ 0 = λ j. cc (sum_product f u minus by j, multiple_product f (neg f 1) w by j, s j, neg_one_mul f (slice_index (poly_product f w by) j), add_neg f (slice_index (poly_product f w by) j)) in
    let zD : slice_index D i ≡ 0 = low_factor f D by 0 (fits_sum f u minus hu (fits_multiple f (neg f 1) w)) p l (λ j c. z j) i (omega arith) in
    subtract_zero f (slice_index u i) (slice_index w i) (fits_symbol f u hu i) (fits_symbol f w hw i) (cc (zD, index_sum f u minus i hu (fits_multiple f (neg f 1) w), index_multiple f (neg f 1) w i, neg_one_mul f (slice_index w i)))

x_power_top : (f : FieldName) (n : ℕ) → 1 ≤ n → 0 < slice_index (x_power_minus_one f n) n
x_power_top f n l =
    let k : length (x_power_minus_one f n) - 1 ≡ n = omega (arith, length_x_power f n l) in
    subst (λ i. 0 < slice_index (x_power_minus_one f n) i) k ((x_power_polynomial f n).leads (omega (arith, length_x_power f n l)))

nonzero_product : (f : FieldName) (u v : List ℕ) → IsPolynomial f u → IsPolynomial f v → 0 < length u → 0 < length v → slice_index (poly_product f u v) (length u - 1 + (length v - 1)) ≡ 0 → ⊥
nonzero_product f u v p q a b z =
    let x = slice_index u (length u - 1) in
    let y = slice_index v (length v - 1) in
    ⊎_elim
    (λ (e : x ≡ 0). absurd (omega (arith, p.leads a, e)))
    (λ (e : y ≡ 0). absurd (omega (arith, q.leads b, e)))
    (no_zero_divisors f x y (fits_symbol f u p.fits (length u - 1)) (fits_symbol f v q.fits (length v - 1)) (sym (product_top f u v a b) ∙ z))

pub divisor_degrees : (f : FieldName) (n : ℕ) (u v : List ℕ) → 1 ≤ n → IsPolynomial f u → IsPolynomial f v → SamePolynomial (x_power_minus_one f n) (poly_product f u v) → (0 < length u) × (0 < length v) × (length u + length v ≡ n + 2)
divisor_degrees f n u v l p q s =
    let high : length u + length v ≤ suc n → ⊥ = λ b. absurd (omega (arith, x_power_top f n l, s n, product_high f u v n b)) in
    let a : 0 < length u = ⊎_elim (λ b. b) (λ b. absurd (nothing_first b)) (cases_lt 0 (length u)) in
    let b : 0 < length v = ⊎_elim (λ b. b) (λ b. absurd (nothing_second b)) (cases_lt 0 (length v)) in
    let t = length u - 1 + (length v - 1) in
    let sum : length u + length v ≡ n + 2 = ⊎_elim
    (λ c. absurd (nonzero_product f u v p q a b (sym (s t) ∙ get_or_past (x_power_minus_one f n) t 0 (omega (arith, length_x_power f n l, c)))))
    (λ c. ⊎_elim (λ d. absurd (high (omega (arith, d, a, b)))) (λ d. omega (arith, a, b, c, d)) (cases_lt t n))
    (cases_lt n t) in
    (a, b, sum)
  where
    nothing_first : length u ≤ 0 → ⊥
    nothing_first b = absurd (omega (arith, x_power_top f n l, s n, ap (λ w. slice_index (poly_product f w v) n) (nothing u b), ap (λ w. slice_index w n) (nothing_times f v), past n))

    nothing_second : length v ≤ 0 → ⊥
    nothing_second b = absurd (omega (arith, x_power_top f n l, s n, ap (λ w. slice_index (poly_product f u w) n) (nothing v b), product_nothing f u n))

-- ---- lists of a given length

unfoldable pub listed : ℕ → List ℕ → List ℕ
listed zero t = []
listed (suc k) [] = 0 ∷ listed k []
listed (suc k) (a ∷ t) = a ∷ listed k t

pub length_listed : (k : ℕ) (t : List ℕ) → length (listed k t) ≡ k
unfolding listed
length_listed zero t = refl
length_listed (suc k) [] = ap suc (length_listed k [])
length_listed (suc k) (a ∷ t) = ap suc (length_listed k t)

fits_listed : (f : FieldName) (k : ℕ) (t : List ℕ) → Fits f t → Fits f (listed k t)
unfolding listed
fits_listed f zero t h = λ i l. absurd (omega (arith, l))
fits_listed f (suc k) [] h = fits_cons f 0 (listed k []) (zero_inside f) (fits_listed f k [] h)
fits_listed f (suc k) (a ∷ t) h = fits_cons f a (listed k t) (fits_head f a t h) (fits_listed f k t (fits_tail f a t h))

pub listed_word : (f : FieldName) (k : ℕ) (t : List ℕ) → Fits f t → IsWord f k (listed k t)
listed_word f k t h = record { long = length_listed k t; fits = fits_listed f k t h }

index_listed : (k : ℕ) (t : List ℕ) (i : ℕ) → i < k → slice_index (listed k t) i ≡ slice_index t i
unfolding listed
index_listed zero t i l = absurd (omega (arith, l))
index_listed (suc k) [] zero l = refl
index_listed (suc k) (a ∷ t) zero l = refl
index_listed (suc k) [] (suc i) l = index_listed k [] i (omega (arith, l))
index_listed (suc k) (a ∷ t) (suc i) l = index_listed k t i (omega (arith, l))

pub listed_same : (k : ℕ) (t : List ℕ) → ((i : ℕ) → k ≤ i → slice_index t i ≡ 0) → SamePolynomial (listed k t) t
listed_same k t z i =
    ⊎_elim (λ l. index_listed k t i l) (λ l. get_or_past (listed k t) i 0 (omega (arith, length_listed k t, l)) ∙ sym (z i l)) (cases_lt i k)
