-- The laws of polynomials over a field, as lists of coefficients from the constant upwards. An equation of polynomials is
-- told coefficient by coefficient, with 0 past the end of a list.
-- Coefficients
--   index_sum, index_multiple            the coefficients of a sum and of a multiple
--   index_product_zero, index_product_suc      and of a product, by the first factor's constant and rest
--   fits_sum, fits_multiple, fits_product      they are elements
-- Product
--   product_zeros, zeros_product, product_nothing      a factor 0
--   same_product, product_same           equal factors
--   sum_product, product_sum             sums, in the first factor and in the second
--   multiple_product                     multiples
--   product_second_zero, product_second_suc    the coefficients by the second factor's constant and rest
--   product_commutes, product_associates
-- Values
--   value_inside, value_zeros, value_same      the value is an element, 0 at the zero polynomial, that of equal polynomials
--   value_sum, value_multiple, value_product   values of sums, multiples and products
-- Without last zeros
--   no_longer                            a polynomial without last zeros is no longer than any list with its coefficients
--   only_polynomial                      there is one list without last zeros for a polynomial
-- Division
--   zero_above, first_zero               lists of zeros
--   low_product                          a multiple with no more coefficients than the degree is 0
--   lowered f a u                        the quotient of u less its value at a, on division by x - a
--   length_lowered, fits_lowered, value_from_lowered, index_lowered, step_lowered      its length, elements and coefficients
use Rattle.std.proofs.Common.{◌≡◌, ℕ, zero, suc, ◌-◌, ◌<◌, ◌≤◌, ⊎_elim, List, [], ◌∷◌, length, drop, slice_index, refl, sym, ap, ◌∙◌, arith}
use Rattle.std.proofs.lemmas.Bool.{cases_lt}
use Rattle.std.proofs.lemmas.List.{get_or_past}
use Rattle.lc_algebra.specs.declared.FieldName.{FieldName}
use Rattle.lc_algebra.specs.Field.{size, add, mul}
use Rattle.lc_algebra.specs.Word.{Fits}
use Rattle.lc_algebra.specs.Polynomial.{value_at, poly_sum, poly_scale, poly_product, SamePolynomial, IsPolynomial}
use Rattle.lc_algebra.proofs.FieldLaws.{no_zero_divisors, zero_inside, add_inside, mul_inside, add_comm, add_assoc, zero_add, add_zero, mul_comm, mul_assoc, mul_swap, mul_add, add_mul, mul_zero, zero_mul}
use Rattle.lc_algebra.proofs.WordLaws.{fits_tail, fits_cons, fits_symbol, same_words, add_exchange}

pub index_sum : (f : FieldName) (u v : List ℕ) (i : ℕ) → Fits f u → Fits f v → slice_index (poly_sum f u v) i ≡ add f (slice_index u i) (slice_index v i)
unfolding poly_sum
index_sum f [] v i h k = sym (zero_add f (slice_index v i) (fits_symbol f v k i))
index_sum f (a ∷ u) [] i h k = sym (add_zero f (slice_index (a ∷ u) i) (fits_symbol f (a ∷ u) h i))
index_sum f (a ∷ u) (b ∷ v) zero h k = refl
index_sum f (a ∷ u) (b ∷ v) (suc i) h k = index_sum f u v i (fits_tail f a u h) (fits_tail f b v k)

pub index_multiple : (f : FieldName) (c : ℕ) (u : List ℕ) (i : ℕ) → slice_index (poly_scale f c u) i ≡ mul f c (slice_index u i)
unfolding poly_scale
index_multiple f c [] i = sym (mul_zero f c)
index_multiple f c (a ∷ u) zero = refl
index_multiple f c (a ∷ u) (suc i) = index_multiple f c u i

pub fits_sum : (f : FieldName) (u v : List ℕ) → Fits f u → Fits f v → Fits f (poly_sum f u v)
fits_sum f u v h k i l = rw (index_sum f u v i h k) (add_inside f (slice_index u i) (slice_index v i))

pub fits_multiple : (f : FieldName) (c : ℕ) (u : List ℕ) → Fits f (poly_scale f c u)
fits_multiple f c u i l = rw (index_multiple f c u i) (mul_inside f c (slice_index u i))

pub fits_product : (f : FieldName) (u v : List ℕ) → Fits f (poly_product f u v)
unfolding poly_product
fits_product f [] v = λ i l. zero_inside f
fits_product f (c ∷ u) v = fits_sum f (poly_scale f c v) (0 ∷ poly_product f u v) (fits_multiple f c v) (fits_cons f 0 (poly_product f u v) (zero_inside f) (fits_product f u v))

pub product_inside : (f : FieldName) (u v : List ℕ) (i : ℕ) → slice_index (poly_product f u v) i < size f
product_inside f u v i = fits_symbol f (poly_product f u v) (fits_product f u v) i

pub index_both : (f : FieldName) (c : ℕ) (u v : List ℕ) (i : ℕ) → slice_index (poly_product f (c ∷ u) v) i ≡ add f (mul f c (slice_index v i)) (slice_index (0 ∷ poly_product f u v) i)
unfolding poly_product
index_both f c u v i =
    index_sum f (poly_scale f c v) (0 ∷ poly_product f u v) i (fits_multiple f c v) (fits_cons f 0 (poly_product f u v) (zero_inside f) (fits_product f u v)) ∙ ap (λ x. add f x (slice_index (0 ∷ poly_product f u v) i)) (index_multiple f c v i)

pub index_product_zero : (f : FieldName) (c : ℕ) (u v : List ℕ) → slice_index (poly_product f (c ∷ u) v) 0 ≡ mul f c (slice_index v 0)
index_product_zero f c u v = index_both f c u v 0 ∙ add_zero f _ (mul_inside f c (slice_index v 0))

pub index_product_suc : (f : FieldName) (c : ℕ) (u v : List ℕ) (i : ℕ) → slice_index (poly_product f (c ∷ u) v) (suc i) ≡ add f (mul f c (slice_index v (suc i))) (slice_index (poly_product f u v) i)
index_product_suc f c u v i = index_both f c u v (suc i)

zeros_added : (f : FieldName) → add f 0 0 ≡ 0
zeros_added f = zero_add f 0 (zero_inside f)

pub zeros_product : (f : FieldName) (u v : List ℕ) (i : ℕ) → ((j : ℕ) → slice_index u j ≡ 0) → slice_index (poly_product f u v) i ≡ 0
unfolding poly_product
zeros_product f [] v i h = refl
zeros_product f (c ∷ u) v zero h = index_product_zero f c u v ∙ ap (λ x. mul f x (slice_index v 0)) (h 0) ∙ zero_mul f (slice_index v 0)
zeros_product f (c ∷ u) v (suc i) h =
    let z : c ≡ 0 = h 0 in
    cc (index_product_suc f c u v i, z, zero_mul f (slice_index v (suc i)), zeros_product f u v i (λ j. h (suc j)), zeros_added f)

pub product_zeros : (f : FieldName) (u v : List ℕ) (i : ℕ) → ((j : ℕ) → slice_index v j ≡ 0) → slice_index (poly_product f u v) i ≡ 0
unfolding poly_product
product_zeros f [] v i h = refl
product_zeros f (c ∷ u) v zero h = index_product_zero f c u v ∙ ap (mul f c) (h 0) ∙ mul_zero f c
product_zeros f (c ∷ u) v (suc i) h = cc (index_product_suc f c u v i, h (suc i), mul_zero f c, product_zeros f u v i h, zeros_added f)

pub product_nothing : (f : FieldName) (u : List ℕ) (i : ℕ) → slice_index (poly_product f u []) i ≡ 0
product_nothing f u i = product_zeros f u [] i (λ j. refl)

pub same_product : (f : FieldName) (u w v : List ℕ) (i : ℕ) → SamePolynomial u w → slice_index (poly_product f u v) i ≡ slice_index (poly_product f w v) i
unfolding poly_product
same_product f [] w v i h = sym (zeros_product f w v i (λ j. sym (h j)))
same_product f (c ∷ u) [] v i h = zeros_product f (c ∷ u) v i h
same_product f (c ∷ u) (d ∷ w) v zero h =
    let z : c ≡ d = h 0 in
    cc (index_product_zero f c u v, index_product_zero f d w v, z)
same_product f (c ∷ u) (d ∷ w) v (suc i) h =
    let z : c ≡ d = h 0 in
    cc (index_product_suc f c u v i, index_product_suc f d w v i, z, same_product f u w v i (λ j. h (suc j)))

pub product_same : (f : FieldName) (u v w : List ℕ) (i : ℕ) → SamePolynomial v w → slice_index (poly_product f u v) i ≡ slice_index (poly_product f u w) i
unfolding poly_product
product_same f [] v w i h = refl
product_same f (c ∷ u) v w zero h = cc (index_product_zero f c u v, index_product_zero f c u w, h 0)
product_same f (c ∷ u) v w (suc i) h = cc (index_product_suc f c u v i, index_product_suc f c u w i, h (suc i), product_same f u v w i h)

pub sum_product : (f : FieldName) (u w v : List ℕ) (i : ℕ) → slice_index (poly_product f (poly_sum f u w) v) i ≡ add f (slice_index (poly_product f u v) i) (slice_index (poly_product f w v) i)
unfolding poly_sum poly_product
sum_product f [] w v i = sym (zero_add f _ (product_inside f w v i))
sum_product f (c ∷ u) [] v i = sym (add_zero f _ (product_inside f (c ∷ u) v i))
sum_product f (c ∷ u) (d ∷ w) v zero = cc (index_product_zero f (add f c d) (poly_sum f u w) v, add_mul f c d (slice_index v 0), index_product_zero f c u v, index_product_zero f d w v)
sum_product f (c ∷ u) (d ∷ w) v (suc i) =
    cc (index_product_suc f (add f c d) (poly_sum f u w) v i, add_mul f c d (slice_index v (suc i)), sum_product f u w v i, index_product_suc f c u v i, index_product_suc f d w v i, add_exchange f (mul f c (slice_index v (suc i))) (mul f d (slice_index v (suc i))) (slice_index (poly_product f u v) i) (slice_index (poly_product f w v) i))

pub multiple_product : (f : FieldName) (k : ℕ) (u v : List ℕ) (i : ℕ) → slice_index (poly_product f (poly_scale f k u) v) i ≡ mul f k (slice_index (poly_product f u v) i)
unfolding poly_scale poly_product
multiple_product f k [] v i = sym (mul_zero f k)
multiple_product f k (c ∷ u) v zero = cc (index_product_zero f (mul f k c) (poly_scale f k u) v, mul_assoc f k c (slice_index v 0), index_product_zero f c u v)
multiple_product f k (c ∷ u) v (suc i) =
    cc (index_product_suc f (mul f k c) (poly_scale f k u) v i, mul_assoc f k c (slice_index v (suc i)), multiple_product f k u v i, index_product_suc f c u v i, mul_add f k (mul f c (slice_index v (suc i))) (slice_index (poly_product f u v) i))

pub product_second_zero : (f : FieldName) (v : List ℕ) (c : ℕ) (u : List ℕ) → slice_index (poly_product f v (c ∷ u)) 0 ≡ mul f c (slice_index v 0)
unfolding poly_product
product_second_zero f [] c u = sym (mul_zero f c)
product_second_zero f (b ∷ v) c u = index_product_zero f b v (c ∷ u) ∙ mul_comm f b c

add_swap : (f : FieldName) (a b c : ℕ) → add f a (add f b c) ≡ add f b (add f a c)
add_swap f a b c = cc (add_assoc f a b c, add_assoc f b a c, add_comm f a b)

pub product_second_suc : (f : FieldName) (v : List ℕ) (c : ℕ) (u : List ℕ) (i : ℕ) → slice_index (poly_product f v (c ∷ u)) (suc i) ≡ add f (mul f c (slice_index v (suc i))) (slice_index (poly_product f v u) i)
unfolding poly_product
product_second_suc f [] c u i = cc (mul_zero f c, zeros_added f)
product_second_suc f (b ∷ v) c u zero =
    cc (index_product_suc f b v (c ∷ u) 0, product_second_zero f v c u, index_product_zero f b v u, add_comm f (mul f b (slice_index u 0)) (mul f c (slice_index v 0)))
product_second_suc f (b ∷ v) c u (suc i) =
    cc (index_product_suc f b v (c ∷ u) (suc i), product_second_suc f v c u i, index_product_suc f b v u i, add_swap f (mul f b (slice_index u (suc i))) (mul f c (slice_index v (suc i))) (slice_index (poly_product f v u) i))

pub product_commutes : (f : FieldName) (u v : List ℕ) (i : ℕ) → slice_index (poly_product f u v) i ≡ slice_index (poly_product f v u) i
unfolding poly_product
product_commutes f [] v i = sym (product_nothing f v i)
product_commutes f (c ∷ u) v zero = index_product_zero f c u v ∙ sym (product_second_zero f v c u)
product_commutes f (c ∷ u) v (suc i) = cc (index_product_suc f c u v i, product_second_suc f v c u i, product_commutes f u v i)

pub product_sum : (f : FieldName) (u v w : List ℕ) (i : ℕ) → slice_index (poly_product f u (poly_sum f v w)) i ≡ add f (slice_index (poly_product f u v) i) (slice_index (poly_product f u w) i)
product_sum f u v w i = cc (product_commutes f u (poly_sum f v w) i, sum_product f v w u i, product_commutes f v u i, product_commutes f w u i)

up_product : (f : FieldName) (u w : List ℕ) (i : ℕ) → slice_index (poly_product f (0 ∷ u) w) i ≡ slice_index (0 ∷ poly_product f u w) i
up_product f u w zero = index_product_zero f 0 u w ∙ zero_mul f (slice_index w 0)
up_product f u w (suc i) = cc (index_product_suc f 0 u w i, zero_mul f (slice_index w (suc i)), zero_add f _ (product_inside f u w i))

pub product_associates : (f : FieldName) (u v w : List ℕ) (i : ℕ) → slice_index (poly_product f (poly_product f u v) w) i ≡ slice_index (poly_product f u (poly_product f v w)) i
unfolding poly_product
product_associates f [] v w i = refl
product_associates f (c ∷ u) v w zero =
    cc (sum_product f (poly_scale f c v) (0 ∷ poly_product f u v) w 0, multiple_product f c v w 0, up_product f (poly_product f u v) w 0, index_both f c u (poly_product f v w) 0)
product_associates f (c ∷ u) v w (suc i) =
    cc (sum_product f (poly_scale f c v) (0 ∷ poly_product f u v) w (suc i), multiple_product f c v w (suc i), up_product f (poly_product f u v) w (suc i), product_associates f u v w i, index_product_suc f c u (poly_product f v w) i)

pub value_inside : (f : FieldName) (u : List ℕ) (x : ℕ) → value_at f u x < size f
unfolding value_at
value_inside f [] x = zero_inside f
value_inside f (c ∷ u) x = add_inside f c (mul f x (value_at f u x))

pub value_zeros : (f : FieldName) (u : List ℕ) (x : ℕ) → ((j : ℕ) → slice_index u j ≡ 0) → value_at f u x ≡ 0
unfolding value_at
value_zeros f [] x h = refl
value_zeros f (c ∷ u) x h =
    let z : c ≡ 0 = h 0 in
    cc (z, value_zeros f u x (λ j. h (suc j)), mul_zero f x, zeros_added f)

pub value_same : (f : FieldName) (u v : List ℕ) (x : ℕ) → SamePolynomial u v → value_at f u x ≡ value_at f v x
unfolding value_at
value_same f [] v x h = sym (value_zeros f v x (λ j. sym (h j)))
value_same f (a ∷ u) [] x h = value_zeros f (a ∷ u) x h
value_same f (a ∷ u) (b ∷ v) x h =
    let z : a ≡ b = h 0 in
    cc (z, value_same f u v x (λ j. h (suc j)))

pub value_sum : (f : FieldName) (u v : List ℕ) (x : ℕ) → value_at f (poly_sum f u v) x ≡ add f (value_at f u x) (value_at f v x)
unfolding value_at poly_sum
value_sum f [] v x = sym (zero_add f _ (value_inside f v x))
value_sum f (a ∷ u) [] x = sym (add_zero f _ (value_inside f (a ∷ u) x))
value_sum f (a ∷ u) (b ∷ v) x = cc (value_sum f u v x, mul_add f x (value_at f u x) (value_at f v x), add_exchange f a b (mul f x (value_at f u x)) (mul f x (value_at f v x)))

pub value_multiple : (f : FieldName) (c : ℕ) (u : List ℕ) (x : ℕ) → value_at f (poly_scale f c u) x ≡ mul f c (value_at f u x)
unfolding value_at poly_scale
value_multiple f c [] x = sym (mul_zero f c)
value_multiple f c (a ∷ u) x = cc (value_multiple f c u x, mul_swap f x c (value_at f u x), mul_add f c a (mul f x (value_at f u x)))

pub value_product : (f : FieldName) (u v : List ℕ) (x : ℕ) → value_at f (poly_product f u v) x ≡ mul f (value_at f u x) (value_at f v x)
unfolding value_at poly_product
value_product f [] v x = sym (zero_mul f (value_at f v x))
value_product f (c ∷ u) v x =
    cc (value_sum f (poly_scale f c v) (0 ∷ poly_product f u v) x, value_multiple f c v x, zero_add f _ (mul_inside f x (value_at f (poly_product f u v) x)), value_product f u v x, mul_assoc f x (value_at f u x) (value_at f v x), add_mul f c (mul f x (value_at f u x)) (value_at f v x))

pub no_longer : (f : FieldName) (u v : List ℕ) → IsPolynomial f v → SamePolynomial u v → length v ≤ length u
no_longer f u v p s =
    ⊎_elim (λ l. absurd (omega (arith, l, p.leads (omega (arith, l)), get_or_past u (length v - 1) 0 (omega (arith, l)), s (length v - 1)))) (λ l. l) (cases_lt (length u) (length v))

pub only_polynomial : (f : FieldName) (u v : List ℕ) → IsPolynomial f u → IsPolynomial f v → SamePolynomial u v → u ≡ v
only_polynomial f u v p q s = same_words u v (omega (arith, no_longer f u v q s, no_longer f v u p (λ i. sym (s i)))) s

-- ---- division

zero_above : (u : List ℕ) → ((i : ℕ) → slice_index u i ≡ 0) → (i : ℕ) → slice_index (0 ∷ u) i ≡ 0
zero_above u h zero = refl
zero_above u h (suc i) = h i

pub first_zero : (c : ℕ) (u : List ℕ) → c ≡ 0 → ((i : ℕ) → slice_index u i ≡ 0) → (i : ℕ) → slice_index (c ∷ u) i ≡ 0
first_zero c u e h zero = e
first_zero c u e h (suc i) = h i

pub low_product : (f : FieldName) (u by : List ℕ) (m : ℕ) → Fits f u → Fits f by → length by ≡ suc m → 0 < slice_index by m → ((i : ℕ) → m ≤ i → slice_index (poly_product f u by) i ≡ 0) → (i : ℕ) → slice_index u i ≡ 0
low_product f [] by m hu hb e l z i = refl
low_product f (c ∷ u) by m hu hb e l z i =
    let rest : (i : ℕ) → slice_index u i ≡ 0 = low_product f u by m (fits_tail f c u hu) hb e l (λ j k. sym (zero_add f _ (product_inside f u by j)) ∙ cc (index_product_suc f c u by j, z (suc j) (omega (arith, k)), get_or_past by (suc j) 0 (omega (arith, e, k)), mul_zero f c)) in
    let up : slice_index (0 ∷ poly_product f u by) m ≡ 0 = zero_above (poly_product f u by) (λ j. zeros_product f u by j rest) m in
    let t : mul f c (slice_index by m) ≡ 0 = sym (add_zero f _ (mul_inside f c (slice_index by m))) ∙ cc (index_both f c u by m, up, z m (omega arith)) in
    ⊎_elim (λ d. first_zero c u d rest i) (λ d. absurd (omega (arith, l, d))) (no_zero_divisors f c (slice_index by m) (fits_symbol f (c ∷ u) hu 0) (fits_symbol f by hb m) t)

unfoldable pub lowered : FieldName → ℕ → List ℕ → List ℕ
lowered f a [] = []
lowered f a (c ∷ []) = []
lowered f a (c ∷ d ∷ u) = value_at f (d ∷ u) a ∷ lowered f a (d ∷ u)

pub length_lowered : (f : FieldName) (a : ℕ) (u : List ℕ) → length (lowered f a u) ≡ length u - 1
unfolding lowered
length_lowered f a [] = omega arith
length_lowered f a (c ∷ []) = omega arith
length_lowered f a (c ∷ d ∷ u) = omega (arith, length_lowered f a (d ∷ u))

pub fits_lowered : (f : FieldName) (a : ℕ) (u : List ℕ) → Fits f (lowered f a u)
unfolding lowered
fits_lowered f a [] = λ i l. zero_inside f
fits_lowered f a (c ∷ []) = λ i l. zero_inside f
fits_lowered f a (c ∷ d ∷ u) = fits_cons f (value_at f (d ∷ u) a) (lowered f a (d ∷ u)) (value_inside f (d ∷ u) a) (fits_lowered f a (d ∷ u))

pub value_from_lowered : (f : FieldName) (a : ℕ) (u : List ℕ) → value_at f u a ≡ add f (slice_index u 0) (mul f a (slice_index (lowered f a u) 0))
unfolding value_at lowered
value_from_lowered f a [] = sym (cc (mul_zero f a, zero_add f 0 (zero_inside f)))
value_from_lowered f a (c ∷ []) = refl
value_from_lowered f a (c ∷ d ∷ u) = refl

pub index_lowered : (f : FieldName) (a : ℕ) (u : List ℕ) (k : ℕ) → slice_index (lowered f a u) k ≡ value_at f (drop (suc k) u) a
unfolding value_at lowered
index_lowered f a [] k = refl
index_lowered f a (c ∷ []) zero = refl
index_lowered f a (c ∷ []) (suc k) = refl
index_lowered f a (c ∷ d ∷ u) zero = refl
index_lowered f a (c ∷ d ∷ u) (suc k) = index_lowered f a (d ∷ u) k

pub step_lowered : (f : FieldName) (a : ℕ) (u : List ℕ) (k : ℕ) → slice_index (lowered f a u) k ≡ add f (slice_index u (suc k)) (mul f a (slice_index (lowered f a u) (suc k)))
unfolding lowered
step_lowered f a [] k = sym (cc (mul_zero f a, zero_add f 0 (zero_inside f)))
step_lowered f a (c ∷ []) k = sym (cc (mul_zero f a, zero_add f 0 (zero_inside f)))
step_lowered f a (c ∷ d ∷ u) zero = value_from_lowered f a (d ∷ u)
step_lowered f a (c ∷ d ∷ u) (suc k) = step_lowered f a (d ∷ u) k
