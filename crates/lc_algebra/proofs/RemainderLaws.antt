-- The product of elements is the remainder of the plain product of their polynomials on division by the field's polynomial,
-- and remainders are unique.
--   index-plus, index-long_plus      coefficients of sums
--   whole_multiple             moving up without letting go is times_x and the top multiple of the monic polynomial
--   each_residue, residues_each      lists of residues, entry by entry
--   remainder_of_product       product is a remainder of long_times, for residues modulo any p
--   product_is_remainder       so it is in each of the eighteen fields
--   one_of_remainder           a remainder is what multiplying by 1 gives
--   remainder_unique           two remainders of one polynomial are equal
--   told_by_remainder          the element whose coefficients are a remainder of the plain product is the product
use Rattle.std.proofs.Common.{◌≡◌, ℕ, zero, suc, ◌+◌, ◌-◌, ◌*◌, ◌%◌, ◌<◌, ◌≤◌, List, [], ◌∷◌, ◌++◌, length, replicate, slice_index, EachIndex, refl, sym, ap, ◌∙◌, arith, mod-lt, mod-eq_of_lt, mul-add}
use Rattle.std.proofs.Math.Nat.{zero-mod, add-mul-mod_self_left}
use Rattle.std.proofs.lemmas.Nat.{mul-mod_second}
use Rattle.lc_algebra.specs.declared.FieldName.{FieldName}
use Rattle.lc_algebra.specs.Residue.{number, plus, minus, times, long_plus, long_times, IsRemainder, top, up, times_x, product}
use Rattle.lc_algebra.specs.Field.{shape_of, size, coefficients, mul}
use Rattle.lc_algebra.proofs.ResidueLaws.{Residues, sum_of_rests, rest_sum_second, plus_zero, plus_comm, plus_times, times_zero, times_none, times_plus, times_times, plus_middle, length-times, residues_plus, residues_times}
use Rattle.lc_algebra.proofs.ProductLaws.{times_x_plus, times_x_times, times_x_zeros, zeros_plus_zeros, length-times_x, length-product, residues_product}
use Rattle.lc_algebra.proofs.FieldTests.{positive, length-lower, residues_lower, monic_test}
use Rattle.lc_algebra.proofs.FieldLaws.{coefficients_mul, coefficients_fit, told_by_coefficients, mul_inside, product_one, coefficients-number}

-- coefficients of sums and multiples

pub index-zeros : (n i : ℕ) → slice_index (replicate n 0) i ≡ 0
index-zeros zero i = refl
index-zeros (suc n) zero = refl
index-zeros (suc n) (suc i) = index-zeros n i

index_below : (p : ℕ) (u : List ℕ) (i : ℕ) → 0 < p → Residues p u → slice_index u i < p
index_below p [] i l r = l
index_below p (a ∷ u) zero l r = r.0
index_below p (a ∷ u) (suc i) l r = index_below p u i l r.1

index-plus : (p : ℕ) (u v : List ℕ) (i : ℕ) → length u ≡ length v → slice_index (plus p u v) i ≡ (slice_index u i + slice_index v i) % p
unfolding plus
index-plus p [] [] i e = sym (zero-mod p)
index-plus p [] (b ∷ v) i e = absurd (omega arith)
index-plus p (a ∷ u) [] i e = absurd (omega arith)
index-plus p (a ∷ u) (b ∷ v) zero e = refl
index-plus p (a ∷ u) (b ∷ v) (suc i) e = index-plus p u v i (omega arith)

index-long_plus : (p : ℕ) (u v : List ℕ) (i : ℕ) → 0 < p → Residues p u → Residues p v → slice_index (long_plus p u v) i ≡ (slice_index u i + slice_index v i) % p
unfolding long_plus
index-long_plus p [] v i l r s =
    let e : 0 + slice_index v i ≡ slice_index v i = omega arith in
    cc (mod-eq_of_lt (index_below p v i l s))
index-long_plus p (a ∷ u) [] i l r s =
    let e : slice_index (a ∷ u) i + 0 ≡ slice_index (a ∷ u) i = omega arith in
    cc (mod-eq_of_lt (index_below p (a ∷ u) i l r))
index-long_plus p (a ∷ u) (b ∷ v) zero l r s = refl
index-long_plus p (a ∷ u) (b ∷ v) (suc i) l r s = index-long_plus p u v i l r.1 s.1

residues_long_plus : (p : ℕ) (u v : List ℕ) → 0 < p → Residues p u → Residues p v → Residues p (long_plus p u v)
unfolding long_plus
residues_long_plus p [] v l r s = s
residues_long_plus p (a ∷ u) [] l r s = r
residues_long_plus p (a ∷ u) (b ∷ v) l r s = (mod-lt (a + b) l, residues_long_plus p u v l r.1 s.1)

residues_long_times : (p : ℕ) (u v : List ℕ) → 0 < p → Residues p (long_times p u v)
unfolding long_times
residues_long_times p [] v l = tt
residues_long_times p (c ∷ u) v l =
    residues_long_plus p (times p c v) (0 ∷ long_times p u v) l (residues_times p c v l) (l, residues_long_times p u v l)

-- moving up

rest_shifted : (T b c p : ℕ) → b ≤ p → c < p → c ≡ ((T * b) % p + (c + (T * ((p - b) % p)) % p) % p) % p
rest_shifted T b c p l m =
    let e : (T * ((p - b) % p)) % p ≡ (T * (p - b)) % p = mul-mod_second T (p - b) p in
    let g : (c + (T * (p - b)) % p) % p ≡ (c + T * (p - b)) % p = rest_sum_second c (T * (p - b)) p in
    let h : ((T * b) % p + (c + T * (p - b)) % p) % p ≡ (T * b + (c + T * (p - b))) % p = sum_of_rests (T * b) (c + T * (p - b)) p in
    let s : b + (p - b) ≡ p = omega arith in
    let k : T * b + (c + T * (p - b)) ≡ c + p * T = omega (arith, mul-add T b (p - b), ap (λ x. T * x) s) in
    let w : (c + p * T) % p ≡ c % p = add-mul-mod_self_left c p T in
    cc (mod-eq_of_lt m)

whole_from : (p T c : ℕ) (m u : List ℕ) (i : ℕ) → 0 < p → length u ≡ length m → Residues p m → Residues p u → c < p → top c u ≡ T → slice_index (c ∷ u) i ≡ (slice_index (times p T (m ++ 1 ∷ [])) i + slice_index (plus p (up c u) (times p T (minus p m))) i) % p
unfolding plus times minus up top
whole_from p T c [] [] zero l e r s k t =
    let h : T * 1 ≡ c = omega arith in
    let z : c + 0 ≡ c = omega arith in
    cc (mod-eq_of_lt k)
whole_from p T c [] [] (suc i) l e r s k t = sym (zero-mod p)
whole_from p T c (b ∷ m) [] i l e r s k t = absurd (omega arith)
whole_from p T c [] (a ∷ u) i l e r s k t = absurd (omega arith)
whole_from p T c (b ∷ m) (a ∷ u) zero l e r s k t = rest_shifted T b c p (omega (arith, r.0)) k
whole_from p T c (b ∷ m) (a ∷ u) (suc i) l e r s k t = whole_from p T a m u i l (omega arith) r.1 s.1 s.0 t

pub whole_multiple : (p : ℕ) (m u : List ℕ) (i : ℕ) → 0 < p → length u ≡ length m → Residues p m → Residues p u → slice_index (0 ∷ u) i ≡ (slice_index (times p (top 0 u) (m ++ 1 ∷ [])) i + slice_index (times_x p m u) i) % p
unfolding times_x
whole_multiple p m u i l e r s = whole_from p (top 0 u) 0 m u i l e r s l refl

-- the product is a remainder

four_rests : (a b c d p : ℕ) → (a + (b + (c + d) % p) % p) % p ≡ ((c + b) % p + (a + d) % p) % p
four_rests a b c d p =
    let e : (b + (c + d) % p) % p ≡ (b + (c + d)) % p = rest_sum_second b (c + d) p in
    let g : (a + (b + (c + d)) % p) % p ≡ (a + (b + (c + d))) % p = rest_sum_second a (b + (c + d)) p in
    let h : ((c + b) % p + (a + d) % p) % p ≡ ((c + b) + (a + d)) % p = sum_of_rests (c + b) (a + d) p in
    let k : a + (b + (c + d)) ≡ (c + b) + (a + d) = omega arith in
    cc

quotient : ℕ → List ℕ → List ℕ → List ℕ → List ℕ
quotient p m [] v = []
quotient p m (c ∷ u) v = top 0 (product p m u v) ∷ quotient p m u v

moved_up : (p : ℕ) (u v w : List ℕ) (i : ℕ) → 0 < p → Residues p v → Residues p w → ((i : ℕ) → slice_index u i ≡ slice_index (long_plus p v w) i) → slice_index (0 ∷ u) i ≡ (slice_index (0 ∷ v) i + slice_index (0 ∷ w) i) % p
moved_up p u v w zero l r s h = sym (zero-mod p)
moved_up p u v w (suc i) l r s h = h i ∙ index-long_plus p v w i l r s

whole_product : (p : ℕ) (m u v : List ℕ) (i : ℕ) → 0 < p → Residues p m → length v ≡ length m → slice_index (long_times p u v) i ≡ slice_index (long_plus p (long_times p (quotient p m u v) (m ++ 1 ∷ [])) (product p m u v)) i
unfolding long_times product quotient long_plus
whole_product p m [] v i l r e = sym (index-zeros (length m) i)
whole_product p m (c ∷ u) v i l r e =
    let M = m ++ 1 ∷ [] in
    let w = product p m u v in
    let t = top 0 w in
    let h = long_times p (quotient p m u v) M in
    let rw_ : Residues p w = residues_product p m u v l in
    let rh : Residues p h = residues_long_times p (quotient p m u v) M l in
    let lw : length w ≡ length m = length-product p m u v e in
    let up1 : slice_index (0 ∷ long_times p u v) i ≡ (slice_index (0 ∷ h) i + slice_index (0 ∷ w) i) % p = moved_up p (long_times p u v) h w i l rh rw_ (λ j. whole_product p m u v j l r e) in
    let up2 : slice_index (0 ∷ w) i ≡ (slice_index (times p t M) i + slice_index (times_x p m w) i) % p = whole_multiple p m w i l lw r rw_ in
    let a1 : slice_index (long_plus p (times p c v) (0 ∷ long_times p u v)) i ≡ (slice_index (times p c v) i + slice_index (0 ∷ long_times p u v) i) % p = index-long_plus p (times p c v) (0 ∷ long_times p u v) i l (residues_times p c v l) (l, residues_long_times p u v l) in
    let ph : Residues p (long_plus p (times p t M) (0 ∷ h)) = residues_long_plus p (times p t M) (0 ∷ h) l (residues_times p t M l) (l, rh) in
    let a2 : slice_index (long_plus p (long_plus p (times p t M) (0 ∷ h)) (plus p (times p c v) (times_x p m w))) i ≡ (slice_index (long_plus p (times p t M) (0 ∷ h)) i + slice_index (plus p (times p c v) (times_x p m w)) i) % p = index-long_plus p (long_plus p (times p t M) (0 ∷ h)) (plus p (times p c v) (times_x p m w)) i l ph (residues_plus p (times p c v) (times_x p m w) l) in
    let a3 : slice_index (long_plus p (times p t M) (0 ∷ h)) i ≡ (slice_index (times p t M) i + slice_index (0 ∷ h) i) % p = index-long_plus p (times p t M) (0 ∷ h) i l (residues_times p t M l) (l, rh) in
    let same : length (times p c v) ≡ length (times_x p m w) = cc (length-times p c v, length-times_x p m w lw) in
    let a4 : slice_index (plus p (times p c v) (times_x p m w)) i ≡ (slice_index (times p c v) i + slice_index (times_x p m w) i) % p = index-plus p (times p c v) (times_x p m w) i same in
    cc (four_rests (slice_index (times p c v) i) (slice_index (0 ∷ h) i) (slice_index (times p t M) i) (slice_index (times_x p m w) i) p)

each_residue : (p : ℕ) (u : List ℕ) → Residues p u → EachIndex u (λ i. slice_index u i < p)
each_residue p [] r i l = absurd (omega (arith, l))
each_residue p (a ∷ u) r zero l = r.0
each_residue p (a ∷ u) r (suc i) l = each_residue p u r.1 i (omega (arith, l))

residues_each : (p : ℕ) (u : List ℕ) → EachIndex u (λ i. slice_index u i < p) → Residues p u
residues_each p [] h = tt
residues_each p (a ∷ u) h = (h 0 (omega arith), residues_each p u (λ i l. h (suc i) (omega (arith, l))))

pub remainder_of_product : (p : ℕ) (m u v : List ℕ) → 0 < p → Residues p m → length v ≡ length m → IsRemainder p m (long_times p u v) (product p m u v)
remainder_of_product p m u v l r e = record { residues = each_residue p (product p m u v) (residues_product p m u v l); degree = length-product p m u v e; multiple = (quotient p m u v, λ i. whole_product p m u v i l r e) }

pub product_is_remainder : (f : FieldName) (a b : ℕ) → IsRemainder (shape_of f).characteristic (shape_of f).lower (long_times (shape_of f).characteristic (coefficients f a) (coefficients f b)) (coefficients f (mul f a b))
product_is_remainder f a b =
    rw (coefficients_mul f a b) (remainder_of_product (shape_of f).characteristic (shape_of f).lower (coefficients f a) (coefficients f b) (positive f) (residues_lower f) (coefficients_fit f b))

-- remainders are unique

long_plus_product : (p : ℕ) (m u v w : List ℕ) → 0 < p → length w ≡ length m → product p m (long_plus p u v) w ≡ plus p (product p m u w) (product p m v w)
unfolding product long_plus
long_plus_product p m [] v w l e =
    let z : plus p (replicate (length (product p m v w)) 0) (product p m v w) ≡ product p m v w = plus_zero p (product p m v w) (residues_product p m v w l) in
    cc (length-product p m v w e)
long_plus_product p m (c ∷ u) [] w l e =
    let x = product p m (c ∷ u) w in
    let z : plus p (replicate (length x) 0) x ≡ x = plus_zero p x (residues_product p m (c ∷ u) w l) in
    cc (length-product p m (c ∷ u) w e, plus_comm p (replicate (length m) 0) x)
long_plus_product p m (c ∷ u) (d ∷ v) w l e =
    let a = product p m u w in
    let b = product p m v w in
    let same : length a ≡ length b = length-product p m u w e ∙ sym (length-product p m v w e) in
    cc (long_plus_product p m u v w l e, plus_times p c d w, times_x_plus p m a b same, plus_middle p (times p c w) (times p d w) (times_x p m a) (times_x p m b))

times_product : (p c : ℕ) (m u w : List ℕ) → product p m (times p c u) w ≡ times p c (product p m u w)
unfolding product times
times_product p c m [] w = sym (times_none p c (length m))
times_product p c m (a ∷ u) w =
    cc (times_product p c m u w, times_times p c a w, times_x_times p c m (product p m u w), times_plus p c (times p a w) (times_x p m (product p m u w)))

-- where w times the monic polynomial M is 0, so is w times a multiple of it
multiple_product : (p : ℕ) (m h M w : List ℕ) → 0 < p → length w ≡ length m → product p m M w ≡ replicate (length m) 0 → product p m (long_times p h M) w ≡ replicate (length m) 0
unfolding long_times product
multiple_product p m [] M w l e z = refl
multiple_product p m (c ∷ h) M w l e z =
    cc (long_plus_product p m (times p c M) (0 ∷ long_times p h M) w l e, times_product p c m M w, times_none p c (length m), multiple_product p m h M w l e z, times_zero p w, times_x_zeros p m, zeros_plus_zeros p (length m))

same_product : (p : ℕ) (m u v w : List ℕ) → length w ≡ length m → ((i : ℕ) → slice_index u i ≡ slice_index v i) → product p m u w ≡ product p m v w
unfolding product
same_product p m [] [] w e h = refl
same_product p m [] (b ∷ v) w e h =
    let k : replicate (length m) 0 ≡ product p m v w = same_product p m [] v w e (λ i. h (suc i)) in
    let z : 0 ≡ b = h 0 in
    cc (times_zero p w, times_x_zeros p m, zeros_plus_zeros p (length m))
same_product p m (a ∷ u) [] w e h =
    let k : product p m u w ≡ replicate (length m) 0 = same_product p m u [] w e (λ i. h (suc i)) in
    let z : a ≡ 0 = h 0 in
    cc (times_zero p w, times_x_zeros p m, zeros_plus_zeros p (length m))
same_product p m (a ∷ u) (b ∷ v) w e h =
    let z : a ≡ b = h 0 in
    cc (same_product p m u v w e (λ i. h (suc i)))

pub one_of_remainder : (f : FieldName) (a r : List ℕ) → IsRemainder (shape_of f).characteristic (shape_of f).lower a r → r ≡ product (shape_of f).characteristic (shape_of f).lower a (coefficients f 1)
one_of_remainder f a r i =
    let s : Residues (shape_of f).characteristic r = residues_each (shape_of f).characteristic r i.residues in
    let p = (shape_of f).characteristic in
    let m = (shape_of f).lower in
    let M = m ++ 1 ∷ [] in
    let w = coefficients f 1 in
    let (h, e) = i.multiple in
    let l : length r ≡ (shape_of f).degree = cc (i.degree, length-lower f) in
    let self : product p m r w ≡ r = cc (product_one f (number p r), coefficients-number f r s l) in
    let whole : product p m a w ≡ product p m (long_plus p (long_times p h M) r) w = same_product p m a (long_plus p (long_times p h M) r) w (coefficients_fit f 1) e in
    let z : plus p (replicate (length r) 0) r ≡ r = plus_zero p r s in
    cc (long_plus_product p m (long_times p h M) r w (positive f) (coefficients_fit f 1), multiple_product p m h M w (positive f) (coefficients_fit f 1) (monic_test f), i.degree)

pub remainder_unique : (f : FieldName) (a r s : List ℕ) → IsRemainder (shape_of f).characteristic (shape_of f).lower a r → IsRemainder (shape_of f).characteristic (shape_of f).lower a s → r ≡ s
remainder_unique f a r s i j = one_of_remainder f a r i ∙ sym (one_of_remainder f a s j)

pub told_by_remainder : (f : FieldName) (a b c : ℕ) → c < size f → IsRemainder (shape_of f).characteristic (shape_of f).lower (long_times (shape_of f).characteristic (coefficients f a) (coefficients f b)) (coefficients f c) → c ≡ mul f a b
told_by_remainder f a b c l i =
    told_by_coefficients f c (mul f a b) l (mul_inside f a b)
    (remainder_unique f (long_times (shape_of f).characteristic (coefficients f a) (coefficients f b)) (coefficients f c) (coefficients f (mul f a b)) i (product_is_remainder f a b))
