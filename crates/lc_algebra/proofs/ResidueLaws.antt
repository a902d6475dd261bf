-- Laws of lists of residues modulo p: sums, negatives, multiples, digits. They hold of all numbers and lists, unless a
-- premise stands there.
--   Residues p u                 each number of u is below p
--   plus_comm, plus_assoc, plus_middle        sums
--   plus_zero, plus_minus        the zero polynomial; a polynomial and its negative
--   times_plus, plus_times       multiples of sums, sums of multiples
--   times_times, times_swap      multiples of multiples
--   times_zero, times_one, times_none      multiples by 0, by 1, of zeros, by a residue
--   sum_of_rests, rest_sum_first, rest_sum_second      residues of sums
--   length-plus, ..              lengths
--   residues_plus, ..            what the operations give are residues
--   length-digits, residues_digits, number-digits, digits-number, number_below, number_zeros, digits_zero      digits and their number
use Rattle.std.proofs.Common.{◌≡◌, ℕ, zero, suc, ◌+◌, ◌-◌, ◌*◌, ◌/◌, ◌%◌, ◌^◌, ◌<◌, ◌≤◌, List, [], ◌∷◌, length, replicate, refl, sym, ap, arith, add_comm, add_assoc, mul_comm, mul_assoc, mul-add, add-mul, mod-lt, mod-eq_of_lt, pow-suc, mul-le-mul_left, zero-mul, mul-zero, zero-add}
use Rattle.std.proofs.Math.Nat.{mod-add-mod, add-mod-mod, add-mod, mod-add-div, mod_self, zero-mod, zero-div, pow-zero}
use Rattle.std.proofs.lemmas.Nat.{mul-mod_first, mul-mod_second, div-mul-add, mod-mul-add, div_below}
use Rattle.lc_algebra.specs.Residue.{digits, number, plus, minus, times}

abbrev pub Residues : ℕ → List ℕ → Type 0
Residues p [] = Unit {0}
Residues p (a ∷ u) = (a < p) × Residues p u

-- residues

pub sum_of_rests : (a b p : ℕ) → (a % p + b % p) % p ≡ (a + b) % p
sum_of_rests a b p = sym (add-mod a b p)

pub rest_sum_first : (a b p : ℕ) → (a % p + b) % p ≡ (a + b) % p
rest_sum_first a b p = mod-add-mod a p b

pub rest_sum_second : (a b p : ℕ) → (a + b % p) % p ≡ (a + b) % p
rest_sum_second a b p = add-mod-mod a b p

rest_sum_assoc : (a b c p : ℕ) → ((a + b) % p + c) % p ≡ (a + (b + c) % p) % p
rest_sum_assoc a b c p = cc (rest_sum_first (a + b) c p, rest_sum_second a (b + c) p, add_assoc a b c)

rest_times_sum : (c a b p : ℕ) → (c * ((a + b) % p)) % p ≡ ((c * a) % p + (c * b) % p) % p
rest_times_sum c a b p = cc (mul-mod_second c (a + b) p, sum_of_rests (c * a) (c * b) p, mul-add c a b)

rest_sum_times : (c d a p : ℕ) → (((c + d) % p) * a) % p ≡ ((c * a) % p + (d * a) % p) % p
rest_sum_times c d a p = cc (mul-mod_first (c + d) a p, sum_of_rests (c * a) (d * a) p, add-mul c d a)

rest_times_times : (c d a p : ℕ) → (c * ((d * a) % p)) % p ≡ (((c * d) % p) * a) % p
rest_times_times c d a p = cc (mul-mod_second c (d * a) p, mul-mod_first (c * d) a p, mul_assoc c d a)

rest_negative : (a p : ℕ) → a < p → (a + (p - a) % p) % p ≡ 0
rest_negative a p l =
    let e : a + (p - a) ≡ p = omega arith in
    cc (rest_sum_second a (p - a) p, e, mod_self p)

-- sums

pub plus_comm : (p : ℕ) (u v : List ℕ) → plus p u v ≡ plus p v u
unfolding plus
plus_comm p [] [] = refl
plus_comm p [] (b ∷ v) = refl
plus_comm p (a ∷ u) [] = refl
plus_comm p (a ∷ u) (b ∷ v) = cc (plus_comm p u v, add_comm a b)

pub plus_assoc : (p : ℕ) (u v w : List ℕ) → plus p (plus p u v) w ≡ plus p u (plus p v w)
unfolding plus
plus_assoc p [] v w = refl
plus_assoc p (a ∷ u) [] w = refl
plus_assoc p (a ∷ u) (b ∷ v) [] = refl
plus_assoc p (a ∷ u) (b ∷ v) (c ∷ w) = cc (plus_assoc p u v w, rest_sum_assoc a b c p)

-- the sum of four, the two in the middle changed over
pub plus_middle : (p : ℕ) (u v w x : List ℕ) → plus p (plus p u v) (plus p w x) ≡ plus p (plus p u w) (plus p v x)
plus_middle p u v w x =
    cc (plus_assoc p u v (plus p w x), plus_assoc p v w x, plus_comm p v w, plus_assoc p w v x, plus_assoc p u w (plus p v x))

pub plus_zero : (p : ℕ) (u : List ℕ) → Residues p u → plus p (replicate (length u) 0) u ≡ u
unfolding plus
plus_zero p [] r = refl
plus_zero p (a ∷ u) r =
    let e : (0 + a) % p ≡ a % p = ap (λ x. x % p) (zero-add a) in
    cc (plus_zero p u r.1, e, mod-eq_of_lt r.0)

pub plus_minus : (p : ℕ) (u : List ℕ) → Residues p u → plus p u (minus p u) ≡ replicate (length u) 0
unfolding plus minus
plus_minus p [] r = refl
plus_minus p (a ∷ u) r = cc (plus_minus p u r.1, rest_negative a p r.0)

-- multiples

pub times_plus : (p c : ℕ) (u v : List ℕ) → times p c (plus p u v) ≡ plus p (times p c u) (times p c v)
unfolding plus times
times_plus p c [] v = refl
times_plus p c (a ∷ u) [] = refl
times_plus p c (a ∷ u) (b ∷ v) = cc (times_plus p c u v, rest_times_sum c a b p)

pub plus_times : (p c d : ℕ) (u : List ℕ) → times p ((c + d) % p) u ≡ plus p (times p c u) (times p d u)
unfolding plus times
plus_times p c d [] = refl
plus_times p c d (a ∷ u) = cc (plus_times p c d u, rest_sum_times c d a p)

pub times_times : (p c d : ℕ) (u : List ℕ) → times p c (times p d u) ≡ times p ((c * d) % p) u
unfolding times
times_times p c d [] = refl
times_times p c d (a ∷ u) = cc (times_times p c d u, rest_times_times c d a p)

pub times_swap : (p c d : ℕ) (u : List ℕ) → times p c (times p d u) ≡ times p d (times p c u)
times_swap p c d u = cc (times_times p c d u, times_times p d c u, mul_comm c d)

pub times_none : (p c : ℕ) (n : ℕ) → times p c (replicate n 0) ≡ replicate n 0
unfolding times
times_none p c zero = refl
times_none p c (suc n) =
    let e : (c * 0) % p ≡ 0 = cc (mul-zero c, zero-mod p) in
    cc (times_none p c n, e)

pub times_zero : (p : ℕ) (u : List ℕ) → times p 0 u ≡ replicate (length u) 0
unfolding times
times_zero p [] = refl
times_zero p (a ∷ u) =
    let e : (0 * a) % p ≡ 0 = cc (zero-mul a, zero-mod p) in
    cc (times_zero p u, e)

pub times_one : (p : ℕ) (u : List ℕ) → Residues p u → times p 1 u ≡ u
unfolding times
times_one p [] r = refl
times_one p (a ∷ u) r =
    let e : 1 * a ≡ a = omega arith in
    cc (times_one p u r.1, e, mod-eq_of_lt r.0)

-- lengths

pub length-plus : (p : ℕ) (u v : List ℕ) → length u ≡ length v → length (plus p u v) ≡ length u
unfolding plus
length-plus p [] v e = refl
length-plus p (a ∷ u) [] e = cc
length-plus p (a ∷ u) (b ∷ v) e = cc (length-plus p u v (omega arith))

pub length-times : (p c : ℕ) (u : List ℕ) → length (times p c u) ≡ length u
unfolding times
length-times p c [] = refl
length-times p c (a ∷ u) = cc (length-times p c u)

pub length-minus : (p : ℕ) (u : List ℕ) → length (minus p u) ≡ length u
unfolding minus
length-minus p [] = refl
length-minus p (a ∷ u) = cc (length-minus p u)

pub length-digits : (p n a : ℕ) → length (digits p n a) ≡ n
unfolding digits
length-digits p zero a = refl
length-digits p (suc n) a = cc (length-digits p n (a / p))

-- what comes out are residues

pub residues_plus : (p : ℕ) (u v : List ℕ) → 0 < p → Residues p (plus p u v)
unfolding plus
residues_plus p [] v l = tt
residues_plus p (a ∷ u) [] l = tt
residues_plus p (a ∷ u) (b ∷ v) l = (mod-lt (a + b) l, residues_plus p u v l)

pub residues_times : (p c : ℕ) (u : List ℕ) → 0 < p → Residues p (times p c u)
unfolding times
residues_times p c [] l = tt
residues_times p c (a ∷ u) l = (mod-lt (c * a) l, residues_times p c u l)

pub residues_minus : (p : ℕ) (u : List ℕ) → 0 < p → Residues p (minus p u)
unfolding minus
residues_minus p [] l = tt
residues_minus p (a ∷ u) l = (mod-lt (p - a) l, residues_minus p u l)

pub residues_zeros : (p n : ℕ) → 0 < p → Residues p (replicate n 0)
residues_zeros p zero l = tt
residues_zeros p (suc n) l = (l, residues_zeros p n l)

pub residues_digits : (p n a : ℕ) → 0 < p → Residues p (digits p n a)
unfolding digits
residues_digits p zero a l = tt
residues_digits p (suc n) a l = (mod-lt a l, residues_digits p n (a / p) l)

-- digits and numbers

pub digits-number : (p : ℕ) (u : List ℕ) → Residues p u → digits p (length u) (number p u) ≡ u
unfolding digits number
digits-number p [] r = refl
digits-number p (a ∷ u) r =
    let q : (number p u * p + a) / p ≡ number p u = div-mul-add (number p u) p a r.0 in
    let s : (number p u * p + a) % p ≡ a = mod-mul-add (number p u) p a r.0 in
    let e : a + p * number p u ≡ number p u * p + a = omega arith in
    cc (digits-number p u r.1)

pub number_below : (p : ℕ) (u : List ℕ) → Residues p u → number p u < p ^ length u
unfolding number
number_below p [] r = omega (arith, pow-zero p)
number_below p (a ∷ u) r =
    let l : suc (number p u) ≤ p ^ length u = number_below p u r.1 in
    let m : p * suc (number p u) ≤ p * p ^ length u = mul-le-mul_left p l in
    omega (arith, m, pow-suc p (length u), r.0)

pub number-digits : (p n a : ℕ) → a < p ^ n → 0 < p → number p (digits p n a) ≡ a
unfolding digits number
number-digits p zero a l o = omega (arith, pow-zero p)
number-digits p (suc n) a l o =
    let b : a / p < p ^ n = div_below a p (p ^ n) o (omega (arith, pow-suc p n)) in
    omega (arith, ap (λ x. p * x) (number-digits p n (a / p) b o), mod-add-div a p)

pub number_zeros : (p n : ℕ) → number p (replicate n 0) ≡ 0
unfolding number
number_zeros p zero = refl
number_zeros p (suc n) = omega (arith, ap (λ x. p * x) (number_zeros p n))

pub digits_zero : (p n : ℕ) → digits p n 0 ≡ replicate n 0
unfolding digits
digits_zero p zero = refl
digits_zero p (suc n) = cc (digits_zero p n, zero-mod p, zero-div p)
