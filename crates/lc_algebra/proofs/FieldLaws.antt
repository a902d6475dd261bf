-- The axioms of a field, and what follows from them at once, for each of the eighteen fields. Where no bound is asked
-- for, a law holds of every number, since an operation reads only the lowest digits.
--   coefficients      coefficients_add, coefficients_neg, coefficients_mul: of results; coefficients_fit, residues_coefficients;
--                     number-coefficients, coefficients-number: the way and back; told_by_coefficients; element; product_one
--   inside            one_inside, zero_inside, add_inside, neg_inside, mul_inside: results are elements
--   sums              add_comm, add_assoc, zero_add, add_zero, add_neg, add_cancel, subtract_zero, neg_neg, neg_zero, negative_unique
--   products          mul_comm, mul_assoc, one_mul, mul_one, zero_mul, mul_zero, mul_swap
--   both              mul_add, add_mul, mul_neg, neg_mul, neg_one_mul
--   powers            pow_add, pow_inside, power_order, logarithm
--   inverses          inverse_of, inverse_nonzero, inverse_unique, no_zero_divisors, mul_nonzero
use Rattle.std.proofs.Common.{◌≡◌, ℕ, zero, suc, ◌+◌, ◌-◌, ◌^◌, ◌<◌, ◌⊎◌, inl, inr, true, ◌==◌, List, length, replicate, refl, sym, ap, ◌∙◌, subst, arith, true≢false, ◌≢◌, zero-add, add-zero, suc-add, add-suc, ⊎_elim}
use Rattle.std.proofs.lemmas.Bool.Decides.{Decides-eqb}
use Rattle.std.proofs.lemmas.Bool.{or_cases}
use Rattle.lc_algebra.specs.declared.FieldName.{FieldName}
use Rattle.lc_algebra.specs.Residue.{number, plus, minus, product}
use Rattle.lc_algebra.specs.Field.{shape_of, size, coefficients, add, neg, mul, pow, IsInverse}
use Rattle.lc_algebra.proofs.ResidueLaws.{Residues, plus_comm, plus_assoc, plus_zero, plus_minus, length-plus, length-minus, length-digits, residues_plus, residues_minus, residues_digits, digits-number, number-digits, number_below, digits_zero}
use Rattle.lc_algebra.proofs.ProductLaws.{length-product, residues_product, product_plus, product_swap}
pub use Rattle.lc_algebra.proofs.FieldTests.{above_one as one_inside, order_test as power_order}
use Rattle.lc_algebra.proofs.FieldTests.{below_each, powers, stands, each_stands, positive, length-lower, times_one_test, members_test}

-- coefficients

pub length-coefficients : (f : FieldName) (a : ℕ) → length (coefficients f a) ≡ (shape_of f).degree
unfolding coefficients
length-coefficients f a = length-digits (shape_of f).characteristic (shape_of f).degree a

pub coefficients_fit : (f : FieldName) (a : ℕ) → length (coefficients f a) ≡ length (shape_of f).lower
coefficients_fit f a = cc (length-coefficients f a, length-lower f)

pub residues_coefficients : (f : FieldName) (a : ℕ) → Residues (shape_of f).characteristic (coefficients f a)
unfolding coefficients
residues_coefficients f a = residues_digits (shape_of f).characteristic (shape_of f).degree a (positive f)

-- the coefficients of the number of a list of residues
pub coefficients-number : (f : FieldName) (u : List ℕ) → Residues (shape_of f).characteristic u → length u ≡ (shape_of f).degree → coefficients f (number (shape_of f).characteristic u) ≡ u
unfolding coefficients
coefficients-number f u r e = cc (digits-number (shape_of f).characteristic u r)

pub number_inside : (f : FieldName) (u : List ℕ) → Residues (shape_of f).characteristic u → length u ≡ (shape_of f).degree → number (shape_of f).characteristic u < size f
unfolding size
number_inside f u r e = subst (λ n. number (shape_of f).characteristic u < (shape_of f).characteristic ^ n) e (number_below (shape_of f).characteristic u r)

-- the number of an element's coefficients
pub number-coefficients : (f : FieldName) (a : ℕ) → a < size f → number (shape_of f).characteristic (coefficients f a) ≡ a
unfolding coefficients size
number-coefficients f a l = number-digits (shape_of f).characteristic (shape_of f).degree a l (positive f)

-- elements with equal coefficients are equal
pub told_by_coefficients : (f : FieldName) (a b : ℕ) → a < size f → b < size f → coefficients f a ≡ coefficients f b → a ≡ b
told_by_coefficients f a b l m e = cc (number-coefficients f a l, number-coefficients f b m)

length-plus_of : (f : FieldName) (a b : ℕ) → length (plus (shape_of f).characteristic (coefficients f a) (coefficients f b)) ≡ (shape_of f).degree
length-plus_of f a b =
    let e : length (coefficients f a) ≡ length (coefficients f b) = cc (length-coefficients f a, length-coefficients f b) in
    length-plus (shape_of f).characteristic (coefficients f a) (coefficients f b) e ∙ length-coefficients f a

length-minus_of : (f : FieldName) (a : ℕ) → length (minus (shape_of f).characteristic (coefficients f a)) ≡ (shape_of f).degree
length-minus_of f a = length-minus (shape_of f).characteristic (coefficients f a) ∙ length-coefficients f a

length-product_of : (f : FieldName) (a b : ℕ) → length (product (shape_of f).characteristic (shape_of f).lower (coefficients f a) (coefficients f b)) ≡ (shape_of f).degree
length-product_of f a b = length-product (shape_of f).characteristic (shape_of f).lower (coefficients f a) (coefficients f b) (coefficients_fit f b) ∙ length-lower f

pub coefficients_add : (f : FieldName) (a b : ℕ) → coefficients f (add f a b) ≡ plus (shape_of f).characteristic (coefficients f a) (coefficients f b)
unfolding add
coefficients_add f a b = coefficients-number f _ (residues_plus _ (coefficients f a) (coefficients f b) (positive f)) (length-plus_of f a b)

pub coefficients_neg : (f : FieldName) (a : ℕ) → coefficients f (neg f a) ≡ minus (shape_of f).characteristic (coefficients f a)
unfolding neg
coefficients_neg f a = coefficients-number f _ (residues_minus _ (coefficients f a) (positive f)) (length-minus_of f a)

pub coefficients_mul : (f : FieldName) (a b : ℕ) → coefficients f (mul f a b) ≡ product (shape_of f).characteristic (shape_of f).lower (coefficients f a) (coefficients f b)
unfolding mul
coefficients_mul f a b = coefficients-number f _ (residues_product _ (shape_of f).lower (coefficients f a) (coefficients f b) (positive f)) (length-product_of f a b)

pub coefficients_zero : (f : FieldName) → coefficients f 0 ≡ replicate (shape_of f).degree 0
unfolding coefficients
coefficients_zero f = digits_zero (shape_of f).characteristic (shape_of f).degree

-- inside

pub zero_inside : (f : FieldName) → 0 < size f
zero_inside f = omega (arith, one_inside f)

pub add_inside : (f : FieldName) (a b : ℕ) → add f a b < size f
unfolding add
add_inside f a b = number_inside f _ (residues_plus _ (coefficients f a) (coefficients f b) (positive f)) (length-plus_of f a b)

pub neg_inside : (f : FieldName) (a : ℕ) → neg f a < size f
unfolding neg
neg_inside f a = number_inside f _ (residues_minus _ (coefficients f a) (positive f)) (length-minus_of f a)

pub mul_inside : (f : FieldName) (a b : ℕ) → mul f a b < size f
unfolding mul
mul_inside f a b = number_inside f _ (residues_product _ (shape_of f).lower (coefficients f a) (coefficients f b) (positive f)) (length-product_of f a b)

-- sums

pub add_comm : (f : FieldName) (a b : ℕ) → add f a b ≡ add f b a
unfolding add
add_comm f a b = ap (number (shape_of f).characteristic) (plus_comm (shape_of f).characteristic (coefficients f a) (coefficients f b))

pub add_assoc : (f : FieldName) (a b c : ℕ) → add f (add f a b) c ≡ add f a (add f b c)
add_assoc f a b c =
    told_by_coefficients f _ _ (add_inside f (add f a b) c) (add_inside f a (add f b c))
    (cc (coefficients_add f (add f a b) c, coefficients_add f a b, coefficients_add f a (add f b c), coefficients_add f b c, plus_assoc (shape_of f).characteristic (coefficients f a) (coefficients f b) (coefficients f c)))

pub zero_add : (f : FieldName) (a : ℕ) → a < size f → add f 0 a ≡ a
zero_add f a l =
    let z : plus (shape_of f).characteristic (replicate (length (coefficients f a)) 0) (coefficients f a) ≡ coefficients f a = plus_zero (shape_of f).characteristic (coefficients f a) (residues_coefficients f a) in
    told_by_coefficients f _ _ (add_inside f 0 a) l
    (cc (coefficients_add f 0 a, coefficients_zero f, length-coefficients f a))

pub add_zero : (f : FieldName) (a : ℕ) → a < size f → add f a 0 ≡ a
add_zero f a l = add_comm f a 0 ∙ zero_add f a l

pub add_neg : (f : FieldName) (a : ℕ) → add f a (neg f a) ≡ 0
add_neg f a =
    told_by_coefficients f _ _ (add_inside f a (neg f a)) (zero_inside f)
    (cc (coefficients_add f a (neg f a), coefficients_neg f a, coefficients_zero f, length-coefficients f a, plus_minus (shape_of f).characteristic (coefficients f a) (residues_coefficients f a)))

pub neg_add : (f : FieldName) (a : ℕ) → add f (neg f a) a ≡ 0
neg_add f a = add_comm f (neg f a) a ∙ add_neg f a

pub add_cancel : (f : FieldName) (a b c : ℕ) → a < size f → b < size f → add f a c ≡ add f b c → a ≡ b
add_cancel f a b c l m e = cc (add_assoc f a c (neg f c), add_assoc f b c (neg f c), add_neg f c, add_zero f a l, add_zero f b m)

-- what makes 0 with a is the negative of a
pub negative_unique : (f : FieldName) (a b : ℕ) → b < size f → add f a b ≡ 0 → b ≡ neg f a
negative_unique f a b l e = cc (add_assoc f (neg f a) a b, neg_add f a, zero_add f b l, add_zero f (neg f a) (neg_inside f a))

pub neg_neg : (f : FieldName) (a : ℕ) → a < size f → neg f (neg f a) ≡ a
neg_neg f a l = sym (negative_unique f (neg f a) a l (neg_add f a))

pub neg_zero : (f : FieldName) → neg f 0 ≡ 0
neg_zero f = sym (negative_unique f 0 0 (zero_inside f) (zero_add f 0 (zero_inside f)))

pub subtract_zero : (f : FieldName) (a b : ℕ) → a < size f → b < size f → add f a (neg f b) ≡ 0 → a ≡ b
subtract_zero f a b l m e = cc (negative_unique f a (neg f b) (neg_inside f b) e, neg_neg f a l, neg_neg f b m)

-- products

pub mul_one : (f : FieldName) (a : ℕ) → a < size f → mul f a 1 ≡ a
mul_one f a l = (Decides-eqb (mul f a 1) a).0 (below_each (λ a. mul f a 1 == a) (size f) (times_one_test f) a l)

-- a number and the element that it stands for
pub element : (f : FieldName) (a : ℕ) → (b : ℕ) × (b < size f) × (coefficients f b ≡ coefficients f a)
element f a = (number (shape_of f).characteristic (coefficients f a), number_inside f (coefficients f a) (residues_coefficients f a) (length-coefficients f a), coefficients-number f (coefficients f a) (residues_coefficients f a) (length-coefficients f a))

pub product_one : (f : FieldName) (a : ℕ) → product (shape_of f).characteristic (shape_of f).lower (coefficients f a) (coefficients f 1) ≡ coefficients f a
product_one f a =
    let b = (element f a).0 in
    let e : coefficients f b ≡ coefficients f a = (element f a).2 in
    cc (coefficients_mul f b 1, mul_one f b (element f a).1)

product_comm : (f : FieldName) (a b : ℕ) → product (shape_of f).characteristic (shape_of f).lower (coefficients f a) (coefficients f b) ≡ product (shape_of f).characteristic (shape_of f).lower (coefficients f b) (coefficients f a)
product_comm f a b =
    cc (product_one f a, product_one f b, product_swap (shape_of f).characteristic (shape_of f).lower (coefficients f a) (coefficients f b) (coefficients f 1) (coefficients_fit f 1))

pub mul_comm : (f : FieldName) (a b : ℕ) → mul f a b ≡ mul f b a
unfolding mul
mul_comm f a b = ap (number (shape_of f).characteristic) (product_comm f a b)

-- a (b c) is b (a c)
pub mul_swap : (f : FieldName) (a b c : ℕ) → mul f a (mul f b c) ≡ mul f b (mul f a c)
mul_swap f a b c =
    told_by_coefficients f _ _ (mul_inside f a (mul f b c)) (mul_inside f b (mul f a c))
    (cc (coefficients_mul f a (mul f b c), coefficients_mul f b c, coefficients_mul f b (mul f a c), coefficients_mul f a c, product_swap (shape_of f).characteristic (shape_of f).lower (coefficients f a) (coefficients f b) (coefficients f c) (coefficients_fit f c)))

pub mul_assoc : (f : FieldName) (a b c : ℕ) → mul f (mul f a b) c ≡ mul f a (mul f b c)
mul_assoc f a b c = cc (mul_comm f (mul f a b) c, mul_swap f c a b, mul_comm f c b)

pub one_mul : (f : FieldName) (a : ℕ) → a < size f → mul f 1 a ≡ a
one_mul f a l = mul_comm f 1 a ∙ mul_one f a l

pub mul_add : (f : FieldName) (a b c : ℕ) → mul f a (add f b c) ≡ add f (mul f a b) (mul f a c)
mul_add f a b c =
    told_by_coefficients f _ _ (mul_inside f a (add f b c)) (add_inside f (mul f a b) (mul f a c))
    (cc (coefficients_mul f a (add f b c), coefficients_add f b c, coefficients_add f (mul f a b) (mul f a c), coefficients_mul f a b, coefficients_mul f a c, product_plus (shape_of f).characteristic (shape_of f).lower (coefficients f a) (coefficients f b) (coefficients f c) (coefficients_fit f b) (coefficients_fit f c)))

pub add_mul : (f : FieldName) (a b c : ℕ) → mul f (add f a b) c ≡ add f (mul f a c) (mul f b c)
add_mul f a b c = cc (mul_comm f (add f a b) c, mul_add f c a b, mul_comm f c a, mul_comm f c b)

pub mul_zero : (f : FieldName) (a : ℕ) → mul f a 0 ≡ 0
mul_zero f a =
    let z : add f 0 0 ≡ 0 = zero_add f 0 (zero_inside f) in
    let e : add f (mul f a 0) (mul f a 0) ≡ add f 0 (mul f a 0) = cc (mul_add f a 0 0, zero_add f (mul f a 0) (mul_inside f a 0)) in
    add_cancel f (mul f a 0) 0 (mul f a 0) (mul_inside f a 0) (zero_inside f) e

pub zero_mul : (f : FieldName) (a : ℕ) → mul f 0 a ≡ 0
zero_mul f a = mul_comm f 0 a ∙ mul_zero f a

pub mul_neg : (f : FieldName) (a b : ℕ) → mul f a (neg f b) ≡ neg f (mul f a b)
mul_neg f a b = negative_unique f (mul f a b) (mul f a (neg f b)) (mul_inside f a (neg f b)) (cc (mul_add f a b (neg f b), add_neg f b, mul_zero f a))

pub neg_mul : (f : FieldName) (a b : ℕ) → mul f (neg f a) b ≡ neg f (mul f a b)
neg_mul f a b = cc (mul_comm f (neg f a) b, mul_neg f b a, mul_comm f b a)

neg_one_mul_inside : (f : FieldName) (a : ℕ) → a < size f → mul f (neg f 1) a ≡ neg f a
neg_one_mul_inside f a l =
    negative_unique f a (mul f (neg f 1) a) (mul_inside f (neg f 1) a)
    (cc (add_mul f 1 (neg f 1) a, one_mul f a l, add_neg f 1, zero_mul f a))

pub neg_one_mul : (f : FieldName) (a : ℕ) → mul f (neg f 1) a ≡ neg f a
unfolding neg mul
neg_one_mul f a =
    let b = (element f a).0 in
    let e : coefficients f b ≡ coefficients f a = (element f a).2 in
    cc (neg_one_mul_inside f b (element f a).1)

-- powers

pub pow_zero : (f : FieldName) (a : ℕ) → pow f a 0 ≡ 1
unfolding pow
pow_zero f a = refl

pub pow_suc : (f : FieldName) (a n : ℕ) → pow f a (suc n) ≡ mul f a (pow f a n)
unfolding pow
pow_suc f a n = refl

pub pow_inside : (f : FieldName) (a n : ℕ) → pow f a n < size f
unfolding pow
pow_inside f a zero = one_inside f
pow_inside f a (suc n) = mul_inside f a (pow f a n)

pub pow_add : (f : FieldName) (a m n : ℕ) → pow f a (m + n) ≡ mul f (pow f a m) (pow f a n)
unfolding pow
pow_add f a zero n = cc (zero-add n, one_mul f (pow f a n) (pow_inside f a n))
pow_add f a (suc m) n = cc (suc-add m n, pow_add f a m n, mul_assoc f a (pow f a m) (pow f a n))

-- each item of the list of powers is a power
standing_power : (f : FieldName) (n m a : ℕ) → stands a (powers f n (pow f (shape_of f).primitive m)) ≡ true → (k : ℕ) × (k < n) × (pow f (shape_of f).primitive (m + k) ≡ a)
unfolding stands powers
standing_power f zero m a e = absurd (true≢false (sym e))
standing_power f (suc n) m a e =
    ⊎_elim
    (λ h. (0, omega arith, cc (add-zero m, (Decides-eqb a (pow f (shape_of f).primitive m)).0 h)))
    (λ h. let r = standing_power f n (suc m) a (cc (pow_suc f (shape_of f).primitive m)) in (suc r.0, omega arith, cc (r.2, suc-add m r.0, add-suc m r.0)))
    (or_cases (a == pow f (shape_of f).primitive m) _ e)

-- each nonzero element is a power of the primitive one
pub logarithm : (f : FieldName) (a : ℕ) → 0 < a → a < size f → (n : ℕ) × (n < size f - 1) × (pow f (shape_of f).primitive n ≡ a)
unfolding each_stands pow
logarithm f zero o l = absurd (omega arith)
logarithm f (suc a) o l =
    let s : stands (suc a) (powers f (size f - 1) 1) ≡ true = below_each (λ k. stands (suc k) (powers f (size f - 1) 1)) (size f - 1) (members_test f) a (omega arith) in
    let r = standing_power f (size f - 1) 0 (suc a) s in
    (r.0, r.1, cc (r.2, zero-add r.0))

-- inverses

pub inverse_of : (f : FieldName) (a : ℕ) → a < size f → 0 < a → (b : ℕ) × IsInverse f a b
inverse_of f a l o =
    let (n, m, e) = logarithm f a o l in
    let b = pow f (shape_of f).primitive (size f - 1 - n) in
    let s : n + (size f - 1 - n) ≡ size f - 1 = omega arith in
    (b, record { inside = pow_inside f (shape_of f).primitive (size f - 1 - n); one = cc (pow_add f (shape_of f).primitive n (size f - 1 - n), power_order f) })

pub inverse_nonzero : (f : FieldName) (a b : ℕ) → IsInverse f a b → 0 < b
inverse_nonzero f a zero i = cc (mul_zero f a, i.one)
inverse_nonzero f a (suc b) i = omega arith

pub inverse_unique : (f : FieldName) (a b c : ℕ) → IsInverse f a b → IsInverse f a c → b ≡ c
inverse_unique f a b c i j =
    cc (mul_assoc f b a c, mul_comm f b a, i.one, j.one, one_mul f c j.inside, mul_one f b i.inside)

pub no_zero_divisors : (f : FieldName) (a b : ℕ) → a < size f → b < size f → mul f a b ≡ 0 → (a ≡ 0) ⊎ (b ≡ 0)
no_zero_divisors f zero b l m e = inl refl
no_zero_divisors f (suc a) b l m e =
    let (c, i) = inverse_of f (suc a) l (omega arith) in
    inr (cc (mul_assoc f c (suc a) b, mul_comm f c (suc a), i.one, one_mul f b m, mul_zero f c))

pub mul_nonzero : (f : FieldName) (a b : ℕ) → a < size f → b < size f → 0 < a → 0 < b → 0 < mul f a b
mul_nonzero f a b l m o p =
    let e : mul f a b ≢ 0 = λ e. ⊎_elim (λ z. omega arith) (λ z. omega arith) (no_zero_divisors f a b l m e) in
    omega arith
