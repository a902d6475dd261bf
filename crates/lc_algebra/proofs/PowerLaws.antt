-- Powers and logarithms in each of the eighteen fields.
--   pow_zero, pow_suc, pow_one, pow_inside, pow_add      passed on, and the first power
--   one_pow, zero_pow           powers of 1 and 0
--   pow_mul                     a to the m n is a to the m, to the n
--   mul_pow                     powers of a product
--   pow_nonzero                 powers of a nonzero element are nonzero
--   mul_cancel                  a nonzero factor is taken away
--   power_order                 the primitive element to the size - 1 is 1
--   power_order_least           and to no smaller exponent but 0
--   logarithm                   each nonzero element is a power of the primitive element
--   power_distinct              its powers below size - 1 are distinct
--   power_rest                  its exponents count modulo size - 1
--   order_divides               a nonzero element to the size - 1 is 1
--   pow_size                    every element to the size is itself
--   frobenius                   the power by the characteristic keeps sums
use Rattle.std.proofs.Common.{◌≡◌, ◌≢◌, ℕ, zero, suc, ◌+◌, ◌-◌, ◌*◌, ◌/◌, ◌%◌, ◌<◌, true, false, ◌==◌, refl, sym, arith, true≢false, add-zero, suc-add, add-suc, mul-zero, one-add}
use Rattle.std.proofs.Common.{mul_comm as nat_mul_comm}
use Rattle.std.proofs.Math.Nat.{mod-add-div}
use Rattle.std.proofs.lemmas.Bool.Decides.{Decides-eqb}
use Rattle.lc_algebra.specs.declared.FieldName.{FieldName}
use Rattle.lc_algebra.specs.Field.{shape_of, size, add, mul, pow}
use Rattle.lc_algebra.proofs.FieldTests.{below_each, second_false, powers, stands, positive, order_least_test, primitive_positive, primitive_inside, frobenius_test}
use Rattle.lc_algebra.proofs.FieldLaws.{one_inside, zero_inside, mul_inside, zero_add, mul_comm, mul_assoc, mul_swap, mul_add, one_mul, mul_one, zero_mul, inverse_of, mul_nonzero}
pub use Rattle.lc_algebra.proofs.FieldLaws.{pow_zero, pow_suc, pow_inside, pow_add, power_order, logarithm}

pub pow_one : (f : FieldName) (a : ℕ) → a < size f → pow f a 1 ≡ a
unfolding pow
pow_one f a l = mul_one f a l

pub one_pow : (f : FieldName) (n : ℕ) → pow f 1 n ≡ 1
unfolding pow
one_pow f zero = refl
one_pow f (suc n) = cc (one_pow f n, one_mul f 1 (one_inside f))

pub zero_pow : (f : FieldName) (n : ℕ) → 0 < n → pow f 0 n ≡ 0
unfolding pow
zero_pow f zero l = absurd (omega arith)
zero_pow f (suc n) l = zero_mul f (pow f 0 n)

pub pow_mul : (f : FieldName) (a m n : ℕ) → pow f a (m * n) ≡ pow f (pow f a m) n
unfolding pow
pow_mul f a m zero = cc (mul-zero m)
pow_mul f a m (suc n) =
    let e : m * suc n ≡ m + m * n = omega arith in
    cc (pow_mul f a m n, pow_add f a m (m * n))

pub mul_pow : (f : FieldName) (a b n : ℕ) → pow f (mul f a b) n ≡ mul f (pow f a n) (pow f b n)
unfolding pow
mul_pow f a b zero = sym (one_mul f 1 (one_inside f))
mul_pow f a b (suc n) =
    cc (mul_pow f a b n, mul_assoc f a b (mul f (pow f a n) (pow f b n)), mul_swap f b (pow f a n) (pow f b n), mul_assoc f a (pow f a n) (mul f b (pow f b n)))

pub pow_nonzero : (f : FieldName) (a n : ℕ) → a < size f → 0 < a → 0 < pow f a n
unfolding pow
pow_nonzero f a zero l o = omega arith
pow_nonzero f a (suc n) l o = mul_nonzero f a (pow f a n) l (pow_inside f a n) o (pow_nonzero f a n l o)

pub mul_cancel : (f : FieldName) (a b c : ℕ) → a < size f → 0 < a → b < size f → c < size f → mul f a b ≡ mul f a c → b ≡ c
mul_cancel f a b c l o m n e =
    let (d, i) = inverse_of f a l o in
    cc (mul_assoc f d a b, mul_assoc f d a c, mul_comm f d a, i.one, one_mul f b m, one_mul f c n)

-- what stands in no place of the list of powers is no power
absent_power : (f : FieldName) (n m a : ℕ) → stands a (powers f n (pow f (shape_of f).primitive m)) ≡ false → (k : ℕ) → k < n → pow f (shape_of f).primitive (m + k) ≢ a
unfolding stands powers
absent_power f zero m a e k l h = omega arith
absent_power f (suc n) m a e zero l h =
    let t : (a == pow f (shape_of f).primitive m) ≡ true = (Decides-eqb a (pow f (shape_of f).primitive m)).1 (cc (add-zero m)) in
    true≢false (rw t at e)
absent_power f (suc n) m a e (suc k) l h =
    absent_power f n (suc m) a (cc (pow_suc f (shape_of f).primitive m, second_false (a == pow f (shape_of f).primitive m) _ e)) k (omega arith) (cc (suc-add m k, add-suc m k))

pub power_order_least : (f : FieldName) (n : ℕ) → 0 < n → n < size f - 1 → pow f (shape_of f).primitive n ≢ 1
unfolding pow
power_order_least f zero o l e = omega arith
power_order_least f (suc n) o l e = absent_power f (size f - 2) 1 1 (order_least_test f) n (omega arith) (cc (one-add n))

power_between : (f : FieldName) (i j : ℕ) → i < j → j < size f - 1 → pow f (shape_of f).primitive i ≢ pow f (shape_of f).primitive j
power_between f i j l m e =
    let g = (shape_of f).primitive in
    let s : i + (j - i) ≡ j = omega arith in
    let one : pow f g (j - i) ≡ 1 =
    mul_cancel f (pow f g i) (pow f g (j - i)) 1 (pow_inside f g i) (pow_nonzero f g i (primitive_inside f) (primitive_positive f)) (pow_inside f g (j - i)) (one_inside f)
    (cc (pow_add f g i (j - i), mul_one f (pow f g i) (pow_inside f g i))) in
    power_order_least f (j - i) (omega arith) (omega arith) one

pub power_distinct : (f : FieldName) (i j : ℕ) → i < size f - 1 → j < size f - 1 → pow f (shape_of f).primitive i ≡ pow f (shape_of f).primitive j → i ≡ j
power_distinct f i j l m e =
    let a : ¬ (i < j) = λ h. power_between f i j h m e in
    let b : ¬ (j < i) = λ h. power_between f j i h l (sym e) in
    omega arith

pub power_rest : (f : FieldName) (n : ℕ) → pow f (shape_of f).primitive (n % (size f - 1)) ≡ pow f (shape_of f).primitive n
power_rest f n =
    let g = (shape_of f).primitive in
    let m = size f - 1 in
    let whole : n % m + m * (n / m) ≡ n = mod-add-div n m in
    cc (pow_add f g (n % m) (m * (n / m)), pow_mul f g m (n / m), power_order f, one_pow f (n / m), mul_one f (pow f g (n % m)) (pow_inside f g (n % m)))

pub order_divides : (f : FieldName) (a : ℕ) → 0 < a → a < size f → pow f a (size f - 1) ≡ 1
order_divides f a o l =
    let (n, m, e) = logarithm f a o l in
    cc (pow_mul f (shape_of f).primitive n (size f - 1), nat_mul_comm n (size f - 1), pow_mul f (shape_of f).primitive (size f - 1) n, power_order f, one_pow f n)

pub pow_size : (f : FieldName) (a : ℕ) → a < size f → pow f a (size f) ≡ a
pow_size f zero l = zero_pow f (size f) (zero_inside f)
pow_size f (suc a) l =
    let s : suc (size f - 1) ≡ size f = omega arith in
    cc (pow_suc f (suc a) (size f - 1), order_divides f (suc a) (omega arith) l, mul_one f (suc a) l)

-- the sum with 1, and then with any nonzero element
frobenius_one : (f : FieldName) (a : ℕ) → a < size f → pow f (add f 1 a) (shape_of f).characteristic ≡ add f 1 (pow f a (shape_of f).characteristic)
frobenius_one f a l =
    (Decides-eqb (pow f (add f 1 a) (shape_of f).characteristic) (add f 1 (pow f a (shape_of f).characteristic))).0
    (below_each (λ a. pow f (add f 1 a) (shape_of f).characteristic == add f 1 (pow f a (shape_of f).characteristic)) (size f) (frobenius_test f) a l)

pub frobenius : (f : FieldName) (a b : ℕ) → a < size f → b < size f → pow f (add f a b) (shape_of f).characteristic ≡ add f (pow f a (shape_of f).characteristic) (pow f b (shape_of f).characteristic)
frobenius f zero b l m =
    let p = (shape_of f).characteristic in
    cc (zero_add f b m, zero_pow f p (positive f), zero_add f (pow f b p) (pow_inside f b p))
frobenius f (suc a) b l m =
    let p = (shape_of f).characteristic in
    let (c, i) = inverse_of f (suc a) l (omega arith) in
    let d = mul f c b in
    let back : mul f (suc a) d ≡ b = cc (mul_assoc f (suc a) c b, i.one, one_mul f b m) in
    let sum : add f (suc a) b ≡ mul f (suc a) (add f 1 d) = cc (mul_add f (suc a) 1 d, mul_one f (suc a) l) in
    cc (mul_pow f (suc a) (add f 1 d) p, frobenius_one f d (mul_inside f c b), mul_add f (pow f (suc a) p) 1 (pow f d p), mul_one f (pow f (suc a) p) (pow_inside f (suc a) p), mul_pow f (suc a) d p)
