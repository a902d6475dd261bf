-- The order of an element: the least positive exponent whose power is 1 (MacWilliams and Sloane, chapter 4).
--   power_of_rest              exponents count modulo n if the n-th power is 1
--   nonzero_of_order           an element of some order isn't 0
--   distinct_powers            powers with different exponents below n differ
--   equal_powers               equal powers have equal exponents modulo n
--   primitive_power            a power of the primitive element has order n if n divides the size less 1
--   order_of_element           an order divides the size less 1
use Rattle.std.proofs.Common.{◌≡◌, ℕ, ◌+◌, ◌-◌, ◌*◌, ◌/◌, ◌%◌, ◌<◌, ◌≤◌, ⊎_elim, sym, ap, ◌∙◌, arith, mod-lt}
use Rattle.std.proofs.Math.Nat.{mod-add-div, mul_comm, zero-mul, mul-pos, mul-lt-mul_of_pos_left}
use Rattle.std.proofs.lemmas.Bool.{cases_lt, cases_eq}
use Rattle.lc_algebra.specs.declared.FieldName.{FieldName}
use Rattle.lc_algebra.specs.Field.{shape_of, size, mul, pow, HasOrder}
use Rattle.lc_algebra.proofs.FieldLaws.{one_inside, mul_one, one_mul, pow_inside, pow_add, power_order}
use Rattle.lc_algebra.proofs.PowerLaws.{one_pow, zero_pow, pow_mul, pow_nonzero, mul_cancel, order_divides, power_order_least}

pub power_of_rest : (f : FieldName) (a n m : ℕ) → pow f a n ≡ 1 → pow f a (m % n) ≡ pow f a m
power_of_rest f a n m h =
    let e : m ≡ n * (m / n) + m % n = omega (arith, mod-add-div m n) in
    let r : pow f a (n * (m / n)) ≡ 1 = pow_mul f a n (m / n) ∙ ap (λ x. pow f x (m / n)) h ∙ one_pow f (m / n) in
    sym (ap (pow f a) e ∙ pow_add f a (n * (m / n)) (m % n) ∙ ap (λ x. mul f x (pow f a (m % n))) r ∙ one_mul f (pow f a (m % n)) (pow_inside f a (m % n)))

pub nonzero_of_order : (f : FieldName) (b n : ℕ) → HasOrder f b n → 0 < b
nonzero_of_order f b n h =
    ⊎_elim (λ l. l)
    (λ l.
    let e : b ≡ 0 = omega (arith, l) in
    let z : pow f b n ≡ 0 = ap (λ x. pow f x n) e ∙ zero_pow f n (omega (arith, h.positive)) in
    absurd (omega (arith, z, h.one)))
    (cases_lt 0 b)

later_differs : (f : FieldName) (b n i j : ℕ) → HasOrder f b n → i < j → j < n → pow f b i ≡ pow f b j → ⊥
later_differs f b n i j h l k e =
    let d = j - i in
    let s : j ≡ i + d = omega (arith, l) in
    let p = pow f b i in
    let t : mul f p (pow f b d) ≡ mul f p 1 = sym (pow_add f b i d) ∙ ap (pow f b) (sym s) ∙ sym e ∙ sym (mul_one f p (pow_inside f b i)) in
    h.least d (omega (arith, l)) (omega (arith, k)) (mul_cancel f p (pow f b d) 1 (pow_inside f b i) (pow_nonzero f b i h.inside (nonzero_of_order f b n h)) (pow_inside f b d) (one_inside f) t)

pub distinct_powers : (f : FieldName) (b n i j : ℕ) → HasOrder f b n → i < n → j < n → pow f b i ≡ pow f b j → i ≡ j
distinct_powers f b n i j h l k e =
    ⊎_elim
    (λ s. s)
    (λ s. ⊎_elim (λ t. absurd (later_differs f b n i j h t k e)) (λ t. absurd (later_differs f b n j i h (omega (arith, s, t)) l (sym e))) (cases_lt i j))
    (cases_eq i j)

pub equal_powers : (f : FieldName) (b n i j : ℕ) → HasOrder f b n → pow f b i ≡ pow f b j → i % n ≡ j % n
equal_powers f b n i j h e = distinct_powers f b n (i % n) (j % n) h (mod-lt i (omega (arith, h.positive))) (mod-lt j (omega (arith, h.positive))) (power_of_rest f b n i h.one ∙ e ∙ sym (power_of_rest f b n j h.one))

pub primitive_power : (f : FieldName) (n : ℕ) → 1 ≤ n → (size f - 1) % n ≡ 0 → HasOrder f (pow f (shape_of f).primitive ((size f - 1) / n)) n
primitive_power f n l d =
    let g = (shape_of f).primitive in
    let m = (size f - 1) / n in
    let e : n * m ≡ size f - 1 = omega (arith, mod-add-div (size f - 1) n) in
    let c : m * n ≡ size f - 1 = mul_comm m n ∙ e in
    let p : 0 < m = ⊎_elim (λ s. s) (λ s. let z : m ≡ 0 = omega (arith, s) in absurd (omega (arith, one_inside f, c, ap (λ x. x * n) z, zero-mul n))) (cases_lt 0 m) in
    record {
      inside = pow_inside f g m;
      positive = l;
      one = sym (pow_mul f g m n) ∙ ap (pow f g) c ∙ power_order f;
      least = λ r a b t. power_order_least f (m * r) (mul-pos p a) (let k : m * r < m * n = mul-lt-mul_of_pos_left b p in omega (arith, k, c)) (pow_mul f g m r ∙ t);
    }

pub order_of_element : (f : FieldName) (b n : ℕ) → HasOrder f b n → (size f - 1) % n ≡ 0
order_of_element f b n h =
    let r = (size f - 1) % n in
    let e : pow f b r ≡ 1 = power_of_rest f b n (size f - 1) h.one ∙ order_divides f b (nonzero_of_order f b n h) h.inside in
    ⊎_elim
    (λ p. absurd (h.least r p (mod-lt (size f - 1) (omega (arith, h.positive))) e))
    (λ l. omega (arith, l))
    (cases_lt 0 r)
