-- The zeros of a polynomial.
--   undone                   what is taken away and added again
--   value_cons, value_none, value_constant      a value by the constant and the rest, of no coefficients, of a constant
--   lowered_value, lowered_zeros      the quotient of u less its value at a, on division by x - a
--   few_zeros                a polynomial with as many distinct zeros as coefficients is 0
--   zeros_at_most            so one of degree d, but 0, has at most d zeros
use Rattle.std.proofs.Common.{◌≡◌, ◌≢◌, ℕ, suc, ◌-◌, ◌<◌, ◌≤◌, ⊎_elim, List, [], ◌∷◌, length, slice_index, AllPairs, Contains, refl, sym, ap, subst, ◌∙◌, arith}
use Rattle.std.proofs.lemmas.Bool.{cases_lt}
use Rattle.lc_algebra.specs.declared.FieldName.{FieldName}
use Rattle.lc_algebra.specs.Field.{size, add, neg, mul}
use Rattle.lc_algebra.specs.Word.{Fits}
use Rattle.lc_algebra.specs.Polynomial.{value_at, IsPolynomial}
use Rattle.lc_algebra.proofs.FieldLaws.{zero_inside, add_inside, mul_inside, add_assoc, zero_add, add_zero, mul_swap, mul_add, add_mul, mul_zero, subtract_zero, no_zero_divisors, add_comm, add_neg}
use Rattle.lc_algebra.proofs.WordLaws.{fits_head, fits_tail}
use Rattle.lc_algebra.proofs.SpanLaws.{contains_head, contains_tail}
use Rattle.lc_algebra.proofs.DimensionLaws.{AreDistinct, distinct_from_pairs}
use Rattle.lc_algebra.proofs.PolynomialLaws.{value_inside, lowered, length_lowered, fits_lowered, first_zero}

pub undone : (f : FieldName) (a b : ℕ) → a < size f → add f b (add f a (neg f b)) ≡ a
undone f a b l = cc (add_comm f b (add f a (neg f b)), add_assoc f a (neg f b) b, add_comm f (neg f b) b, add_neg f b, add_zero f a l)

pub value_cons : (f : FieldName) (c : ℕ) (u : List ℕ) (x : ℕ) → value_at f (c ∷ u) x ≡ add f c (mul f x (value_at f u x))
unfolding value_at
value_cons f c u x = refl

pub value_none : (f : FieldName) (x : ℕ) → value_at f [] x ≡ 0
unfolding value_at
value_none f x = refl

pub value_constant : (f : FieldName) (c x : ℕ) → c < size f → value_at f (c ∷ []) x ≡ c
value_constant f c x l = cc (value_cons f c [] x, value_none f x, mul_zero f x, add_zero f c l)

-- c + x (v + d w) is c + a v + d (v + x w), for d = x - a
rearranged : (f : FieldName) (a c v w x : ℕ) → x < size f → add f c (mul f x (add f v (mul f (add f x (neg f a)) w))) ≡ add f (add f c (mul f a v)) (mul f (add f x (neg f a)) (add f v (mul f x w)))
rearranged f a c v w x l =
    let d = add f x (neg f a) in
    let p : mul f x (add f v (mul f d w)) ≡ add f (mul f x v) (mul f x (mul f d w)) = mul_add f x v (mul f d w) in
    let q : mul f d (add f v (mul f x w)) ≡ add f (mul f d v) (mul f d (mul f x w)) = mul_add f d v (mul f x w) in
    let r : mul f x v ≡ add f (mul f a v) (mul f d v) = ap (λ y. mul f y v) (sym (undone f x a l)) ∙ add_mul f a d v in
    let s : mul f x (mul f d w) ≡ mul f d (mul f x w) = mul_swap f x d w in
    cc (p, q, r, s, add_assoc f (mul f a v) (mul f d v) (mul f d (mul f x w)), add_assoc f c (mul f a v) (add f (mul f d v) (mul f d (mul f x w))))

pub lowered_value : (f : FieldName) (a : ℕ) (u : List ℕ) (x : ℕ) → x < size f → Fits f u → value_at f u x ≡ add f (value_at f u a) (mul f (add f x (neg f a)) (value_at f (lowered f a u) x))
unfolding lowered
lowered_value f a [] x l h = cc (value_none f x, value_none f a, mul_zero f (add f x (neg f a)), zero_add f 0 (zero_inside f))
lowered_value f a (c ∷ []) x l h = cc (value_constant f c x (fits_head f c [] h), value_constant f c a (fits_head f c [] h), value_none f x, mul_zero f (add f x (neg f a)), add_zero f c (fits_head f c [] h))
lowered_value f a (c ∷ d ∷ u) x l h =
    let v = value_at f (d ∷ u) a in
    let w = value_at f (lowered f a (d ∷ u)) x in
    cc (value_cons f c (d ∷ u) x, lowered_value f a (d ∷ u) x l (fits_tail f c (d ∷ u) h), rearranged f a c v w x l, value_cons f c (d ∷ u) a, value_cons f v (lowered f a (d ∷ u)) x)

pub lowered_zeros : (f : FieldName) (a : ℕ) (u : List ℕ) → Fits f u → value_at f u a ≡ 0 → ((i : ℕ) → slice_index (lowered f a u) i ≡ 0) → (i : ℕ) → slice_index u i ≡ 0
unfolding lowered
lowered_zeros f a [] h z k i = refl
lowered_zeros f a (c ∷ []) h z k i = first_zero c [] (sym (value_constant f c a (fits_head f c [] h)) ∙ z) (λ j. refl) i
lowered_zeros f a (c ∷ d ∷ u) h z k i =
    let v : value_at f (d ∷ u) a ≡ 0 = k 0 in
    let e : c ≡ 0 = sym (cc (value_cons f c (d ∷ u) a, v, mul_zero f a, add_zero f c (fits_head f c (d ∷ u) h))) ∙ z in
    first_zero c (d ∷ u) e (lowered_zeros f a (d ∷ u) (fits_tail f c (d ∷ u) h) v (λ j. k (suc j))) i

other_zero : (f : FieldName) (a : ℕ) (u : List ℕ) (x : ℕ) → a < size f → x < size f → Fits f u → value_at f u a ≡ 0 → value_at f u x ≡ 0 → x ≢ a → value_at f (lowered f a u) x ≡ 0
other_zero f a u x la lx h za zx n =
    let d = add f x (neg f a) in
    let w = value_at f (lowered f a u) x in
    let t : mul f d w ≡ 0 = sym (zero_add f (mul f d w) (mul_inside f d w)) ∙ ap (λ y. add f y (mul f d w)) (sym za) ∙ sym (lowered_value f a u x lx h) ∙ zx in
    ⊎_elim (λ e. absurd (n (subtract_zero f x a lx la e))) (λ e. e) (no_zero_divisors f d w (add_inside f x (neg f a)) (value_inside f (lowered f a u) x) t)

pub few_zeros : (f : FieldName) (u xs : List ℕ) → Fits f u → AreDistinct xs → ((x : ℕ) → Contains xs x → (x < size f) × (value_at f u x ≡ 0)) → length u ≤ length xs → (i : ℕ) → slice_index u i ≡ 0
few_zeros f [] xs h d z l i = refl
few_zeros f (c ∷ u) [] h d z l i = absurd (omega (arith, l))
few_zeros f (c ∷ u) (a ∷ xs) h d z l i =
    let za = z a (contains_head a xs) in
    let each : (x : ℕ) → Contains xs x → (x < size f) × (value_at f (lowered f a (c ∷ u)) x ≡ 0) = λ x m.
    let zx = z x (contains_tail a x xs m) in
    (zx.0, other_zero f a (c ∷ u) x za.0 zx.0 h za.1 zx.1 (λ e. d.0 (subst (Contains xs) e m))) in
    lowered_zeros f a (c ∷ u) h za.1 (few_zeros f (lowered f a (c ∷ u)) xs (fits_lowered f a (c ∷ u)) d.1 each (omega (arith, l, length_lowered f a (c ∷ u)))) i

pub zeros_at_most : (f : FieldName) (u xs : List ℕ) → IsPolynomial f u → u ≢ [] → AllPairs (λ x y. x ≢ y) xs → ((x : ℕ) → Contains xs x → (x < size f) × (value_at f u x ≡ 0)) → length xs < length u
zeros_at_most f [] xs p n d z = absurd (n refl)
zeros_at_most f (c ∷ u) xs p n d z =
    ⊎_elim (λ l. l)
    (λ l.
    let e = few_zeros f (c ∷ u) xs p.fits (distinct_from_pairs xs d) z l (length (c ∷ u) - 1) in
    absurd (omega (arith, p.leads (omega arith), e)))
    (cases_lt (length xs) (length (c ∷ u)))
