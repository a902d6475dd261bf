-- The alternant forms of BCH, Reed-Solomon and Goppa codes (MacWilliams and Sloane, chapters 7 and 12).
--   below_exponents        the numbers below n are the exponents from 0 on
--   check_powers           the sum with the powers of an element is a value of the word's polynomial
--   bch_syndrome           so a syndrome of the form is the value at a power of the root of unity
--   bch_is_alternant       a BCH word is a word of its form
--   bch_is_form, bch_form_of       the form is one, and that of the code
--   root_is_primitive, reed_solomon_is_bch, reed_solomon_form_of      Reed-Solomon codes are BCH codes over their own field
--   goppa_is_form, goppa_form_of   the form of a Goppa code is one, and that of the code
use Rattle.std.proofs.Common.{◌≡◌, ◌≢◌, ℕ, zero, suc, ◌+◌, ◌-◌, ◌*◌, ◌%◌, ◌<◌, ◌≤◌, ◌↔◌, List, [], ◌∷◌, ◌++◌, length, map, slice_index, EachIndex, All, AllPairs, Contains, refl, sym, ap, ap₂, subst, ◌∙◌, arith, mul-add}
use Rattle.std.specs.Prelude.{IsTrue}
use Rattle.std.proofs.Math.Nat.{suc-mul, div_self, mod_self}
use Rattle.std.proofs.lemmas.List.{length-map}
use Rattle.std.proofs.lemmas.List.Elements.{All-nil, All-cons, All-contains}
use Rattle.std.proofs.lemmas.Bool.Decides.{nat_tests}
use Rattle.lc_algebra.specs.declared.FieldName.{FieldName}
use Rattle.lc_algebra.specs.Field.{shape_of, size, is_symbol, add, mul, pow, HasOrder}
use Rattle.lc_algebra.specs.Polynomial.{value_at}
use Rattle.lc_algebra.specs.Embedding.{IsSubfield, embed}
use Rattle.lc_algebra.specs.Word.{Fits, IsWord, word_dot}
use Rattle.lc_algebra.specs.Span.{InSpan, below}
use Rattle.lc_algebra.specs.Matrix.{Matrix}
use Rattle.lc_algebra.proofs.FieldLaws.{one_inside, mul_zero, mul_one, mul_comm, mul_assoc, mul_add, pow_zero, pow_inside, pow_add, inverse_nonzero}
use Rattle.lc_algebra.proofs.PowerLaws.{pow_mul, pow_one, pow_nonzero}
use Rattle.lc_algebra.proofs.FieldTests.{primitive_inside}
use Rattle.lc_algebra.proofs.OrderLaws.{nonzero_of_order, distinct_powers, primitive_power}
use Rattle.lc_algebra.proofs.WordLaws.{fits_cons}
use Rattle.lc_algebra.proofs.SpanLaws.{contains_head, contains_tail, contains_below, length_below}
use Rattle.lc_algebra.proofs.DimensionLaws.{pairs_from_distinct, distinct_map, distinct_below}
use Rattle.lc_algebra.proofs.PolynomialLaws.{value_inside}
use Rattle.lc_constructions.specs.Code.{is_length, IsCode}
use Rattle.lc_constructions.specs.Cyclic.{root_of_unity, value_in, exponents_from, IsBchWord, IsReedSolomonWord}
use Rattle.lc_constructions.specs.Alternant.{IsForm, IsFormOf, inverse, check_row, syndrome_at, IsAlternantWord, goppa_multipliers, goppa_form, bch_form, IsGoppaWord}
use Rattle.lc_constructions.proofs.NearestLaws.{goppa_form_is_the_code}
use Rattle.lc_constructions.proofs.InverseLaws.{inverse_is}
use Rattle.lc_constructions.proofs.AlternantLaws.{form_of_code}

pub exponents_last : (m n : ℕ) → exponents_from m (suc n) ≡ exponents_from m n ++ (m + n) ∷ []
unfolding exponents_from
exponents_last m zero = ap (λ k. k ∷ []) (omega arith)
exponents_last m (suc n) = ap (λ t. m ∷ t) (exponents_last (suc m) n ∙ ap (λ k. exponents_from (suc m) n ++ k ∷ []) (omega arith))

pub below_exponents : (n : ℕ) → below n ≡ exponents_from 0 n
unfolding below exponents_from
below_exponents zero = refl
below_exponents (suc n) = ap (λ t. t ++ n ∷ []) (below_exponents n) ∙ ap (λ k. exponents_from 0 n ++ k ∷ []) (omega arith) ∙ sym (exponents_last 0 n)

-- ---- BCH codes

power_term : (K : FieldName) (x m s j : ℕ) → mul K (pow K x (m * s)) (pow K (pow K x m) j) ≡ pow K x (m * (s + j))
power_term K x m s j = ap (mul K (pow K x (m * s))) (sym (pow_mul K x m j)) ∙ sym (pow_add K x (m * s) (m * j)) ∙ ap (pow K x) (sym (mul-add m s j))

power_more : (K : FieldName) (x m t : ℕ) → pow K x (suc m * t) ≡ mul K (pow K x (m * t)) (pow K x t)
power_more K x m t = ap (pow K x) (omega (arith, suc-mul m t)) ∙ pow_add K x (m * t) t

gathered : (K : FieldName) (c p q v : ℕ) → add K (mul K c p) (mul K (mul K p q) v) ≡ mul K p (add K c (mul K q v))
gathered K c p q v = cc (mul_add K p c (mul K q v), mul_comm K c p, mul_assoc K p q v)

pub check_powers : (K : FieldName) (x s j m n : ℕ) (z : List ℕ) → length z ≡ n → word_dot K z (check_row K (map (pow K x) (exponents_from m n)) (map (λ i. pow K x (i * s)) (exponents_from m n)) j) ≡ mul K (pow K x (m * (s + j))) (value_at K z (pow K x (s + j)))
unfolding word_dot check_row value_at exponents_from
check_powers K x s j m n [] e = sym (mul_zero K (pow K x (m * (s + j))))
check_powers K x s j m zero (c ∷ z) e = absurd (omega (arith, e))
check_powers K x s j m (suc n) (c ∷ z) e =
    let t = s + j in
    let p = pow K x (m * t) in
    let q = pow K x t in
    let v = value_at K z q in
    ap₂ (λ a b. add K (mul K c a) b) (power_term K x m s j) (check_powers K x s j (suc m) n z (omega (arith, e)) ∙ ap (λ a. mul K a v) (power_more K x m t))
    ∙ gathered K c p q v

pub bch_syndrome : (f K : FieldName) (n b d : ℕ) (w : List ℕ) (j : ℕ) → length w ≡ n → syndrome_at f (bch_form K n b d) w j ≡ value_in f K w (pow K (root_of_unity K n) (b + j))
unfolding syndrome_at bch_form value_in
bch_syndrome f K n b d w j e =
    let x = root_of_unity K n in
    let z = map (embed f K) w in
    ap (λ is. word_dot K z (check_row K (map (pow K x) is) (map (λ i. pow K x (i * b)) is) j)) (below_exponents n)
    ∙ check_powers K x b j 0 n z (length-map w (embed f K) ∙ e)
    ∙ ap (λ p. mul K p (value_at K z (pow K x (b + j)))) (ap (pow K x) (omega arith) ∙ pow_zero K x)
    ∙ mul_comm K 1 (value_at K z (pow K x (b + j))) ∙ mul_one K (value_at K z (pow K x (b + j))) (value_inside K z (pow K x (b + j)))

pub all_exponents : (P : ℕ → Type 0) (b m : ℕ) → ((j : ℕ) → j < m → P (b + j)) → All P (exponents_from b m)
unfolding exponents_from
all_exponents P b zero h = All-nil P
all_exponents P b (suc m) h = All-cons P b (exponents_from (suc b) m) (subst P (omega arith) (h 0 (omega arith))) (all_exponents P (suc b) m (λ j l. subst P (omega arith) (h (suc j) (omega (arith, l)))))

pub contains_exponents : (b m j : ℕ) → j < m → Contains (exponents_from b m) (b + j)
unfolding exponents_from
contains_exponents b zero j l = absurd (omega (arith, l))
contains_exponents b (suc m) zero l = subst (Contains (b ∷ exponents_from (suc b) m)) (omega arith) (contains_head b (exponents_from (suc b) m))
contains_exponents b (suc m) (suc j) l = contains_tail b (b + suc j) (exponents_from (suc b) m) (subst (Contains (exponents_from (suc b) m)) (omega arith) (contains_exponents (suc b) m j (omega (arith, l))))

parts_of_bch : (K : FieldName) (n b d : ℕ) → ((bch_form K n b d).locator ≡ K) × ((bch_form K n b d).r ≡ d - 1) × (length (bch_form K n b d).points ≡ n)
unfolding bch_form
parts_of_bch K n b d = (refl, refl, length-map (below n) (pow K (root_of_unity K n)) ∙ length_below n)

pub bch_is_alternant : (f K : FieldName) (n b d : ℕ) (w : List ℕ) → length w ≡ n → IsBchWord f K n b d w ↔ IsAlternantWord f (bch_form K n b d) w
bch_is_alternant f K n b d w e =
    let P : ℕ → Type 0 = λ i. value_in f K w (pow K (root_of_unity K n) i) ≡ 0 in
    let r = (parts_of_bch K n b d).1 in (
      (λ h j l. bch_syndrome f K n b d w j e ∙ All-contains P (exponents_from b (d - 1)) (b + j) h (contains_exponents b (d - 1) j (omega (arith, l, r)))),
      (λ h. all_exponents P b (d - 1) (λ j l. sym (bch_syndrome f K n b d w j e) ∙ h j (omega (arith, l, r)))),
    )

fits_map : (K : FieldName) (h : ℕ → ℕ) (is : List ℕ) → ((i : ℕ) → h i < size K) → Fits K (map h is)
fits_map K h [] l = λ i m. absurd (omega (arith, m))
fits_map K h (i ∷ is) l = fits_cons K (h i) (map h is) (l i) (fits_map K h is l)

positive_map : (h : ℕ → ℕ) (is : List ℕ) → ((i : ℕ) → 0 < h i) → EachIndex (map h is) (λ i. 0 < slice_index (map h is) i)
positive_map h [] p i m = absurd (omega (arith, m))
positive_map h (i ∷ is) p zero m = p i
positive_map h (i ∷ is) p (suc k) m = positive_map h is p k (omega (arith, m))

pub root_order : (K : FieldName) (n : ℕ) → 1 ≤ n → (size K - 1) % n ≡ 0 → HasOrder K (root_of_unity K n) n
unfolding root_of_unity
root_order K n l d = primitive_power K n l d

positive_length : (n : ℕ) → IsTrue (is_length n) → 1 ≤ n
unfolding is_length
positive_length n t = grind (arith, nat_tests, t)

pub bch_is_form : (f K : FieldName) (n b d : ℕ) → IsTrue (is_symbol f) → IsSubfield f K → IsTrue (is_length n) → (size K - 1) % n ≡ 0 → IsForm f (bch_form K n b d)
unfolding bch_form
bch_is_form f K n b d t s l e =
    let x = root_of_unity K n in
    let o = root_order K n (positive_length n l) e in
    let p = nonzero_of_order K x n o in
    let long : length (map (pow K x) (below n)) ≡ n = length-map (below n) (pow K x) ∙ length_below n in
    record {
      symbol = t;
      subfield = s;
      length_is = subst (λ m. IsTrue (is_length m)) (sym long) l;
      points = fits_map K (pow K x) (below n) (λ i. pow_inside K x i);
      distinct = pairs_from_distinct (map (pow K x) (below n)) (distinct_map (pow K x) (below n) (λ i j ci cj q. distinct_powers K x n i j o (contains_below n i ci) (contains_below n j cj) q) (distinct_below n));
      count = length-map (below n) (λ i. pow K x (i * b)) ∙ length_below n ∙ sym long;
      multipliers = fits_map K (λ i. pow K x (i * b)) (below n) (λ i. pow_inside K x (i * b));
      nonzero = positive_map (λ i. pow K x (i * b)) (below n) (λ i. pow_nonzero K x (i * b) o.inside p);
    }

same_members : (f : FieldName) (n m : ℕ) (P Q : List ℕ → Type 0) (C : Matrix) → m ≡ n → ((w : List ℕ) → length w ≡ n → P w ↔ Q w) → IsCode f n P C → IsCode f m Q C
same_members f n m P Q C e h c =
    let members : (w : List ℕ) → InSpan f n C.rows w ↔ (IsWord f n w × Q w) = λ w. (
      (λ s. let t = (c.generator.members w).0 s in (t.0, (h w t.0.long).0 t.1)),
      (λ t. (c.generator.members w).1 (t.0, (h w t.0.long).1 t.1)),
    ) in
    subst (λ k. IsCode f k Q C) (sym e) (record { over = c.over; length_is = c.length_is; generator = record { members = members; reduced = c.generator.reduced; words = c.generator.words } })

pub bch_form_of : (f K : FieldName) (n b d : ℕ) (C : Matrix) → IsTrue (is_symbol f) → IsSubfield f K → IsTrue (is_length n) → (size K - 1) % n ≡ 0 → IsCode f n (IsBchWord f K n b d) C → IsFormOf C (bch_form K n b d)
bch_form_of f K n b d C t s l e c =
    form_of_code f (bch_form K n b d) C (bch_is_form f K n b d t s l e)
    (same_members f n (length (bch_form K n b d).points) (IsBchWord f K n b d) (IsAlternantWord f (bch_form K n b d)) C ((parts_of_bch K n b d).2) (bch_is_alternant f K n b d) c)

-- ---- Reed-Solomon codes

pub root_is_primitive : (f : FieldName) → root_of_unity f (size f - 1) ≡ (shape_of f).primitive
unfolding root_of_unity
root_is_primitive f =
    ap (pow f (shape_of f).primitive) (div_self (omega (arith, one_inside f))) ∙ pow_one f (shape_of f).primitive (primitive_inside f)

pub reed_solomon_is_bch : (f : FieldName) (d : ℕ) (w : List ℕ) → IsReedSolomonWord f d w ↔ IsBchWord f f (size f - 1) 1 d w
reed_solomon_is_bch f d w =
    let P : ℕ → Type 0 = λ x. All (λ i. value_in f f w (pow f x i) ≡ 0) (exponents_from 1 (d - 1)) in
    let e = root_is_primitive f in
    ((λ h. subst P (sym e) h), (λ h. subst P e h))

pub own_subfield : (f : FieldName) → IsSubfield f f
own_subfield f = record { characteristic = refl; degree = mod_self (shape_of f).degree }

pub reed_solomon_form_of : (f : FieldName) (n d : ℕ) (C : Matrix) → IsTrue (is_symbol f) → size f ≡ n + 1 → IsTrue (is_length n) → IsCode f n (IsReedSolomonWord f d) C → IsFormOf C (bch_form f n 1 d)
reed_solomon_form_of f n d C t s l c =
    let e : size f - 1 ≡ n = omega (arith, s) in
    bch_form_of f f n 1 d C t (own_subfield f) l (ap (λ m. m % n) e ∙ mod_self n)
    (same_members f n n (IsReedSolomonWord f d) (IsBchWord f f n 1 d) C refl (λ w k. subst (λ m. IsReedSolomonWord f d w ↔ IsBchWord f f m 1 d w) e (reed_solomon_is_bch f d w)) c)

-- ---- Goppa codes

fits_each : (K : FieldName) (h : ℕ → ℕ) (xs : List ℕ) → ((x : ℕ) → Contains xs x → h x < size K) → Fits K (map h xs)
fits_each K h [] l = λ i m. absurd (omega (arith, m))
fits_each K h (x ∷ xs) l = fits_cons K (h x) (map h xs) (l x (contains_head x xs)) (fits_each K h xs (λ y c. l y (contains_tail x y xs c)))

positive_each : (h : ℕ → ℕ) (xs : List ℕ) → ((x : ℕ) → Contains xs x → 0 < h x) → EachIndex (map h xs) (λ i. 0 < slice_index (map h xs) i)
positive_each h [] p i m = absurd (omega (arith, m))
positive_each h (x ∷ xs) p zero m = p x (contains_head x xs)
positive_each h (x ∷ xs) p (suc k) m = positive_each h xs (λ y c. p y (contains_tail x y xs c)) k (omega (arith, m))

pub goppa_is_form : (f K : FieldName) (g points : List ℕ) → IsTrue (is_symbol f) → IsSubfield f K → IsTrue (is_length (length points)) → Fits K points → AllPairs (λ a b. a ≢ b) points → ((a : ℕ) → Contains points a → 0 < value_at K g a) → IsForm f (goppa_form K g points)
unfolding goppa_form goppa_multipliers
goppa_is_form f K g points t s l h d p =
    let inverted : ℕ → ℕ = λ a. inverse K (value_at K g a) in
    record {
      symbol = t;
      subfield = s;
      length_is = l;
      points = h;
      distinct = d;
      count = length-map points inverted;
      multipliers = fits_each K inverted points (λ a c. (inverse_is K (value_at K g a) (value_inside K g a) (p a c)).inside);
      nonzero = positive_each inverted points (λ a c. inverse_nonzero K (value_at K g a) (inverted a) (inverse_is K (value_at K g a) (value_inside K g a) (p a c)));
    }

points_of_goppa : (K : FieldName) (g points : List ℕ) → length (goppa_form K g points).points ≡ length points
unfolding goppa_form
points_of_goppa K g points = refl

pub goppa_form_of : (f K : FieldName) (g points : List ℕ) (C : Matrix) → IsTrue (is_symbol f) → IsSubfield f K → IsTrue (is_length (length points)) → Fits K points → AllPairs (λ a b. a ≢ b) points → ((a : ℕ) → Contains points a → 0 < value_at K g a)
    → IsCode f (length points) (IsGoppaWord f K g points) C → IsFormOf C (goppa_form K g points)
goppa_form_of f K g points C t s l h d p c =
    form_of_code f (goppa_form K g points) C (goppa_is_form f K g points t s l h d p)
    (same_members f (length points) (length (goppa_form K g points).points) (IsGoppaWord f K g points) (IsAlternantWord f (goppa_form K g points)) C (points_of_goppa K g points) (λ w e. goppa_form_is_the_code f K g points w) c)
