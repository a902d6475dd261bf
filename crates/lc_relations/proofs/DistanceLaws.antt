-- The Hamming distance of two lists.
--   apart_same, apart_other      one coordinate more, at which the lists agree or differ
--   apart_zero                   it is 0 exactly for equal lists
--   apart_turned                 it is the same from either side
--   apart_triangle               by way of a third list it is not shorter
--   apart_weight                 of words over a field it is the weight of the difference
use Rattle.std.proofs.Common.{◌≡◌, ◌≢◌, ℕ, suc, ◌+◌, ◌==◌, not, cond, ◌≤◌, ◌<◌, ◌↔◌, List, [], ◌∷◌, length, refl, sym, ap, ap₂, ◌∙◌, ⊎_elim, arith}
use Rattle.std.specs.List.{zip}
use Rattle.std.proofs.lemmas.List.Sums.{sum_by-cons}
use Rattle.std.proofs.lemmas.Bool.{cases_eq, eq-eqb, ne_eqb}
use Rattle.lc_algebra.specs.declared.FieldName.{FieldName}
use Rattle.lc_algebra.specs.Field.{add, neg, mul}
use Rattle.lc_algebra.specs.Word.{Fits, IsWord, word_sum, scale, difference, weight, distance}
use Rattle.lc_algebra.proofs.FieldLaws.{add_neg, neg_one_mul, subtract_zero}
use Rattle.lc_algebra.proofs.WordLaws.{fits_head, fits_tail, weight_zero_head, weight_other_head}
use Rattle.lc_language.specs.Relations.{hamming_distance}

apart_cons : (a b : ℕ) (x y : List ℕ) → hamming_distance (a ∷ x) (b ∷ y) ≡ cond (not (a == b)) 1 0 + hamming_distance x y
apart_cons a b x y = sum_by-cons (λ p. cond (not (p.0 == p.1)) 1 0) (a, b) (zip x y)

pub apart_same : (a b : ℕ) (x y : List ℕ) → a ≡ b → hamming_distance (a ∷ x) (b ∷ y) ≡ hamming_distance x y
apart_same a b x y e = apart_cons a b x y ∙ ap (λ t. cond (not t) 1 0 + hamming_distance x y) (eq-eqb a b e) ∙ omega arith

pub apart_other : (a b : ℕ) (x y : List ℕ) → a ≢ b → hamming_distance (a ∷ x) (b ∷ y) ≡ suc (hamming_distance x y)
apart_other a b x y h = apart_cons a b x y ∙ ap (λ t. cond (not t) 1 0 + hamming_distance x y) (ne_eqb a b h) ∙ omega arith

apart_more : (a b : ℕ) (x y : List ℕ) → hamming_distance x y ≤ hamming_distance (a ∷ x) (b ∷ y)
apart_more a b x y = ⊎_elim (λ e. omega (arith, apart_same a b x y e)) (λ h. omega (arith, apart_other a b x y h)) (cases_eq a b)

apart_self : (x : List ℕ) → hamming_distance x x ≡ 0
apart_self [] = refl
apart_self (a ∷ x) = apart_same a a x x refl ∙ apart_self x

apart_none : (x y : List ℕ) → length x ≡ length y → hamming_distance x y ≡ 0 → x ≡ y
apart_none [] [] l e = refl
apart_none [] (b ∷ y) l e = absurd (omega (arith, l))
apart_none (a ∷ x) [] l e = absurd (omega (arith, l))
apart_none (a ∷ x) (b ∷ y) l e =
    ⊎_elim
    (λ (s : a ≡ b). ap₂ (λ (c : ℕ) (u : List ℕ). c ∷ u) s (apart_none x y (omega (arith, l)) (sym (apart_same a b x y s) ∙ e)))
    (λ (h : a ≢ b). absurd (omega (arith, apart_other a b x y h, e)))
    (cases_eq a b)

pub apart_zero : (x y : List ℕ) → length x ≡ length y → (hamming_distance x y ≡ 0) ↔ (x ≡ y)
apart_zero x y l = (apart_none x y l, (λ e. ap (hamming_distance x) (sym e) ∙ apart_self x))

pub apart_turned : (x y : List ℕ) → hamming_distance x y ≡ hamming_distance y x
apart_turned [] [] = refl
apart_turned [] (b ∷ y) = refl
apart_turned (a ∷ x) [] = refl
apart_turned (a ∷ x) (b ∷ y) =
    let t = apart_turned x y in
    ⊎_elim
    (λ (s : a ≡ b). apart_same a b x y s ∙ t ∙ sym (apart_same b a y x (sym s)))
    (λ (h : a ≢ b). apart_other a b x y h ∙ ap suc t ∙ sym (apart_other b a y x (λ s. h (sym s))))
    (cases_eq a b)

pub apart_triangle : (x y z : List ℕ) → length x ≡ length y → length y ≡ length z → hamming_distance x z ≤ hamming_distance x y + hamming_distance y z
apart_triangle [] y [] l m = omega arith
apart_triangle [] y (c ∷ z) l m = absurd (omega (arith, l, m))
apart_triangle (a ∷ x) [] z l m = absurd (omega (arith, l))
apart_triangle (a ∷ x) (b ∷ y) [] l m = absurd (omega (arith, m))
apart_triangle (a ∷ x) (b ∷ y) (c ∷ z) l m =
    let t = apart_triangle x y z (omega (arith, l)) (omega (arith, m)) in
    let p = apart_more a b x y in
    let q = apart_more b c y z in
    ⊎_elim
    (λ (e : a ≡ c). omega (arith, t, p, q, apart_same a c x z e))
    (λ (h : a ≢ c). ⊎_elim
    (λ (e : a ≡ b). omega (arith, t, p, apart_other a c x z h, apart_other b c y z (λ s. h (e ∙ s))))
    (λ (k : a ≢ b). omega (arith, t, q, apart_other a c x z h, apart_other a b x y k))
    (cases_eq a b))
    (cases_eq a c)

not_zero : (n : ℕ) → n ≢ 0 → 0 < n
not_zero n h = omega (arith, h)

apart_fits : (f : FieldName) (x y : List ℕ) → length x ≡ length y → Fits f x → Fits f y → hamming_distance x y ≡ distance f x y
unfolding difference word_sum scale
apart_fits f [] [] l h k = refl
apart_fits f [] (b ∷ y) l h k = absurd (omega (arith, l))
apart_fits f (a ∷ x) [] l h k = absurd (omega (arith, l))
apart_fits f (a ∷ x) (b ∷ y) l h k =
    let t = apart_fits f x y (omega (arith, l)) (fits_tail f a x h) (fits_tail f b y k) in
    let first = add f a (mul f (neg f 1) b) in
    let is : first ≡ add f a (neg f b) = ap (add f a) (neg_one_mul f b) in
    let rest = word_sum f x (scale f (neg f 1) y) in
    ⊎_elim
    (λ (e : a ≡ b).
    let zero : first ≡ 0 = is ∙ ap (λ c. add f a (neg f c)) (sym e) ∙ add_neg f a in
    apart_same a b x y e ∙ t ∙ sym (weight_zero_head rest) ∙ ap (λ (c : ℕ). weight (c ∷ rest)) (sym zero))
    (λ (o : a ≢ b).
    let other : 0 < first = not_zero first (λ z. o (subtract_zero f a b (fits_head f a x h) (fits_head f b y k) (sym is ∙ z))) in
    apart_other a b x y o ∙ ap suc t ∙ sym (weight_other_head first rest other))
    (cases_eq a b)

pub apart_weight : (f : FieldName) (n : ℕ) (x y : List ℕ) → IsWord f n x → IsWord f n y → hamming_distance x y ≡ distance f x y
apart_weight f n x y a b = apart_fits f x y (a.long ∙ sym b.long) a.fits b.fits
