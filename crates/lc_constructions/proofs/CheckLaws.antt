-- The weight law of alternant codes, over the locator field: a word of weight at most r with r sums 0 is the zero word
-- (MacWilliams and Sloane, chapter 12).
--   AreNonzero f ys        each entry is a nonzero element
--   moved f a xs ys        the multipliers y_i (x_i - a)
--   length_moved           there are as many of them
--   moved_dot              the sum number j with these multipliers: that number j + 1, less a times that number j
--   moved_nonzero          they are nonzero if a isn't a point
--   moved_first            the first term falls away if a is the first point
--   light_word             a word of weight at most r with r sums 0 has weight 0
use Rattle.std.proofs.Common.{◌≡◌, ℕ, zero, suc, ◌<◌, ◌≤◌, List, [], ◌∷◌, length, Contains, refl, ap, ◌∙◌, ⊎_elim, arith}
use Rattle.std.specs.Prelude.{⊤}
use Rattle.std.proofs.lemmas.Bool.{cases_lt}
use Rattle.lc_algebra.specs.declared.FieldName.{FieldName}
use Rattle.lc_algebra.specs.Field.{size, add, neg, mul, pow}
use Rattle.lc_algebra.specs.Word.{Fits, zero_word, weight, word_dot}
use Rattle.lc_algebra.proofs.FieldLaws.{zero_inside, add_inside, mul_inside, add_neg, neg_zero, zero_add, add_zero, mul_assoc, mul_swap, mul_add, add_mul, mul_neg, neg_mul, neg_one_mul, mul_zero, zero_mul, mul_one, subtract_zero, mul_nonzero, pow_zero}
use Rattle.lc_algebra.proofs.WordLaws.{fits_head, fits_tail, weight_zero_head, weight_other_head, zero_from_weight, zero_dot, dot_inside, add_exchange}
use Rattle.lc_algebra.proofs.SpanLaws.{contains_tail}
use Rattle.lc_algebra.proofs.DimensionLaws.{AreDistinct}
use Rattle.lc_constructions.specs.Alternant.{check_row}

abbrev pub AreNonzero : FieldName → List ℕ → Type 0
AreNonzero f [] = ⊤
AreNonzero f (y ∷ ys) = (y < size f) × (0 < y) × AreNonzero f ys

unfoldable pub moved : FieldName → ℕ → List ℕ → List ℕ → List ℕ
moved f a (x ∷ xs) (y ∷ ys) = mul f y (add f x (neg f a)) ∷ moved f a xs ys
moved f a _ _ = []

pub length_moved : (f : FieldName) (a : ℕ) (xs ys : List ℕ) → length xs ≡ length ys → length (moved f a xs ys) ≡ length ys
unfolding moved
length_moved f a [] [] e = refl
length_moved f a [] (y ∷ ys) e = absurd (omega (arith, e))
length_moved f a (x ∷ xs) [] e = absurd (omega (arith, e))
length_moved f a (x ∷ xs) (y ∷ ys) e = omega (arith, length_moved f a xs ys (omega (arith, e)))

moved_term : (f : FieldName) (a x y z p : ℕ) → mul f z (mul f (mul f y (add f x (neg f a))) p) ≡ add f (mul f z (mul f y (mul f x p))) (neg f (mul f a (mul f z (mul f y p))))
moved_term f a x y z p =
    cc (mul_assoc f y (add f x (neg f a)) p, add_mul f x (neg f a) p, mul_add f y (mul f x p) (mul f (neg f a) p), mul_add f z (mul f y (mul f x p)) (mul f y (mul f (neg f a) p)), neg_mul f a p, mul_neg f y (mul f a p), mul_neg f z (mul f y (mul f a p)), mul_swap f y a p, mul_swap f z a (mul f y p))

neg_sum : (f : FieldName) (a u w : ℕ) → add f (neg f (mul f a u)) (neg f (mul f a w)) ≡ neg f (mul f a (add f u w))
neg_sum f a u w = cc (neg_one_mul f (mul f a u), neg_one_mul f (mul f a w), neg_one_mul f (mul f a (add f u w)), mul_add f a u w, mul_add f (neg f 1) (mul f a u) (mul f a w))

gathered : (f : FieldName) (a t u v w : ℕ) → add f (add f t (neg f (mul f a u))) (add f v (neg f (mul f a w))) ≡ add f (add f t v) (neg f (mul f a (add f u w)))
gathered f a t u v w = cc (add_exchange f t (neg f (mul f a u)) v (neg f (mul f a w)), neg_sum f a u w)

pub moved_dot : (f : FieldName) (a : ℕ) (xs ys z : List ℕ) (j : ℕ) → word_dot f z (check_row f xs (moved f a xs ys) j) ≡ add f (word_dot f z (check_row f xs ys (suc j))) (neg f (mul f a (word_dot f z (check_row f xs ys j))))
unfolding word_dot check_row moved pow
moved_dot f a xs ys [] j = cc (mul_zero f a, neg_zero f, zero_add f 0 (zero_inside f))
moved_dot f a [] ys (c ∷ z) j = cc (mul_zero f a, neg_zero f, zero_add f 0 (zero_inside f))
moved_dot f a (x ∷ xs) [] (c ∷ z) j = cc (mul_zero f a, neg_zero f, zero_add f 0 (zero_inside f))
moved_dot f a (x ∷ xs) (y ∷ ys) (c ∷ z) j =
    let p = pow f x j in
    let h = moved_dot f a xs ys z j in
    let t = moved_term f a x y c p in
    cc (h, t, gathered f a (mul f c (mul f y (mul f x p))) (mul f c (mul f y p)) (word_dot f z (check_row f xs ys (suc j))) (word_dot f z (check_row f xs ys j)))

apart : (f : FieldName) (x a : ℕ) → x < size f → a < size f → (x ≡ a → ⊥) → 0 < add f x (neg f a)
apart f x a l m n = ⊎_elim (λ k. k) (λ k. absurd (n (subtract_zero f x a l m (omega (arith, k))))) (cases_lt 0 (add f x (neg f a)))

pub moved_nonzero : (f : FieldName) (a : ℕ) (xs ys : List ℕ) → a < size f → Fits f xs → (Contains xs a → ⊥) → AreNonzero f ys → AreNonzero f (moved f a xs ys)
unfolding moved
moved_nonzero f a [] ys l h n m = tt
moved_nonzero f a (x ∷ xs) [] l h n m = tt
moved_nonzero f a (x ∷ xs) (y ∷ ys) l h n m =
    let d = add f x (neg f a) in
    (mul_inside f y d, mul_nonzero f y d m.0 (add_inside f x (neg f a)) m.1 (apart f x a (fits_head f x xs h) l (λ e. n (0, omega arith, e))), moved_nonzero f a xs ys l (fits_tail f x xs h) (λ c. n (contains_tail x a xs c)) m.2)

moved_first : (f : FieldName) (a : ℕ) (xs : List ℕ) (y : ℕ) (ys : List ℕ) (c : ℕ) (z : List ℕ) (j : ℕ) → word_dot f (c ∷ z) (check_row f (a ∷ xs) (moved f a (a ∷ xs) (y ∷ ys)) j) ≡ word_dot f z (check_row f xs (moved f a xs ys) j)
unfolding word_dot check_row moved
moved_first f a xs y ys c z j =
    let w = word_dot f z (check_row f xs (moved f a xs ys) j) in
    cc (add_neg f a, mul_zero f y, zero_mul f (pow f a j), mul_zero f c, zero_add f w (dot_inside f z (check_row f xs (moved f a xs ys) j)))

dot_first : (f : FieldName) (c : ℕ) (z : List ℕ) (x : ℕ) (xs : List ℕ) (y : ℕ) (ys : List ℕ) (j : ℕ) → word_dot f (c ∷ z) (check_row f (x ∷ xs) (y ∷ ys) j) ≡ add f (mul f c (mul f y (pow f x j))) (word_dot f z (check_row f xs ys j))
unfolding word_dot check_row
dot_first f c z x xs y ys j = refl

pub light_word : (f : FieldName) (xs ys z : List ℕ) (r : ℕ) → Fits f xs → AreDistinct xs → AreNonzero f ys → length ys ≡ length xs → length z ≡ length xs → Fits f z → ((j : ℕ) → j < r → word_dot f z (check_row f xs ys j) ≡ 0) → weight z ≤ r → weight z ≡ 0
light_word f xs ys [] r h d m e k g s w = refl
light_word f [] ys (c ∷ z) r h d m e k g s w = absurd (omega (arith, k))
light_word f (x ∷ xs) [] (c ∷ z) r h d m e k g s w = absurd (omega (arith, e))
light_word f (x ∷ xs) (y ∷ ys) (zero ∷ z) r h d m e k g s w =
    let t : (j : ℕ) → j < r → word_dot f z (check_row f xs ys j) ≡ 0 = λ j l.
    cc (dot_first f 0 z x xs y ys j, zero_mul f (mul f y (pow f x j)), zero_add f (word_dot f z (check_row f xs ys j)) (dot_inside f z (check_row f xs ys j)), s j l) in
    weight_zero_head z ∙ light_word f xs ys z r (fits_tail f x xs h) d.1 m.2 (omega (arith, e)) (omega (arith, k)) (fits_tail f 0 z g) t (omega (arith, w, weight_zero_head z))
light_word f (x ∷ xs) (y ∷ ys) (suc c ∷ z) zero h d m e k g s w = absurd (omega (arith, w, weight_other_head (suc c) z (omega arith)))
light_word f (x ∷ xs) (y ∷ ys) (suc c ∷ z) (suc r) h d m e k g s w =
    let q = weight_other_head (suc c) z (omega arith) in
    let t : (j : ℕ) → j < r → word_dot f z (check_row f xs (moved f x xs ys) j) ≡ 0 = λ j l.
    cc (moved_first f x xs y ys (suc c) z j, moved_dot f x (x ∷ xs) (y ∷ ys) (suc c ∷ z) j, s j (omega (arith, l)), s (suc j) (omega (arith, l)), mul_zero f x, neg_zero f, zero_add f 0 (zero_inside f)) in
    let lx = fits_head f x xs h in
    let n = moved_nonzero f x xs ys lx (fits_tail f x xs h) d.0 m.2 in
    let ih : weight z ≡ 0 = light_word f xs (moved f x xs ys) z r (fits_tail f x xs h) d.1 n (length_moved f x xs ys (omega (arith, e)) ∙ omega (arith, e)) (omega (arith, k)) (fits_tail f (suc c) z g) t (omega (arith, w, q)) in
    let o : z ≡ zero_word (length z) = zero_from_weight (length z) z refl ih in
    let dz : word_dot f z (check_row f xs ys 0) ≡ 0 = ap (λ v. word_dot f v (check_row f xs ys 0)) o ∙ zero_dot f (length z) (check_row f xs ys 0) in
    let b : mul f (suc c) y ≡ 0 = cc (dot_first f (suc c) z x xs y ys 0, dz, pow_zero f x, mul_one f y m.0, add_zero f (mul f (suc c) y) (mul_inside f (suc c) y), s 0 (omega arith)) in
    absurd (omega (arith, b, mul_nonzero f (suc c) y (fits_head f (suc c) z g) m.0 (omega arith) m.1))
