-- The key equation: a key polynomial of the syndromes of at most t errors is 0 at the point of each error
-- (MacWilliams and Sloane, chapter 12).
--   weighed f u z xs      the products z_i u(x_i)
--   length_weighed, fits_weighed, weight_weighed, index_weighed      their number, elements, weight and entries
--   weighed_sum           their sum number j, for one coefficient more: the first one times that of z, and the rest at number j + 1
--   recurrence_sum        so the recurrence of the sums of z is the sum of the products
--   recurring_zero        z of weight at most t is 0 at each point at which a key polynomial of its sums isn't 0
use Rattle.std.proofs.Common.{◌≡◌, ◌≢◌, ℕ, zero, suc, ◌+◌, ◌*◌, ◌<◌, ◌≤◌, List, [], ◌∷◌, length, slice_index, refl, sym, ap, ◌∙◌, ⊎_elim, arith}
use Rattle.lc_algebra.specs.declared.FieldName.{FieldName}
use Rattle.lc_algebra.specs.Field.{add, mul, pow}
use Rattle.lc_algebra.specs.Polynomial.{value_at}
use Rattle.lc_algebra.specs.Word.{Fits, weight, word_dot}
use Rattle.lc_algebra.proofs.FieldLaws.{zero_inside, mul_inside, zero_add, mul_zero, zero_mul, mul_comm, mul_assoc, mul_swap, mul_add, add_mul, no_zero_divisors}
use Rattle.lc_algebra.proofs.WordLaws.{fits_cons, fits_symbol, weight_zero_head, weight_other_head, weight_cons_at_most, zero_from_weight, index_zero_word, add_exchange}
use Rattle.lc_algebra.proofs.PolynomialLaws.{value_inside}
use Rattle.lc_algebra.proofs.DimensionLaws.{AreDistinct}
use Rattle.lc_constructions.specs.Alternant.{check_row}
use Rattle.lc_constructions.proofs.CheckLaws.{AreNonzero, light_word}
use Rattle.lc_alternant.specs.Key.{recurrence}

unfoldable weighed : FieldName → List ℕ → List ℕ → List ℕ → List ℕ
weighed f u (e ∷ z) (x ∷ xs) = mul f e (value_at f u x) ∷ weighed f u z xs
weighed f u _ _ = []

length_weighed : (f : FieldName) (u z xs : List ℕ) → length z ≡ length xs → length (weighed f u z xs) ≡ length xs
unfolding weighed
length_weighed f u [] [] l = refl
length_weighed f u [] (x ∷ xs) l = absurd (omega (arith, l))
length_weighed f u (e ∷ z) [] l = absurd (omega (arith, l))
length_weighed f u (e ∷ z) (x ∷ xs) l = ap suc (length_weighed f u z xs (omega (arith, l)))

fits_weighed : (f : FieldName) (u z xs : List ℕ) → Fits f (weighed f u z xs)
unfolding weighed
fits_weighed f u [] xs = λ i l. absurd (omega (arith, l))
fits_weighed f u (e ∷ z) [] = λ i l. absurd (omega (arith, l))
fits_weighed f u (e ∷ z) (x ∷ xs) = fits_cons f (mul f e (value_at f u x)) (weighed f u z xs) (mul_inside f e (value_at f u x)) (fits_weighed f u z xs)

weight_weighed : (f : FieldName) (u z xs : List ℕ) → weight (weighed f u z xs) ≤ weight z
unfolding weighed
weight_weighed f u [] xs = omega arith
weight_weighed f u (e ∷ z) [] = omega arith
weight_weighed f u (zero ∷ z) (x ∷ xs) =
    let w = weighed f u z xs in
    let q : weight (mul f 0 (value_at f u x) ∷ w) ≡ weight (0 ∷ w) = ap (λ (a : ℕ). weight (a ∷ w)) (zero_mul f (value_at f u x)) in
    omega (arith, q, weight_zero_head w, weight_zero_head z, weight_weighed f u z xs)
weight_weighed f u (suc e ∷ z) (x ∷ xs) =
    omega (arith, weight_cons_at_most (mul f (suc e) (value_at f u x)) (weighed f u z xs), weight_other_head (suc e) z (omega arith), weight_weighed f u z xs)

index_weighed : (f : FieldName) (u z xs : List ℕ) (i : ℕ) → length z ≡ length xs → i < length xs → slice_index (weighed f u z xs) i ≡ mul f (slice_index z i) (value_at f u (slice_index xs i))
unfolding weighed
index_weighed f u [] [] i l m = absurd (omega (arith, m))
index_weighed f u [] (x ∷ xs) i l m = absurd (omega (arith, l))
index_weighed f u (e ∷ z) [] i l m = absurd (omega (arith, l))
index_weighed f u (e ∷ z) (x ∷ xs) zero l m = refl
index_weighed f u (e ∷ z) (x ∷ xs) (suc i) l m = index_weighed f u z xs i (omega (arith, l)) (omega (arith, m))

weighed_none : (f : FieldName) (z xs ys : List ℕ) (j : ℕ) → word_dot f (weighed f [] z xs) (check_row f xs ys j) ≡ 0
unfolding weighed word_dot check_row value_at
weighed_none f [] xs ys j = refl
weighed_none f (e ∷ z) [] ys j = refl
weighed_none f (e ∷ z) (x ∷ xs) [] j = refl
weighed_none f (e ∷ z) (x ∷ xs) (y ∷ ys) j = cc (mul_zero f e, zero_mul f (mul f y (pow f x j)), weighed_none f z xs ys j, zero_add f 0 (zero_inside f))

weighed_term : (f : FieldName) (e c x v y p : ℕ) → mul f (mul f e (add f c (mul f x v))) (mul f y p) ≡ add f (mul f (mul f e (mul f y p)) c) (mul f (mul f e v) (mul f y (mul f x p)))
weighed_term f e c x v y p =
    cc (mul_add f e c (mul f x v), add_mul f (mul f e c) (mul f e (mul f x v)) (mul f y p), mul_assoc f e c (mul f y p), mul_assoc f e (mul f y p) c, mul_comm f c (mul f y p), mul_assoc f e (mul f x v) (mul f y p), mul_assoc f x v (mul f y p), mul_swap f x v (mul f y p), mul_swap f x y p, mul_assoc f e v (mul f y (mul f x p)))

weighed_sum : (f : FieldName) (c : ℕ) (u z xs ys : List ℕ) (j : ℕ) → word_dot f (weighed f (c ∷ u) z xs) (check_row f xs ys j) ≡ add f (mul f (word_dot f z (check_row f xs ys j)) c) (word_dot f (weighed f u z xs) (check_row f xs ys (suc j)))
unfolding weighed word_dot check_row value_at pow
weighed_sum f c u [] xs ys j = cc (zero_mul f c, zero_add f 0 (zero_inside f))
weighed_sum f c u (e ∷ z) [] ys j = cc (zero_mul f c, zero_add f 0 (zero_inside f))
weighed_sum f c u (e ∷ z) (x ∷ xs) [] j = cc (zero_mul f c, zero_add f 0 (zero_inside f))
weighed_sum f c u (e ∷ z) (x ∷ xs) (y ∷ ys) j =
    let p = pow f x j in
    let v = value_at f u x in
    let a = mul f (mul f e (mul f y p)) c in
    let b = mul f (mul f e v) (mul f y (mul f x p)) in
    let d = word_dot f z (check_row f xs ys j) in
    let t = word_dot f (weighed f u z xs) (check_row f xs ys (suc j)) in
    cc (weighed_term f e c x v y p, weighed_sum f c u z xs ys j, add_mul f (mul f e (mul f y p)) d c, add_exchange f a b (mul f d c) t)

recurrence_sum : (f : FieldName) (xs ys z s u : List ℕ) (j : ℕ) → ((i : ℕ) → i < j + length u → slice_index s i ≡ word_dot f z (check_row f xs ys i)) → recurrence f s u j ≡ word_dot f (weighed f u z xs) (check_row f xs ys j)
unfolding recurrence
recurrence_sum f xs ys z s [] j h = sym (weighed_none f z xs ys j)
recurrence_sum f xs ys z s (c ∷ u) j h =
    let t = recurrence_sum f xs ys z s u (suc j) (λ i l. h i (omega (arith, l))) in
    cc (t, h j (omega arith), weighed_sum f c u z xs ys j)

pub recurring_zero : (f : FieldName) (xs ys z s u : List ℕ) (t : ℕ) → Fits f xs → AreDistinct xs → AreNonzero f ys → length ys ≡ length xs → length z ≡ length xs → Fits f z → weight z ≤ t → length u ≤ t + 1 → ((i : ℕ) → i < 2 * t → slice_index s i ≡ word_dot f z (check_row f xs ys i)) → ((j : ℕ) → j < t → recurrence f s u j ≡ 0) → (i : ℕ) → i < length xs → slice_index z i ≢ 0 → value_at f u (slice_index xs i) ≡ 0
recurring_zero f xs ys z s u t h d m e k g w l q r i b n =
    let p = weighed f u z xs in
    let sums : (j : ℕ) → j < t → word_dot f p (check_row f xs ys j) ≡ 0 = λ j a. sym (recurrence_sum f xs ys z s u j (λ i c. q i (omega (arith, c, a, l)))) ∙ r j a in
    let o : weight p ≡ 0 = light_word f xs ys p t h d m e (length_weighed f u z xs k) (fits_weighed f u z xs) sums (omega (arith, w, weight_weighed f u z xs)) in
    let c : slice_index p i ≡ 0 = ap (λ v. slice_index v i) (zero_from_weight (length xs) p (length_weighed f u z xs k) o) ∙ index_zero_word (length xs) i in
    let v = value_at f u (slice_index xs i) in
    ⊎_elim (λ x. absurd (n x)) (λ x. x) (no_zero_divisors f (slice_index z i) v (fits_symbol f z g i) (value_inside f u (slice_index xs i)) (sym (index_weighed f u z xs i k b) ∙ c))
