-- The laws of words over a field: length, symbols, sum, multiple, difference, weight, dot and the two orders.
-- Length and symbols
--   length_word_sum, length_sums, length_scale, length_zero_word, length_difference      how long they are
--   index_word_sum, index_scale, index_zero_word, index_difference          the symbol at a place
--   same_words             words of one length with the same symbols are equal
--   fits_head, fits_tail, fits_cons, word_head, word_tail, word_cons        Fits and IsWord, symbol by symbol
--   fits_symbol, word_symbol      each symbol of a word is an element, 0 past the end too
--   IsWord_sum, IsWord_scale, IsWord_zero, IsWord_difference                words are closed under the operations
-- Sum and multiple
--   sum_comm, sum_assoc, sum_exchange, zero_sum, sum_zero, sum_negative     the sum is that of a commutative group
--   scale_sum, sum_scale, scale_scale, one_scale, zero_scale, scale_zero    the multiple is that of a vector space
--   multiple_undone        adding a multiple and then its negative changes nothing
--   difference_self, difference_zero, same_from_difference, difference_turned, difference_back   the difference
-- Weight and dot
--   weight_cons, weight_zero_head, weight_other_head, weight_cons_at_most      the weight, symbol by symbol
--   weight_zero_word, zero_from_weight, positive_weight, weight_at_most_length      zero words and others
--   neg_one_twice, neg_one_nonzero, add_exchange      three facts of the field that these use
--   weight_scale           a nonzero multiple has the weight of the word
--   weight_sum_at_most     the weight of a sum is at most the sum of the weights
--   weight_zero            the weight is 0 exactly where the word is zero
--   distance_turned, distance_zero, distance_triangle, difference_between      the distance is a metric
--   dot_inside, dot_comm, dot_sum, sum_dot, dot_scale, scale_dot, dot_zero, zero_dot      the dot is bilinear and symmetric
-- Order
--   at_most_reflexive, at_most_transitive, at_most_total, at_most_antisymmetric
--   no_later_reflexive, no_later_transitive, no_later_total, no_later_antisymmetric
--   no_later_weight        what comes no later is no heavier
--   sum_fits, fits_none, fits_one, weight_nil      sums, the empty word and the word 1
--   ones_word, ones_fit    the word of ones
--   residues_fit           symbols are residues below the size of the field
--   dot_cons, fits_take, fits_drop      the dot and the symbols, from the first symbol on
use Rattle.std.proofs.Common.{◌≡◌, ℕ, zero, suc, ◌+◌, ◌<◌, ◌≤◌, ◌⊎◌, ◌↔◌, false, cond, not, ◌==◌, List, [], ◌∷◌, length, slice_index, refl, sym, ap, ◌∙◌, inl, inr, ⊎_elim, arith, zero-lt-suc, replicate, take, drop}
use Rattle.std.proofs.lemmas.List.{ext_get_or, length-replicate}
use Rattle.std.proofs.lemmas.List.Sums.{sum_by-cons, count_by-le-length}
use Rattle.std.proofs.lemmas.Bool.{cases_lt, cases_order, ne_eqb}
use Rattle.lc_algebra.specs.declared.FieldName.{FieldName}
use Rattle.lc_algebra.specs.Field.{size, add, neg, mul}
use Rattle.lc_algebra.specs.Word.{Fits, IsWord, zero_word, word_sum, scale, difference, weight, word_dot, distance, AtMost, ComesNoLater}
use Rattle.lc_algebra.proofs.ResidueLaws.{Residues}
use Rattle.lc_algebra.proofs.FieldLaws.{one_inside, zero_inside, add_inside, neg_inside, mul_inside, add_comm, add_assoc, zero_add, add_neg, mul_comm, mul_assoc, mul_add, add_mul, one_mul, zero_mul, mul_zero, neg_one_mul, neg_neg, mul_nonzero, subtract_zero}

pub length_word_sum : (f : FieldName) (u v : List ℕ) → length u ≡ length v → length (word_sum f u v) ≡ length v
unfolding word_sum
length_word_sum f [] [] e = refl
length_word_sum f [] (b ∷ v) e = e
length_word_sum f (a ∷ u) [] e = refl
length_word_sum f (a ∷ u) (b ∷ v) e = ap suc (length_word_sum f u v (omega (arith, e)))

pub length_sums : (f : FieldName) (u x v y : List ℕ) → length u ≡ length x → length v ≡ length y → length (word_sum f u v) ≡ length (word_sum f x y)
unfolding word_sum
length_sums f [] [] v y p q = refl
length_sums f [] (b ∷ x) v y p q = absurd (omega (arith, p))
length_sums f (a ∷ u) [] v y p q = absurd (omega (arith, p))
length_sums f (a ∷ u) (b ∷ x) [] [] p q = refl
length_sums f (a ∷ u) (b ∷ x) [] (d ∷ y) p q = absurd (omega (arith, q))
length_sums f (a ∷ u) (b ∷ x) (c ∷ v) [] p q = absurd (omega (arith, q))
length_sums f (a ∷ u) (b ∷ x) (c ∷ v) (d ∷ y) p q = omega (arith, length_sums f u x v y (omega (arith, p)) (omega (arith, q)))

pub length_scale : (f : FieldName) (c : ℕ) (u : List ℕ) → length (scale f c u) ≡ length u
unfolding scale
length_scale f c [] = refl
length_scale f c (a ∷ u) = ap suc (length_scale f c u)

pub length_zero_word : (n : ℕ) → length (zero_word n) ≡ n
length_zero_word n = length-replicate n 0

pub index_zero_word : (n i : ℕ) → slice_index (zero_word n) i ≡ 0
index_zero_word zero i = refl
index_zero_word (suc n) zero = refl
index_zero_word (suc n) (suc i) = index_zero_word n i

pub index_scale : (f : FieldName) (c : ℕ) (u : List ℕ) (i : ℕ) → slice_index (scale f c u) i ≡ mul f c (slice_index u i)
unfolding scale
index_scale f c [] i = sym (mul_zero f c)
index_scale f c (a ∷ u) zero = refl
index_scale f c (a ∷ u) (suc i) = index_scale f c u i

pub index_word_sum : (f : FieldName) (u v : List ℕ) (i : ℕ) → length u ≡ length v → slice_index (word_sum f u v) i ≡ add f (slice_index u i) (slice_index v i)
unfolding word_sum
index_word_sum f [] [] i e = sym (zero_add f 0 (zero_inside f))
index_word_sum f [] (b ∷ v) i e = absurd (omega (arith, e))
index_word_sum f (a ∷ u) [] i e = absurd (omega (arith, e))
index_word_sum f (a ∷ u) (b ∷ v) zero e = refl
index_word_sum f (a ∷ u) (b ∷ v) (suc i) e = index_word_sum f u v i (omega (arith, e))

pub same_words : (u v : List ℕ) → length u ≡ length v → ((i : ℕ) → slice_index u i ≡ slice_index v i) → u ≡ v
same_words u v e h = ext_get_or 0 u v e (λ i l. h i)

pub fits_head : (f : FieldName) (a : ℕ) (u : List ℕ) → Fits f (a ∷ u) → a < size f
fits_head f a u h = h 0 (zero-lt-suc (length u))

pub fits_tail : (f : FieldName) (a : ℕ) (u : List ℕ) → Fits f (a ∷ u) → Fits f u
fits_tail f a u h i l = h (suc i) (omega (arith, l))

pub fits_cons : (f : FieldName) (a : ℕ) (u : List ℕ) → a < size f → Fits f u → Fits f (a ∷ u)
fits_cons f a u h k zero l = h
fits_cons f a u h k (suc i) l = k i (omega (arith, l))

pub fits_symbol : (f : FieldName) (u : List ℕ) → Fits f u → (i : ℕ) → slice_index u i < size f
fits_symbol f [] h i = zero_inside f
fits_symbol f (a ∷ u) h zero = fits_head f a u h
fits_symbol f (a ∷ u) h (suc i) = fits_symbol f u (fits_tail f a u h) i

pub word_symbol : (f : FieldName) (n : ℕ) (u : List ℕ) → IsWord f n u → (i : ℕ) → slice_index u i < size f
word_symbol f n u w = fits_symbol f u w.fits

pub word_head : (f : FieldName) (n a : ℕ) (u : List ℕ) → IsWord f n (a ∷ u) → a < size f
word_head f n a u w = fits_head f a u w.fits

pub word_tail : (f : FieldName) (n a : ℕ) (u : List ℕ) → IsWord f (suc n) (a ∷ u) → IsWord f n u
word_tail f n a u w = record { long = omega (arith, w.long); fits = fits_tail f a u w.fits }

pub word_cons : (f : FieldName) (n a : ℕ) (u : List ℕ) → a < size f → IsWord f n u → IsWord f (suc n) (a ∷ u)
word_cons f n a u h w = record { long = omega (arith, w.long); fits = fits_cons f a u h w.fits }

pub IsWord_zero : (f : FieldName) (n : ℕ) → IsWord f n (zero_word n)
IsWord_zero f n = record { long = length_zero_word n; fits = λ i l. rw (index_zero_word n i) (zero_inside f) }

pub IsWord_scale : (f : FieldName) (n c : ℕ) (u : List ℕ) → length u ≡ n → IsWord f n (scale f c u)
IsWord_scale f n c u e = record { long = length_scale f c u ∙ e; fits = λ i l. rw (index_scale f c u i) (mul_inside f c (slice_index u i)) }

pub IsWord_sum : (f : FieldName) (n : ℕ) (u v : List ℕ) → length u ≡ n → length v ≡ n → IsWord f n (word_sum f u v)
IsWord_sum f n u v d e = record { long = length_word_sum f u v (d ∙ sym e) ∙ e; fits = λ i l. rw (index_word_sum f u v i (d ∙ sym e)) (add_inside f (slice_index u i) (slice_index v i)) }

pub sum_comm : (f : FieldName) (u v : List ℕ) → word_sum f u v ≡ word_sum f v u
unfolding word_sum
sum_comm f [] [] = refl
sum_comm f [] (b ∷ v) = refl
sum_comm f (a ∷ u) [] = refl
sum_comm f (a ∷ u) (b ∷ v) = cc (add_comm f a b, sum_comm f u v)

pub sum_assoc : (f : FieldName) (u v w : List ℕ) → word_sum f (word_sum f u v) w ≡ word_sum f u (word_sum f v w)
unfolding word_sum
sum_assoc f [] [] [] = refl
sum_assoc f [] [] (c ∷ w) = refl
sum_assoc f [] (b ∷ v) [] = refl
sum_assoc f [] (b ∷ v) (c ∷ w) = refl
sum_assoc f (a ∷ u) [] [] = refl
sum_assoc f (a ∷ u) [] (c ∷ w) = refl
sum_assoc f (a ∷ u) (b ∷ v) [] = refl
sum_assoc f (a ∷ u) (b ∷ v) (c ∷ w) = cc (add_assoc f a b c, sum_assoc f u v w)

pub sum_exchange : (f : FieldName) (a b c d : List ℕ) → word_sum f (word_sum f a b) (word_sum f c d) ≡ word_sum f (word_sum f a c) (word_sum f b d)
sum_exchange f a b c d = cc (sum_assoc f a b (word_sum f c d), sum_assoc f b c d, sum_comm f b c, sum_assoc f c b d, sum_assoc f a c (word_sum f b d))

pub zero_sum : (f : FieldName) (n : ℕ) (w : List ℕ) → IsWord f n w → word_sum f (zero_word n) w ≡ w
zero_sum f n w h =
    let e : length (zero_word n) ≡ length w = length_zero_word n ∙ sym h.long in
    same_words _ _ (length_word_sum f (zero_word n) w e) (λ i. index_word_sum f (zero_word n) w i e ∙ ap (λ x. add f x (slice_index w i)) (index_zero_word n i) ∙ zero_add f _ (word_symbol f n w h i))

pub sum_zero : (f : FieldName) (n : ℕ) (w : List ℕ) → IsWord f n w → word_sum f w (zero_word n) ≡ w
sum_zero f n w h = sum_comm f w (zero_word n) ∙ zero_sum f n w h

pub sum_negative : (f : FieldName) (n : ℕ) (w : List ℕ) → length w ≡ n → word_sum f w (scale f (neg f 1) w) ≡ zero_word n
sum_negative f n w l =
    let e : length w ≡ length (scale f (neg f 1) w) = sym (length_scale f (neg f 1) w) in
    same_words _ _ (length_word_sum f w (scale f (neg f 1) w) e ∙ length_scale f (neg f 1) w ∙ l ∙ sym (length_zero_word n)) (λ i. cc (index_word_sum f w (scale f (neg f 1) w) i e, index_scale f (neg f 1) w i, neg_one_mul f (slice_index w i), add_neg f (slice_index w i), index_zero_word n i))

pub scale_sum : (f : FieldName) (c : ℕ) (u v : List ℕ) → scale f c (word_sum f u v) ≡ word_sum f (scale f c u) (scale f c v)
unfolding word_sum scale
scale_sum f c [] [] = refl
scale_sum f c [] (b ∷ v) = refl
scale_sum f c (a ∷ u) [] = refl
scale_sum f c (a ∷ u) (b ∷ v) = cc (mul_add f c a b, scale_sum f c u v)

pub sum_scale : (f : FieldName) (c d : ℕ) (u : List ℕ) → scale f (add f c d) u ≡ word_sum f (scale f c u) (scale f d u)
unfolding word_sum scale
sum_scale f c d [] = refl
sum_scale f c d (a ∷ u) = cc (add_mul f c d a, sum_scale f c d u)

pub scale_scale : (f : FieldName) (c d : ℕ) (u : List ℕ) → scale f c (scale f d u) ≡ scale f (mul f c d) u
unfolding scale
scale_scale f c d [] = refl
scale_scale f c d (a ∷ u) = cc (mul_assoc f c d a, scale_scale f c d u)

pub one_scale : (f : FieldName) (u : List ℕ) → Fits f u → scale f 1 u ≡ u
unfolding scale
one_scale f [] h = refl
one_scale f (a ∷ u) h = cc (one_mul f a (fits_head f a u h), one_scale f u (fits_tail f a u h))

pub zero_scale : (f : FieldName) (n : ℕ) (u : List ℕ) → length u ≡ n → scale f 0 u ≡ zero_word n
zero_scale f n u e = same_words _ _ (length_scale f 0 u ∙ e ∙ sym (length_zero_word n)) (λ i. cc (index_scale f 0 u i, zero_mul f (slice_index u i), index_zero_word n i))

pub scale_zero : (f : FieldName) (c n : ℕ) → scale f c (zero_word n) ≡ zero_word n
scale_zero f c n = same_words _ _ (length_scale f c (zero_word n)) (λ i. cc (index_scale f c (zero_word n) i, index_zero_word n i, mul_zero f c))

pub multiple_undone : (f : FieldName) (n c : ℕ) (u g : List ℕ) → IsWord f n u → length g ≡ n → word_sum f (word_sum f u (scale f c g)) (scale f (neg f c) g) ≡ u
multiple_undone f n c u g w l = cc (sum_assoc f u (scale f c g) (scale f (neg f c) g), sum_scale f c (neg f c) g, add_neg f c, zero_scale f n g l, sum_zero f n u w)

pub length_difference : (f : FieldName) (u v : List ℕ) → length u ≡ length v → length (difference f u v) ≡ length u
unfolding difference
length_difference f u v e = length_word_sum f u (scale f (neg f 1) v) (e ∙ sym (length_scale f (neg f 1) v)) ∙ length_scale f (neg f 1) v ∙ sym e

pub index_difference : (f : FieldName) (u v : List ℕ) (i : ℕ) → length u ≡ length v → slice_index (difference f u v) i ≡ add f (slice_index u i) (neg f (slice_index v i))
unfolding difference
index_difference f u v i e = index_word_sum f u (scale f (neg f 1) v) i (e ∙ sym (length_scale f (neg f 1) v)) ∙ ap (add f (slice_index u i)) (index_scale f (neg f 1) v i ∙ neg_one_mul f (slice_index v i))

pub IsWord_difference : (f : FieldName) (n : ℕ) (u v : List ℕ) → length u ≡ n → length v ≡ n → IsWord f n (difference f u v)
unfolding difference
IsWord_difference f n u v d e = IsWord_sum f n u (scale f (neg f 1) v) d (length_scale f (neg f 1) v ∙ e)

pub difference_self : (f : FieldName) (n : ℕ) (u : List ℕ) → length u ≡ n → difference f u u ≡ zero_word n
unfolding difference
difference_self f n u l = sum_negative f n u l

pub difference_zero : (f : FieldName) (n : ℕ) (u : List ℕ) → IsWord f n u → difference f u (zero_word n) ≡ u
unfolding difference
difference_zero f n u w = ap (word_sum f u) (scale_zero f (neg f 1) n) ∙ sum_zero f n u w

pub same_from_difference : (f : FieldName) (n : ℕ) (u v : List ℕ) → IsWord f n u → IsWord f n v → difference f u v ≡ zero_word n → u ≡ v
same_from_difference f n u v p q e =
    let l : length u ≡ length v = p.long ∙ sym q.long in
    same_words u v l (λ i. subtract_zero f _ _ (word_symbol f n u p i) (word_symbol f n v q i) (sym (index_difference f u v i l) ∙ ap (λ w. slice_index w i) e ∙ index_zero_word n i))

pub neg_one_twice : (f : FieldName) → mul f (neg f 1) (neg f 1) ≡ 1
neg_one_twice f = neg_one_mul f (neg f 1) ∙ neg_neg f 1 (one_inside f)

pub difference_turned : (f : FieldName) (u v : List ℕ) → Fits f v → difference f v u ≡ scale f (neg f 1) (difference f u v)
unfolding difference
difference_turned f u v h = cc (scale_sum f (neg f 1) u (scale f (neg f 1) v), scale_scale f (neg f 1) (neg f 1) v, neg_one_twice f, one_scale f v h, sum_comm f (scale f (neg f 1) u) v)

pub difference_back : (f : FieldName) (n : ℕ) (u v : List ℕ) → IsWord f n u → length v ≡ n → word_sum f (difference f u v) v ≡ u
unfolding difference
difference_back f n u v p l = cc (sum_assoc f u (scale f (neg f 1) v) v, sum_comm f (scale f (neg f 1) v) v, sum_negative f n v l, sum_zero f n u p)

pub weight_cons : (a : ℕ) (u : List ℕ) → weight (a ∷ u) ≡ cond (not (a == 0)) 1 0 + weight u
weight_cons a u = sum_by-cons (λ x. cond (not (x == 0)) 1 0) a u

pub weight_zero_head : (u : List ℕ) → weight (0 ∷ u) ≡ weight u
weight_zero_head u = weight_cons 0 u ∙ omega arith

pub weight_other_head : (a : ℕ) (u : List ℕ) → 0 < a → weight (a ∷ u) ≡ suc (weight u)
weight_other_head zero u h = absurd (omega (arith, h))
weight_other_head (suc a) u h =
    let e : (suc a == 0) ≡ false = ne_eqb (suc a) 0 (λ e. omega (arith, e)) in
    weight_cons (suc a) u ∙ ap (λ b. cond (not b) 1 0 + weight u) e ∙ omega arith

pub weight_at_most_length : (w : List ℕ) → weight w ≤ length w
weight_at_most_length w = count_by-le-length (λ a. not (a == 0)) w

pub weight_zero_word : (n : ℕ) → weight (zero_word n) ≡ 0
weight_zero_word zero = refl
weight_zero_word (suc n) = weight_zero_head (zero_word n) ∙ weight_zero_word n

pub zero_from_weight : (n : ℕ) (w : List ℕ) → length w ≡ n → weight w ≡ 0 → w ≡ zero_word n
zero_from_weight zero [] l e = refl
zero_from_weight zero (a ∷ w) l e = absurd (omega (arith, l))
zero_from_weight (suc n) [] l e = absurd (omega (arith, l))
zero_from_weight (suc n) (zero ∷ w) l e = ap (λ x. 0 ∷ x) (zero_from_weight n w (omega (arith, l)) (sym (weight_zero_head w) ∙ e))
zero_from_weight (suc n) (suc a ∷ w) l e = absurd (omega (arith, e, weight_other_head (suc a) w (zero-lt-suc a)))

pub positive_weight : (n : ℕ) (w : List ℕ) → length w ≡ n → (w ≡ zero_word n → ⊥) → 0 < weight w
positive_weight n w l h = ⊎_elim (λ p. p) (λ e. absurd (h (zero_from_weight n w l (omega (arith, e))))) (cases_lt 0 (weight w))

pub weight_scale : (f : FieldName) (c : ℕ) (w : List ℕ) → c < size f → 0 < c → Fits f w → weight (scale f c w) ≡ weight w
unfolding scale
weight_scale f c [] h p k = refl
weight_scale f c (zero ∷ w) h p k = rw (mul_zero f c) (weight_zero_head (scale f c w) ∙ weight_scale f c w h p (fits_tail f 0 w k) ∙ sym (weight_zero_head w))
weight_scale f c (suc a ∷ w) h p k =
    let q : 0 < mul f c (suc a) = mul_nonzero f c (suc a) h (fits_head f (suc a) w k) p (zero-lt-suc a) in
    weight_other_head (mul f c (suc a)) (scale f c w) q ∙ ap suc (weight_scale f c w h p (fits_tail f (suc a) w k)) ∙ sym (weight_other_head (suc a) w (zero-lt-suc a))

pub weight_cons_at_most : (a : ℕ) (u : List ℕ) → weight (a ∷ u) ≤ suc (weight u)
weight_cons_at_most zero u = omega (arith, weight_zero_head u)
weight_cons_at_most (suc a) u = omega (arith, weight_other_head (suc a) u (zero-lt-suc a))

pub weight_sum_at_most : (f : FieldName) (u v : List ℕ) → weight (word_sum f u v) ≤ weight u + weight v
unfolding word_sum
weight_sum_at_most f [] v = omega arith
weight_sum_at_most f (a ∷ u) [] = omega arith
weight_sum_at_most f (zero ∷ u) (zero ∷ v) = rw (zero_add f 0 (zero_inside f)) (omega (arith, weight_zero_head (word_sum f u v), weight_zero_head u, weight_zero_head v, weight_sum_at_most f u v))
weight_sum_at_most f (zero ∷ u) (suc b ∷ v) = omega (arith, weight_cons_at_most (add f 0 (suc b)) (word_sum f u v), weight_zero_head u, weight_other_head (suc b) v (zero-lt-suc b), weight_sum_at_most f u v)
weight_sum_at_most f (suc a ∷ u) (zero ∷ v) = omega (arith, weight_cons_at_most (add f (suc a) 0) (word_sum f u v), weight_other_head (suc a) u (zero-lt-suc a), weight_zero_head v, weight_sum_at_most f u v)
weight_sum_at_most f (suc a ∷ u) (suc b ∷ v) = omega (arith, weight_cons_at_most (add f (suc a) (suc b)) (word_sum f u v), weight_other_head (suc a) u (zero-lt-suc a), weight_other_head (suc b) v (zero-lt-suc b), weight_sum_at_most f u v)

pub neg_one_nonzero : (f : FieldName) → 0 < neg f 1
neg_one_nonzero f = ⊎_elim (λ p. p) (λ e. absurd (omega (arith, sym (neg_one_twice f) ∙ ap (mul f (neg f 1)) (omega (arith, e)) ∙ mul_zero f (neg f 1)))) (cases_lt 0 (neg f 1))

pub distance_turned : (f : FieldName) (n : ℕ) (u v : List ℕ) → IsWord f n u → IsWord f n v → distance f u v ≡ distance f v u
distance_turned f n u v p q = sym (ap weight (difference_turned f u v q.fits) ∙ weight_scale f (neg f 1) (difference f u v) (neg_inside f 1) (neg_one_nonzero f) (IsWord_difference f n u v p.long q.long).fits)

pub dot_inside : (f : FieldName) (u v : List ℕ) → word_dot f u v < size f
unfolding word_dot
dot_inside f [] v = zero_inside f
dot_inside f (a ∷ u) [] = zero_inside f
dot_inside f (a ∷ u) (b ∷ v) = add_inside f (mul f a b) (word_dot f u v)

pub dot_comm : (f : FieldName) (u v : List ℕ) → word_dot f u v ≡ word_dot f v u
unfolding word_dot
dot_comm f [] [] = refl
dot_comm f [] (b ∷ v) = refl
dot_comm f (a ∷ u) [] = refl
dot_comm f (a ∷ u) (b ∷ v) = cc (mul_comm f a b, dot_comm f u v)

pub add_exchange : (f : FieldName) (a b c d : ℕ) → add f (add f a b) (add f c d) ≡ add f (add f a c) (add f b d)
add_exchange f a b c d = cc (add_assoc f a b (add f c d), add_assoc f b c d, add_comm f b c, add_assoc f c b d, add_assoc f a c (add f b d))

pub dot_sum : (f : FieldName) (u v w : List ℕ) → length v ≡ length w → word_dot f u (word_sum f v w) ≡ add f (word_dot f u v) (word_dot f u w)
unfolding word_dot word_sum
dot_sum f [] v w e = sym (zero_add f 0 (zero_inside f))
dot_sum f (a ∷ u) [] [] e = sym (zero_add f 0 (zero_inside f))
dot_sum f (a ∷ u) [] (c ∷ w) e = absurd (omega (arith, e))
dot_sum f (a ∷ u) (b ∷ v) [] e = absurd (omega (arith, e))
dot_sum f (a ∷ u) (b ∷ v) (c ∷ w) e =
    let h : word_dot f u (word_sum f v w) ≡ add f (word_dot f u v) (word_dot f u w) = dot_sum f u v w (omega (arith, e)) in
    cc (mul_add f a b c, h, add_exchange f (mul f a b) (mul f a c) (word_dot f u v) (word_dot f u w))

pub sum_dot : (f : FieldName) (u v w : List ℕ) → length u ≡ length v → word_dot f (word_sum f u v) w ≡ add f (word_dot f u w) (word_dot f v w)
sum_dot f u v w e = cc (dot_comm f (word_sum f u v) w, dot_sum f w u v e, dot_comm f w u, dot_comm f w v)

pub scale_dot : (f : FieldName) (c : ℕ) (u v : List ℕ) → word_dot f (scale f c u) v ≡ mul f c (word_dot f u v)
unfolding word_dot scale
scale_dot f c [] v = sym (mul_zero f c)
scale_dot f c (a ∷ u) [] = sym (mul_zero f c)
scale_dot f c (a ∷ u) (b ∷ v) = cc (mul_assoc f c a b, scale_dot f c u v, mul_add f c (mul f a b) (word_dot f u v))

pub dot_scale : (f : FieldName) (c : ℕ) (u v : List ℕ) → word_dot f u (scale f c v) ≡ mul f c (word_dot f u v)
dot_scale f c u v = cc (dot_comm f u (scale f c v), scale_dot f c v u, dot_comm f v u)

pub zero_dot : (f : FieldName) (n : ℕ) (v : List ℕ) → word_dot f (zero_word n) v ≡ 0
unfolding word_dot
zero_dot f zero v = refl
zero_dot f (suc n) [] = refl
zero_dot f (suc n) (b ∷ v) = cc (zero_mul f b, zero_dot f n v, zero_add f 0 (zero_inside f))

pub dot_zero : (f : FieldName) (n : ℕ) (u : List ℕ) → word_dot f u (zero_word n) ≡ 0
dot_zero f n u = dot_comm f u (zero_word n) ∙ zero_dot f n u

pub at_most_reflexive : (u : List ℕ) → AtMost u u
at_most_reflexive [] = tt
at_most_reflexive (a ∷ u) = inr (refl, at_most_reflexive u)

pub at_most_transitive : (u v w : List ℕ) → AtMost u v → AtMost v w → AtMost u w
at_most_transitive [] v w h k = tt
at_most_transitive (a ∷ u) [] w h k = absurd h
at_most_transitive (a ∷ u) (b ∷ v) [] h k = absurd k
at_most_transitive (a ∷ u) (b ∷ v) (c ∷ w) (inl h) (inl k) = inl (omega (arith, h, k))
at_most_transitive (a ∷ u) (b ∷ v) (c ∷ w) (inl h) (inr k) = inl (omega (arith, h, k.0))
at_most_transitive (a ∷ u) (b ∷ v) (c ∷ w) (inr h) (inl k) = inl (omega (arith, h.0, k))
at_most_transitive (a ∷ u) (b ∷ v) (c ∷ w) (inr h) (inr k) = inr (h.0 ∙ k.0, at_most_transitive u v w h.1 k.1)

pub at_most_total : (u v : List ℕ) → length u ≡ length v → AtMost u v ⊎ AtMost v u
at_most_total [] v e = inl tt
at_most_total (a ∷ u) [] e = absurd (omega (arith, e))
at_most_total (a ∷ u) (b ∷ v) e =
    ⊎_elim
    (λ p. ⊎_elim (λ h. inl (inr (p, h))) (λ h. inr (inr (sym p, h))) (at_most_total u v (omega (arith, e))))
    (λ s. ⊎_elim (λ p. inl (inl p)) (λ p. inr (inl p)) s)
    (cases_order a b)

pub at_most_antisymmetric : (u v : List ℕ) → length u ≡ length v → AtMost u v → AtMost v u → u ≡ v
at_most_antisymmetric [] [] e h k = refl
at_most_antisymmetric [] (b ∷ v) e h k = absurd k
at_most_antisymmetric (a ∷ u) [] e h k = absurd h
at_most_antisymmetric (a ∷ u) (b ∷ v) e (inl h) (inl k) = absurd (omega (arith, h, k))
at_most_antisymmetric (a ∷ u) (b ∷ v) e (inl h) (inr k) = absurd (omega (arith, h, k.0))
at_most_antisymmetric (a ∷ u) (b ∷ v) e (inr h) (inl k) = absurd (omega (arith, h.0, k))
at_most_antisymmetric (a ∷ u) (b ∷ v) e (inr h) (inr k) =
    let t : u ≡ v = at_most_antisymmetric u v (omega (arith, e)) h.1 k.1 in
    cc (h.0, t)

pub no_later_reflexive : (u : List ℕ) → ComesNoLater u u
no_later_reflexive u = inr (refl, at_most_reflexive u)

pub no_later_transitive : (u v w : List ℕ) → ComesNoLater u v → ComesNoLater v w → ComesNoLater u w
no_later_transitive u v w (inl h) (inl k) = inl (omega (arith, h, k))
no_later_transitive u v w (inl h) (inr k) = inl (omega (arith, h, k.0))
no_later_transitive u v w (inr h) (inl k) = inl (omega (arith, h.0, k))
no_later_transitive u v w (inr h) (inr k) = inr (h.0 ∙ k.0, at_most_transitive u v w h.1 k.1)

pub no_later_total : (u v : List ℕ) → length u ≡ length v → ComesNoLater u v ⊎ ComesNoLater v u
no_later_total u v e =
    ⊎_elim
    (λ p. ⊎_elim (λ h. inl (inr (p, h))) (λ h. inr (inr (sym p, h))) (at_most_total u v e))
    (λ s. ⊎_elim (λ p. inl (inl p)) (λ p. inr (inl p)) s)
    (cases_order (weight u) (weight v))

pub no_later_antisymmetric : (u v : List ℕ) → length u ≡ length v → ComesNoLater u v → ComesNoLater v u → u ≡ v
no_later_antisymmetric u v e (inl h) (inl k) = absurd (omega (arith, h, k))
no_later_antisymmetric u v e (inl h) (inr k) = absurd (omega (arith, h, k.0))
no_later_antisymmetric u v e (inr h) (inl k) = absurd (omega (arith, h.0, k))
no_later_antisymmetric u v e (inr h) (inr k) = at_most_antisymmetric u v e h.1 k.1

pub no_later_weight : (u v : List ℕ) → ComesNoLater u v → weight u ≤ weight v
no_later_weight u v (inl h) = omega (arith, h)
no_later_weight u v (inr h) = omega (arith, h.0)

pub weight_zero : (n : ℕ) (w : List ℕ) → length w ≡ n → (weight w ≡ 0) ↔ (w ≡ zero_word n)
weight_zero n w l = (zero_from_weight n w l, λ e. ap weight e ∙ weight_zero_word n)

pub distance_zero : (f : FieldName) (n : ℕ) (u v : List ℕ) → IsWord f n u → IsWord f n v → (distance f u v ≡ 0) ↔ (u ≡ v)
distance_zero f n u v p q = (
  λ e. same_from_difference f n u v p q (zero_from_weight n (difference f u v) (IsWord_difference f n u v p.long q.long).long e),
  λ e. ap weight (ap (difference f u) (sym e) ∙ difference_self f n u p.long) ∙ weight_zero_word n,
)

pub difference_between : (f : FieldName) (n : ℕ) (u v w : List ℕ) → length u ≡ n → IsWord f n v → length w ≡ n → difference f u w ≡ word_sum f (difference f u v) (difference f v w)
unfolding difference
difference_between f n u v w l q m =
    let t : IsWord f n (scale f (neg f 1) w) = IsWord_scale f n (neg f 1) w m in
    cc (sum_assoc f u (scale f (neg f 1) v) (word_sum f v (scale f (neg f 1) w)), sum_assoc f (scale f (neg f 1) v) v (scale f (neg f 1) w), sum_comm f (scale f (neg f 1) v) v, sum_negative f n v q.long, zero_sum f n (scale f (neg f 1) w) t)

pub distance_triangle : (f : FieldName) (n : ℕ) (u v w : List ℕ) → IsWord f n u → IsWord f n v → IsWord f n w → distance f u w ≤ distance f u v + distance f v w
distance_triangle f n u v w p q r =
    omega (arith, weight_sum_at_most f (difference f u v) (difference f v w), ap weight (difference_between f n u v w p.long q r.long))

pub sum_fits : (f : FieldName) (u v : List ℕ) → Fits f (word_sum f u v)
unfolding word_sum
sum_fits f [] v = λ i l. absurd (omega (arith, l))
sum_fits f (a ∷ u) [] = λ i l. absurd (omega (arith, l))
sum_fits f (a ∷ u) (b ∷ v) = fits_cons f (add f a b) (word_sum f u v) (add_inside f a b) (sum_fits f u v)

pub fits_none : (K : FieldName) → Fits K []
fits_none K = λ i l. absurd (omega (arith, l))

pub fits_one : (K : FieldName) → Fits K (1 ∷ [])
fits_one K = fits_cons K 1 [] (one_inside K) (fits_none K)

pub weight_nil : weight [] ≡ 0
weight_nil = refl

pub ones_fit : (f : FieldName) (n : ℕ) → Fits f (replicate n 1)
ones_fit f zero = λ i l. absurd (omega (arith, l))
ones_fit f (suc n) = fits_cons f 1 (replicate n 1) (one_inside f) (ones_fit f n)

pub ones_word : (f : FieldName) (n : ℕ) → IsWord f n (replicate n 1)
ones_word f n = record { long = length-replicate n 1; fits = ones_fit f n }

pub residues_fit : (f : FieldName) (u : List ℕ) → Fits f u → Residues (size f) u
residues_fit f [] h = tt
residues_fit f (a ∷ u) h = (fits_head f a u h, residues_fit f u (fits_tail f a u h))

pub dot_cons : (f : FieldName) (a b : ℕ) (us vs : List ℕ) → word_dot f (a ∷ us) (b ∷ vs) ≡ add f (mul f a b) (word_dot f us vs)
unfolding word_dot
dot_cons f a b us vs = refl

pub fits_take : (f : FieldName) (k : ℕ) (u : List ℕ) → Fits f u → Fits f (take k u)
fits_take f zero u h = λ i l. absurd (omega (arith, l))
fits_take f (suc k) [] h = h
fits_take f (suc k) (a ∷ u) h = fits_cons f a (take k u) (fits_head f a u h) (fits_take f k u (fits_tail f a u h))

pub fits_drop : (f : FieldName) (k : ℕ) (u : List ℕ) → Fits f u → Fits f (drop k u)
fits_drop f zero u h = h
fits_drop f (suc k) [] h = h
fits_drop f (suc k) (a ∷ u) h = fits_drop f k u (fits_tail f a u h)
