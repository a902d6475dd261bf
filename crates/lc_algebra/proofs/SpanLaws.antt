-- The laws of the words of some rows. Rows are words of length n where a lemma asks for AreRows.
-- The span
--   span_word              each word of the rows is a word of length n over the field
--   span_zero, span_sum, span_scale, span_difference      the words are closed under the operations
--   span_head, span_more, span_row      each row is a word of the rows
--   span_within            where the rows are words of the others, so is each word of the rows
--   same_span, same_span_reflexive, same_span_symmetric, same_span_transitive      two lists of rows with the same words
--   combination_of_word, word_of_combination, combinations      a word of the rows is the combination by some coefficients
--   length_combine, combine_sum, combine_scale, combine_difference      the combination is linear in the coefficients
--   coefficients_unique, independent_from_unique      independent rows: a combination tells its coefficients
--   dot_span               what has dot 0 with each row has dot 0 with each word
--   orthogonal_zero, orthogonal_sum, orthogonal_scale, orthogonal_shared      what has dot 0 with each row is a linear code,
--                          told by the words of the rows
-- The list of words
--   contains_head, contains_tail, contains_cases, contains_map, map_contains, contains_flat_map, flat_map_contains
--   contains_below, below_contains, length_below, length_flat_map_even
--   word_of_member, member_of_word      the list of words has exactly the words of the rows
--   length_words           the list has q^k entries for k rows
--   same_word_decided, contains_decided, span_decided      whether a word is one of the rows' words
-- Steps on rows
--   span_multiples_added   adding multiples of row r to the other rows keeps the words
--   span_multiple_added    adding a multiple of row r to row i keeps the words
--   span_rows_scaled, span_row_scaled      multiplying rows by nonzero elements keeps the words
--   span_but_zeros         lists with the same rows, but for zero rows, in any order and number, have the same words
--   span_same_members, span_permuted, span_swapped, span_zero_removed, span_zero_head      cases of it
-- Least words
--   distance_unique, least_unique      some rows have one minimum distance and one first nonzero word
--   span_lengths           the words of some rows have one length
--   weight_bound_attained, weight_bound_at_most      a bound of the weights that some word attains is the minimum distance, and
--                          each bound is at most that distance
--   weight_bound_apart     two words are at least as far apart as the bound
--   least_distance         the weight of that word is the minimum distance
--   words_apart            two words are at least the minimum distance apart
--   words_at_distance      and some word is that far from the zero word
--   distance_shared, least_shared      rows with the same words have the same distance and the same first word
--   combine_cons, combine_none, combine_append      combinations, by their coefficients
--   combine_is_word, span_of_member      they are words; each row is one of them
--   index_below            the numbers below n, by their places
use Rattle.std.proofs.Common.{◌≡◌, ◌≢◌, ℕ, zero, suc, ◌*◌, ◌^◌, ◌<◌, ◌≤◌, ◌⊎◌, ◌↔◌, List, [], ◌∷◌, map, length, set, slice_index_or, All, Contains, flat_map, swap, remove, IsPermutation, refl, sym, ap, subst, ◌∙◌, inl, inr, ⊎_elim, arith, zero-lt-suc, pow-suc, ◌+◌, ◌++◌, ◌-◌}
use Rattle.std.proofs.lemmas.List.{length-append, length-map, length-set, get_or-set_same, get_or-set_other, get_or_default, get_or_append_left}
use Rattle.std.proofs.lemmas.List.Elements.{All-cons, All-head, All-tail, All-contains, All-from_get_or, Contains-get_or, Contains-append_left, Contains-append_right, Contains-append_cases}
use Rattle.std.proofs.lemmas.List.Sorted.{IsPermutation-sym, IsPermutation-swap, IsPermutation-remove, All-permutation}
use Rattle.std.proofs.lemmas.Bool.{cases_lt, cases_eq}
use Rattle.lc_algebra.specs.declared.FieldName.{FieldName}
use Rattle.lc_algebra.specs.Field.{size, add, neg, mul}
use Rattle.lc_algebra.specs.Word.{IsWord, zero_word, word_sum, scale, difference, weight, word_dot, distance}
use Rattle.lc_algebra.specs.Span.{below, combine, InSpan, words, SameSpan, AreIndependent, IsWeightBound, IsDistance, IsLeast}
use Rattle.lc_algebra.specs.Matrix.{AreRows, IsOrthogonal}
use Rattle.lc_algebra.specs.SpanLaws.{AddsMultiples, ScalesRows}
use Rattle.std.proofs.Math.Nat.{pow-zero}
use Rattle.std.proofs.Math.Seq.{get_or-append_seam}
use Rattle.lc_algebra.proofs.FieldLaws.{one_inside, zero_inside, add_inside, mul_inside, zero_add, mul_comm, mul_zero, inverse_of}
use Rattle.lc_algebra.proofs.WordLaws.{length_word_sum, length_sums, length_scale, difference_self, same_from_difference, IsWord_difference, length_zero_word, IsWord_zero, IsWord_scale, IsWord_sum, word_head, word_tail, word_cons, sum_exchange, multiple_undone, zero_sum, sum_zero, scale_sum, sum_scale, scale_scale, one_scale, zero_scale, scale_zero, sum_dot, scale_dot, dot_sum, dot_scale, zero_dot, dot_zero, positive_weight, weight_zero_word, difference_zero, no_later_antisymmetric, no_later_weight, sum_assoc}

pub span_word : (f : FieldName) (n : ℕ) (rows : List (List ℕ)) (w : List ℕ) → AreRows f n rows → InSpan f n rows w → IsWord f n w
span_word f n [] w r h = rw h (IsWord_zero f n)
span_word f n (g ∷ rows) w r h =
    let v = h.2.0 in
    let k : IsWord f n v = span_word f n rows v (All-tail (IsWord f n) g rows r) h.2.1 in
    let l : length (scale f h.0 g) ≡ n = length_scale f h.0 g ∙ (All-head (IsWord f n) g rows r).long in
    rw h.2.2 (IsWord_sum f n (scale f h.0 g) v l k.long)

pub span_zero : (f : FieldName) (n : ℕ) (rows : List (List ℕ)) → AreRows f n rows → InSpan f n rows (zero_word n)
span_zero f n [] r = refl
span_zero f n (g ∷ rows) r =
    (0, zero_inside f, (zero_word n, span_zero f n rows (All-tail (IsWord f n) g rows r), sym (ap (λ x. word_sum f x (zero_word n)) (zero_scale f n g (All-head (IsWord f n) g rows r).long) ∙ zero_sum f n (zero_word n) (IsWord_zero f n))))

pub span_sum : (f : FieldName) (n : ℕ) (rows : List (List ℕ)) (u v : List ℕ) → InSpan f n rows u → InSpan f n rows v → InSpan f n rows (word_sum f u v)
span_sum f n [] u v h k = cc (h, k, zero_sum f n (zero_word n) (IsWord_zero f n))
span_sum f n (g ∷ rows) u v h k =
    (add f h.0 k.0, add_inside f h.0 k.0, (word_sum f h.2.0 k.2.0, span_sum f n rows h.2.0 k.2.0 h.2.1 k.2.1, cc (h.2.2, k.2.2, sum_exchange f (scale f h.0 g) h.2.0 (scale f k.0 g) k.2.0, sum_scale f h.0 k.0 g)))

pub span_scale : (f : FieldName) (n : ℕ) (rows : List (List ℕ)) (a : ℕ) (u : List ℕ) → InSpan f n rows u → InSpan f n rows (scale f a u)
span_scale f n [] a u h = cc (h, scale_zero f a n)
span_scale f n (g ∷ rows) a u h =
    (mul f a h.0, mul_inside f a h.0, (scale f a h.2.0, span_scale f n rows a h.2.0 h.2.1, cc (h.2.2, scale_sum f a (scale f h.0 g) h.2.0, scale_scale f a h.0 g)))

pub span_difference : (f : FieldName) (n : ℕ) (rows : List (List ℕ)) (u v : List ℕ) → InSpan f n rows u → InSpan f n rows v → InSpan f n rows (difference f u v)
unfolding difference
span_difference f n rows u v h k = span_sum f n rows u (scale f (neg f 1) v) h (span_scale f n rows (neg f 1) v k)

pub span_head : (f : FieldName) (n : ℕ) (g : List ℕ) (rows : List (List ℕ)) → AreRows f n (g ∷ rows) → InSpan f n (g ∷ rows) g
span_head f n g rows r =
    let w : IsWord f n g = All-head (IsWord f n) g rows r in
    (1, one_inside f, (zero_word n, span_zero f n rows (All-tail (IsWord f n) g rows r), cc (one_scale f g w.fits, sum_zero f n g w)))

pub span_more : (f : FieldName) (n : ℕ) (g : List ℕ) (rows : List (List ℕ)) (w : List ℕ) → AreRows f n (g ∷ rows) → InSpan f n rows w → InSpan f n (g ∷ rows) w
span_more f n g rows w r h =
    (0, zero_inside f, (w, h, cc (zero_scale f n g (All-head (IsWord f n) g rows r).long, zero_sum f n w (span_word f n rows w (All-tail (IsWord f n) g rows r) h))))

pub span_row : (f : FieldName) (n : ℕ) (rows : List (List ℕ)) → AreRows f n rows → All (InSpan f n rows) rows
span_row f n [] r k d l = absurd (omega (arith, l))
span_row f n (g ∷ rows) r zero d l = span_head f n g rows r
span_row f n (g ∷ rows) r (suc k) d l = span_more f n g rows (slice_index_or rows k d) r (span_row f n rows (All-tail (IsWord f n) g rows r) k d (omega (arith, l)))

pub span_within : (f : FieldName) (n : ℕ) (rows others : List (List ℕ)) (w : List ℕ) → AreRows f n others → All (InSpan f n others) rows → InSpan f n rows w → InSpan f n others w
span_within f n [] others w r a h = rw h (span_zero f n others r)
span_within f n (g ∷ rows) others w r a h =
    let t : InSpan f n others (scale f h.0 g) = span_scale f n others h.0 g (All-head (InSpan f n others) g rows a) in
    rw h.2.2 (span_sum f n others (scale f h.0 g) h.2.0 t (span_within f n rows others h.2.0 r (All-tail (InSpan f n others) g rows a) h.2.1))

pub same_span : (f : FieldName) (n : ℕ) (rows others : List (List ℕ)) → AreRows f n rows → AreRows f n others → All (InSpan f n others) rows → All (InSpan f n rows) others → SameSpan f n rows others
same_span f n rows others r s a b w = (span_within f n rows others w s a, span_within f n others rows w r b)

pub same_span_reflexive : (f : FieldName) (n : ℕ) (rows : List (List ℕ)) → SameSpan f n rows rows
same_span_reflexive f n rows w = (λ h. h, λ h. h)

pub same_span_symmetric : (f : FieldName) (n : ℕ) (rows others : List (List ℕ)) → SameSpan f n rows others → SameSpan f n others rows
same_span_symmetric f n rows others s w = ((s w).1, (s w).0)

pub same_span_transitive : (f : FieldName) (n : ℕ) (rows others more : List (List ℕ)) → SameSpan f n rows others → SameSpan f n others more → SameSpan f n rows more
same_span_transitive f n rows others more s t w = (λ h. (t w).0 ((s w).0 h), λ h. (s w).1 ((t w).1 h))

pub combination_of_word : (f : FieldName) (n : ℕ) (rows : List (List ℕ)) (w : List ℕ) → InSpan f n rows w → (cs : List ℕ) × IsWord f (length rows) cs × (w ≡ combine f n cs rows)
unfolding combine
combination_of_word f n [] w h = ([], record { long = refl; fits = λ i l. absurd (omega (arith, l)) }, h)
combination_of_word f n (g ∷ rows) w h =
    let t = combination_of_word f n rows h.2.0 h.2.1 in
    (h.0 ∷ t.0, word_cons f (length rows) h.0 t.0 h.1 t.1, h.2.2 ∙ ap (word_sum f (scale f h.0 g)) t.2)

pub word_of_combination : (f : FieldName) (n : ℕ) (rows : List (List ℕ)) (cs : List ℕ) → IsWord f (length rows) cs → InSpan f n rows (combine f n cs rows)
unfolding combine
word_of_combination f n [] [] w = refl
word_of_combination f n [] (c ∷ cs) w = refl
word_of_combination f n (g ∷ rows) [] w = absurd (omega (arith, w.long))
word_of_combination f n (g ∷ rows) (c ∷ cs) w = (c, word_head f _ c cs w, (combine f n cs rows, word_of_combination f n rows cs (word_tail f (length rows) c cs w), refl))

pub combinations : (f : FieldName) (n : ℕ) (rows : List (List ℕ)) (w : List ℕ) → InSpan f n rows w ↔ ((cs : List ℕ) × IsWord f (length rows) cs × (w ≡ combine f n cs rows))
combinations f n rows w = (combination_of_word f n rows w, λ t. rw t.2 (word_of_combination f n rows t.0 t.1))

pub length_combine : (f : FieldName) (n : ℕ) (cs : List ℕ) (rows : List (List ℕ)) → AreRows f n rows → length (combine f n cs rows) ≡ n
unfolding combine
length_combine f n [] [] r = length_zero_word n
length_combine f n [] (g ∷ rows) r = length_zero_word n
length_combine f n (c ∷ cs) [] r = length_zero_word n
length_combine f n (c ∷ cs) (g ∷ rows) r =
    let t : length (combine f n cs rows) ≡ n = length_combine f n cs rows (All-tail (IsWord f n) g rows r) in
    length_word_sum f (scale f c g) (combine f n cs rows) (length_scale f c g ∙ (All-head (IsWord f n) g rows r).long ∙ sym t) ∙ t

pub combine_sum : (f : FieldName) (n : ℕ) (cs ds : List ℕ) (rows : List (List ℕ)) → length cs ≡ length ds → combine f n (word_sum f cs ds) rows ≡ word_sum f (combine f n cs rows) (combine f n ds rows)
unfolding combine word_sum
combine_sum f n [] [] rows e = sym (zero_sum f n (zero_word n) (IsWord_zero f n))
combine_sum f n [] (d ∷ ds) rows e = absurd (omega (arith, e))
combine_sum f n (c ∷ cs) [] rows e = absurd (omega (arith, e))
combine_sum f n (c ∷ cs) (d ∷ ds) [] e = sym (zero_sum f n (zero_word n) (IsWord_zero f n))
combine_sum f n (c ∷ cs) (d ∷ ds) (g ∷ rows) e =
    let t : combine f n (word_sum f cs ds) rows ≡ word_sum f (combine f n cs rows) (combine f n ds rows) = combine_sum f n cs ds rows (omega (arith, e)) in
    cc (t, sum_scale f c d g, sum_exchange f (scale f c g) (scale f d g) (combine f n cs rows) (combine f n ds rows))

pub combine_scale : (f : FieldName) (n a : ℕ) (cs : List ℕ) (rows : List (List ℕ)) → combine f n (scale f a cs) rows ≡ scale f a (combine f n cs rows)
unfolding combine scale
combine_scale f n a [] rows = sym (scale_zero f a n)
combine_scale f n a (c ∷ cs) [] = sym (scale_zero f a n)
combine_scale f n a (c ∷ cs) (g ∷ rows) =
    cc (combine_scale f n a cs rows, scale_scale f a c g, scale_sum f a (scale f c g) (combine f n cs rows))

pub combine_difference : (f : FieldName) (n : ℕ) (cs ds : List ℕ) (rows : List (List ℕ)) → length cs ≡ length ds → combine f n (difference f cs ds) rows ≡ difference f (combine f n cs rows) (combine f n ds rows)
unfolding difference
combine_difference f n cs ds rows e =
    combine_sum f n cs (scale f (neg f 1) ds) rows (e ∙ sym (length_scale f (neg f 1) ds)) ∙ ap (word_sum f (combine f n cs rows)) (combine_scale f n (neg f 1) ds rows)

pub coefficients_unique : (f : FieldName) (n : ℕ) (rows : List (List ℕ)) (cs ds : List ℕ) → AreRows f n rows → AreIndependent f n rows → IsWord f (length rows) cs → IsWord f (length rows) ds → combine f n cs rows ≡ combine f n ds rows → cs ≡ ds
coefficients_unique f n rows cs ds r i p q e =
    let z : combine f n (difference f cs ds) rows ≡ zero_word n = combine_difference f n cs ds rows (p.long ∙ sym q.long) ∙ ap (λ w. difference f w (combine f n ds rows)) e ∙ difference_self f n (combine f n ds rows) (length_combine f n ds rows r) in
    same_from_difference f (length rows) cs ds p q (i (difference f cs ds) (IsWord_difference f (length rows) cs ds p.long q.long) z)

pub independent_from_unique : (f : FieldName) (n : ℕ) (rows : List (List ℕ)) → ((cs ds : List ℕ) → IsWord f (length rows) cs → IsWord f (length rows) ds → combine f n cs rows ≡ combine f n ds rows → cs ≡ ds) → AreIndependent f n rows
independent_from_unique f n rows h cs w e =
    let z : combine f n (scale f 0 cs) rows ≡ zero_word n = combine_scale f n 0 cs rows ∙ ap (scale f 0) e ∙ scale_zero f 0 n in
    h cs (zero_word (length rows)) w (IsWord_zero f (length rows)) (e ∙ sym (ap (λ x. combine f n x rows) (sym (zero_scale f (length rows) cs w.long)) ∙ z))

pub dot_span : (f : FieldName) (n : ℕ) (rows : List (List ℕ)) (v w : List ℕ) → AreRows f n rows → IsOrthogonal f rows v → InSpan f n rows w → word_dot f w v ≡ 0
dot_span f n [] v w r o h = ap (λ x. word_dot f x v) h ∙ zero_dot f n v
dot_span f n (g ∷ rows) v w r o h =
    let tail = All-tail (IsWord f n) g rows r in
    let k : word_dot f h.2.0 v ≡ 0 = dot_span f n rows v h.2.0 tail (All-tail (λ row. word_dot f row v ≡ 0) g rows o) h.2.1 in
    let l : word_dot f g v ≡ 0 = All-head (λ row. word_dot f row v ≡ 0) g rows o in
    let e : length (scale f h.0 g) ≡ length h.2.0 = length_scale f h.0 g ∙ (All-head (IsWord f n) g rows r).long ∙ sym (span_word f n rows h.2.0 tail h.2.1).long in
    cc (h.2.2, sum_dot f (scale f h.0 g) h.2.0 v e, scale_dot f h.0 g v, k, l, mul_zero f h.0, zero_add f 0 (zero_inside f))

pub orthogonal_zero : (f : FieldName) (n : ℕ) (rows : List (List ℕ)) → IsOrthogonal f rows (zero_word n)
orthogonal_zero f n rows k d l = dot_zero f n (slice_index_or rows k d)

pub orthogonal_sum : (f : FieldName) (rows : List (List ℕ)) (u v : List ℕ) → length u ≡ length v → IsOrthogonal f rows u → IsOrthogonal f rows v → IsOrthogonal f rows (word_sum f u v)
orthogonal_sum f rows u v e p q k d l = cc (dot_sum f (slice_index_or rows k d) u v e, p k d l, q k d l, zero_add f 0 (zero_inside f))

pub orthogonal_scale : (f : FieldName) (rows : List (List ℕ)) (c : ℕ) (u : List ℕ) → IsOrthogonal f rows u → IsOrthogonal f rows (scale f c u)
orthogonal_scale f rows c u p k d l = cc (dot_scale f c (slice_index_or rows k d) u, p k d l, mul_zero f c)

pub orthogonal_shared : (f : FieldName) (n : ℕ) (rows others : List (List ℕ)) (v : List ℕ) → AreRows f n rows → AreRows f n others → SameSpan f n rows others → IsOrthogonal f rows v → IsOrthogonal f others v
orthogonal_shared f n rows others v r s same o k d l =
    dot_span f n rows v (slice_index_or others k d) r o ((same (slice_index_or others k d)).1 (span_row f n others s k d l))

pub contains_head : {X : Type 0} (x : X) (xs : List X) → Contains (x ∷ xs) x
contains_head x xs = (0, zero-lt-suc (length xs), refl)

pub contains_tail : {X : Type 0} (x y : X) (xs : List X) → Contains xs y → Contains (x ∷ xs) y
contains_tail x y xs h = (suc h.0, omega (arith, h.1), h.2)

pub contains_cases : {X : Type 0} (x y : X) (xs : List X) → Contains (x ∷ xs) y → (x ≡ y) ⊎ Contains xs y
contains_cases x y xs (zero, l, e) = inl e
contains_cases x y xs (suc k, l, e) = inr (k, omega (arith, l), e)

pub map_contains : {X Y : Type 0} (h : X → Y) (xs : List X) (x : X) → Contains xs x → Contains (map h xs) (h x)
map_contains h [] x c = absurd (omega (arith, c.1))
map_contains h (a ∷ xs) x c =
    ⊎_elim
    (λ e. subst (λ t. Contains (h a ∷ map h xs) (h t)) e (contains_head (h a) (map h xs)))
    (λ t. contains_tail (h a) (h x) (map h xs) (map_contains h xs x t))
    (contains_cases a x xs c)

pub contains_map : {X Y : Type 0} (h : X → Y) (xs : List X) (y : Y) → Contains (map h xs) y → (x : X) × Contains xs x × (y ≡ h x)
contains_map h [] y c = absurd (omega (arith, c.1))
contains_map {X} {Y} h (a ∷ xs) y c =
    ⊎_elim
    (λ e. (a, contains_head a xs, sym e))
    (λ t. let s = contains_map h xs y t in (s.0, contains_tail a s.0 xs s.1, s.2))
    (contains_cases (h a) y (map h xs) c)

pub flat_map_contains : {X Y : Type 0} (h : X → List Y) (xs : List X) (x : X) (y : Y) → Contains xs x → Contains (h x) y → Contains (flat_map h xs) y
flat_map_contains h [] x y c d = absurd (omega (arith, c.1))
flat_map_contains h (a ∷ xs) x y c d =
    ⊎_elim
    (λ e. Contains-append_left (h a) (flat_map h xs) y (subst (λ t. Contains (h t) y) (sym e) d))
    (λ t. Contains-append_right (h a) (flat_map h xs) y (flat_map_contains h xs x y t d))
    (contains_cases a x xs c)

pub contains_flat_map : {X Y : Type 0} (h : X → List Y) (xs : List X) (y : Y) → Contains (flat_map h xs) y → (x : X) × Contains xs x × Contains (h x) y
contains_flat_map h [] y c = absurd (omega (arith, c.1))
contains_flat_map h (a ∷ xs) y c =
    ⊎_elim
    (λ t. (a, contains_head a xs, t))
    (λ t. let s = contains_flat_map h xs y t in (s.0, contains_tail a s.0 xs s.1, s.2))
    (Contains-append_cases (h a) (flat_map h xs) y c)

pub contains_below : (n c : ℕ) → Contains (below n) c → c < n
unfolding below
contains_below zero c h = absurd (omega (arith, h.1))
contains_below (suc n) c h =
    ⊎_elim
    (λ t. omega (arith, contains_below n c t))
    (λ t. ⊎_elim (λ e. omega (arith, e)) (λ s. absurd (omega (arith, s.1))) (contains_cases n c [] t))
    (Contains-append_cases (below n) (n ∷ []) c h)

pub below_contains : (n c : ℕ) → c < n → Contains (below n) c
unfolding below
below_contains zero c l = absurd (omega (arith, l))
below_contains (suc n) c l =
    ⊎_elim
    (λ k. Contains-append_left (below n) (n ∷ []) c (below_contains n c k))
    (λ k. Contains-append_right (below n) (n ∷ []) c (0, zero-lt-suc 0, omega (arith, k, l)))
    (cases_lt c n)

pub length_below : (n : ℕ) → length (below n) ≡ n
unfolding below
length_below zero = refl
length_below (suc n) = length-append (below n) (n ∷ []) ∙ omega (arith, length_below n)

pub word_of_member : (f : FieldName) (n : ℕ) (rows : List (List ℕ)) (w : List ℕ) → Contains (words f n rows) w → InSpan f n rows w
unfolding words
word_of_member f n [] w h = ⊎_elim (λ e. sym e) (λ s. absurd (omega (arith, s.1))) (contains_cases (zero_word n) w [] h)
word_of_member f n (g ∷ rows) w h =
    let s = contains_flat_map (λ c. map (λ v. word_sum f (scale f c g) v) (words f n rows)) (below (size f)) w h in
    let t = contains_map (λ v. word_sum f (scale f s.0 g) v) (words f n rows) w s.2 in
    (s.0, contains_below (size f) s.0 s.1, (t.0, word_of_member f n rows t.0 t.1, t.2))

pub member_of_word : (f : FieldName) (n : ℕ) (rows : List (List ℕ)) (w : List ℕ) → InSpan f n rows w → Contains (words f n rows) w
unfolding words
member_of_word f n [] w h = rw h (contains_head (zero_word n) [])
member_of_word f n (g ∷ rows) w h =
    let t = map_contains (λ v. word_sum f (scale f h.0 g) v) (words f n rows) h.2.0 (member_of_word f n rows h.2.0 h.2.1) in
    rw h.2.2 (flat_map_contains (λ c. map (λ v. word_sum f (scale f c g) v) (words f n rows)) (below (size f)) h.0 (word_sum f (scale f h.0 g) h.2.0) (below_contains (size f) h.0 h.1) t)

pub length_flat_map_even : {X Y : Type 0} (h : X → List Y) (m : ℕ) → ((x : X) → length (h x) ≡ m) → (xs : List X) → length (flat_map h xs) ≡ length xs * m
length_flat_map_even h m e [] = omega arith
length_flat_map_even h m e (x ∷ xs) = length-append (h x) (flat_map h xs) ∙ omega (arith, e x, length_flat_map_even h m e xs)

pub length_words : (f : FieldName) (n : ℕ) (rows : List (List ℕ)) → length (words f n rows) ≡ size f ^ length rows
unfolding words
length_words f n [] = sym (pow-zero (size f))
length_words f n (g ∷ rows) =
    length_flat_map_even (λ c. map (λ v. word_sum f (scale f c g) v) (words f n rows)) (size f ^ length rows) (λ c. length-map (words f n rows) (λ v. word_sum f (scale f c g) v) ∙ length_words f n rows) (below (size f))
    ∙ ap (λ x. x * size f ^ length rows) (length_below (size f)) ∙ omega (arith, pow-suc (size f) (length rows))

pub same_word_decided : (u v : List ℕ) → (u ≡ v) ⊎ (u ≡ v → ⊥)
same_word_decided [] [] = inl refl
same_word_decided [] (b ∷ v) = inr (λ e. omega (arith, ap length e))
same_word_decided (a ∷ u) [] = inr (λ e. omega (arith, ap length e))
same_word_decided (a ∷ u) (b ∷ v) =
    ⊎_elim
    (λ e. ⊎_elim
    (λ t. inl (cc (e, t)))
    (λ n. inr (λ t. n (cc t)))
    (same_word_decided u v))
    (λ n. inr (λ t. n (cc t)))
    (cases_eq a b)

pub contains_decided : {X : Type 0} → ((x y : X) → (x ≡ y) ⊎ (x ≡ y → ⊥)) → (xs : List X) (w : X) → Contains xs w ⊎ (Contains xs w → ⊥)
contains_decided same [] w = inr (λ h. omega (arith, h.1))
contains_decided same (x ∷ xs) w =
    ⊎_elim
    (λ e. inl (subst (λ t. Contains (x ∷ xs) t) e (contains_head x xs)))
    (λ n. ⊎_elim
    (λ t. inl (contains_tail x w xs t))
    (λ m. inr (λ h. ⊎_elim n m (contains_cases x w xs h)))
    (contains_decided same xs w))
    (same x w)

pub span_decided : (f : FieldName) (n : ℕ) (rows : List (List ℕ)) (w : List ℕ) → InSpan f n rows w ⊎ (InSpan f n rows w → ⊥)
span_decided f n rows w = ⊎_elim (λ h. inl (word_of_member f n rows w h)) (λ m. inr (λ h. m (member_of_word f n rows w h))) (contains_decided same_word_decided (words f n rows) w)

pub span_multiples_added : (f : FieldName) (n r : ℕ) (rows others : List (List ℕ)) → r < length rows → AreRows f n rows → AddsMultiples f r rows others → AreRows f n others × SameSpan f n rows others
span_multiples_added f n r rows others l a s =
    let g = slice_index_or rows r [] in
    let own : All (InSpan f n rows) rows = span_row f n rows a in
    let long : (i : ℕ) → i < length others → i < length rows = λ i k. omega (arith, k, s.count) in
    let back : (i : ℕ) → i < length rows → i < length others = λ i k. omega (arith, k, s.count) in
    let fits : AreRows f n others = All-from_get_or (IsWord f n) others [] (λ i k. ⊎_elim
    (λ e. rw e (rw s.kept (a r [] l)))
    (λ m. let t = s.added i (long i k) m in rw t.1 (IsWord_sum f n (slice_index_or rows i []) (scale f t.0 g) (a i [] (long i k)).long (length_scale f t.0 g ∙ (a r [] l).long)))
    (cases_eq i r)) in
    let there : All (InSpan f n rows) others = All-from_get_or (InSpan f n rows) others [] (λ i k. ⊎_elim
    (λ e. rw e (rw s.kept (own r [] l)))
    (λ m. let t = s.added i (long i k) m in rw t.1 (span_sum f n rows (slice_index_or rows i []) (scale f t.0 g) (own i [] (long i k)) (span_scale f n rows t.0 g (own r [] l))))
    (cases_eq i r)) in
    let theirs : All (InSpan f n others) others = span_row f n others fits in
    let first : InSpan f n others g = subst (InSpan f n others) s.kept (theirs r [] (back r l)) in
    let here : All (InSpan f n others) rows = All-from_get_or (InSpan f n others) rows [] (λ i k. ⊎_elim
    (λ e. rw e first)
    (λ m. let t = s.added i k m in
    let u : InSpan f n others (word_sum f (slice_index_or rows i []) (scale f t.0 g)) = subst (InSpan f n others) t.1 (theirs i [] (back i k)) in
    subst (InSpan f n others) (multiple_undone f n t.0 (slice_index_or rows i []) g (a i [] k) (a r [] l).long) (span_sum f n others (word_sum f (slice_index_or rows i []) (scale f t.0 g)) (scale f (neg f t.0) g) u (span_scale f n others (neg f t.0) g first)))
    (cases_eq i r)) in
    (fits, same_span f n rows others a fits here there)

pub span_rows_scaled : (f : FieldName) (n : ℕ) (rows others : List (List ℕ)) → AreRows f n rows → ScalesRows f rows others → AreRows f n others × SameSpan f n rows others
span_rows_scaled f n rows others a s =
    let own : All (InSpan f n rows) rows = span_row f n rows a in
    let long : (i : ℕ) → i < length others → i < length rows = λ i k. omega (arith, k, s.count) in
    let back : (i : ℕ) → i < length rows → i < length others = λ i k. omega (arith, k, s.count) in
    let fits : AreRows f n others = All-from_get_or (IsWord f n) others [] (λ i k. let t = s.scaled i (long i k) in rw t.3 (IsWord_scale f n t.0 (slice_index_or rows i []) (a i [] (long i k)).long)) in
    let there : All (InSpan f n rows) others = All-from_get_or (InSpan f n rows) others [] (λ i k. let t = s.scaled i (long i k) in rw t.3 (span_scale f n rows t.0 (slice_index_or rows i []) (own i [] (long i k)))) in
    let theirs : All (InSpan f n others) others = span_row f n others fits in
    let here : All (InSpan f n others) rows = All-from_get_or (InSpan f n others) rows [] (λ i k.
    let t = s.scaled i k in
    let b = inverse_of f t.0 t.1 t.2 in
    let e : scale f b.0 (slice_index_or others i []) ≡ slice_index_or rows i [] = cc (t.3, scale_scale f b.0 t.0 (slice_index_or rows i []), mul_comm f b.0 t.0, b.1.one, one_scale f (slice_index_or rows i []) (a i [] k).fits) in
    subst (InSpan f n others) e (span_scale f n others b.0 (slice_index_or others i []) (theirs i [] (back i k)))) in
    (fits, same_span f n rows others a fits here there)

pub span_multiple_added : (f : FieldName) (n i r c : ℕ) (rows : List (List ℕ)) → i < length rows → r < length rows → i ≢ r → AreRows f n rows → SameSpan f n rows (set rows i (word_sum f (slice_index_or rows i []) (scale f c (slice_index_or rows r []))))
span_multiple_added f n i r c rows k l m a =
    let g = slice_index_or rows r [] in
    let new = word_sum f (slice_index_or rows i []) (scale f c g) in
    let steps : AddsMultiples f r rows (set rows i new) = record {
      count = length-set rows i new;
      kept = get_or-set_other rows i r new [] (λ e. m (sym e));
      added = λ j h d. ⊎_elim
          (λ e. (c, rw e (get_or-set_same rows i new [] k)))
          (λ o. (0, get_or-set_other rows i j new [] o ∙ sym (ap (word_sum f (slice_index_or rows j [])) (zero_scale f n g (a r [] l).long) ∙ sum_zero f n (slice_index_or rows j []) (a j [] h))))
          (cases_eq j i);
    } in
    (span_multiples_added f n r rows (set rows i new) l a steps).1

pub span_row_scaled : (f : FieldName) (n i c : ℕ) (rows : List (List ℕ)) → i < length rows → c < size f → 0 < c → AreRows f n rows → SameSpan f n rows (set rows i (scale f c (slice_index_or rows i [])))
span_row_scaled f n i c rows k h p a =
    let new = scale f c (slice_index_or rows i []) in
    let steps : ScalesRows f rows (set rows i new) = record {
      count = length-set rows i new;
      scaled = λ j l. ⊎_elim
          (λ e. (c, h, p, rw e (get_or-set_same rows i new [] k)))
          (λ o. (1, one_inside f, omega arith, get_or-set_other rows i j new [] o ∙ sym (one_scale f (slice_index_or rows j []) (a j [] l).fits)))
          (cases_eq j i);
    } in
    (span_rows_scaled f n rows (set rows i new) a steps).1

pub span_but_zeros : (f : FieldName) (n : ℕ) (rows others : List (List ℕ)) → AreRows f n rows → AreRows f n others → All (λ g. (g ≡ zero_word n) ⊎ Contains others g) rows → All (λ g. (g ≡ zero_word n) ⊎ Contains rows g) others → SameSpan f n rows others
span_but_zeros f n rows others r s a b =
    let among : (xs : List (List ℕ)) → AreRows f n xs → (g : List ℕ) → (g ≡ zero_word n) ⊎ Contains xs g → InSpan f n xs g =
    λ xs t g h. ⊎_elim (λ e. subst (InSpan f n xs) (sym e) (span_zero f n xs t)) (λ c. All-contains (InSpan f n xs) xs g (span_row f n xs t) c) h in
    same_span f n rows others r s (λ k d l. among others s (slice_index_or rows k d) (a k d l)) (λ k d l. among rows r (slice_index_or others k d) (b k d l))

pub span_same_members : (f : FieldName) (n : ℕ) (rows others : List (List ℕ)) → AreRows f n rows → AreRows f n others → ((g : List ℕ) → Contains rows g ↔ Contains others g) → SameSpan f n rows others
span_same_members f n rows others r s m =
    span_but_zeros f n rows others r s (λ k d l. inr ((m (slice_index_or rows k d)).0 (Contains-get_or rows k d l))) (λ k d l. inr ((m (slice_index_or others k d)).1 (Contains-get_or others k d l)))

pub span_permuted : (f : FieldName) (n : ℕ) (rows others : List (List ℕ)) → AreRows f n rows → IsPermutation rows others → SameSpan f n rows others
span_permuted f n rows others r p =
    let s : AreRows f n others = All-permutation (IsWord f n) rows others p r in
    same_span f n rows others r s (All-permutation (InSpan f n others) others rows (IsPermutation-sym rows others p) (span_row f n others s)) (All-permutation (InSpan f n rows) rows others p (span_row f n rows r))

pub span_swapped : (f : FieldName) (n i j : ℕ) (rows : List (List ℕ)) → i < length rows → j < length rows → AreRows f n rows → SameSpan f n rows (swap rows i j)
span_swapped f n i j rows k l r = span_permuted f n rows (swap rows i j) r (IsPermutation-swap rows (swap rows i j) i j k l refl)

pub span_zero_head : (f : FieldName) (n : ℕ) (g : List ℕ) (rows : List (List ℕ)) → g ≡ zero_word n → AreRows f n rows → SameSpan f n (g ∷ rows) rows
span_zero_head f n g rows e r =
    let w : IsWord f n g = rw e (IsWord_zero f n) in
    let z : InSpan f n rows g = rw e (span_zero f n rows r) in
    let s : AreRows f n (g ∷ rows) = All-cons (IsWord f n) g rows w r in
    same_span f n (g ∷ rows) rows s r (All-cons (InSpan f n rows) g rows z (span_row f n rows r)) (All-tail (InSpan f n (g ∷ rows)) g rows (span_row f n (g ∷ rows) s))

pub span_zero_removed : (f : FieldName) (n i : ℕ) (rows : List (List ℕ)) → i < length rows → slice_index_or rows i [] ≡ zero_word n → AreRows f n rows → SameSpan f n rows (remove rows i)
span_zero_removed f n i rows l e r =
    let g = slice_index_or rows i [] in
    let p : IsPermutation rows (g ∷ remove rows i) = IsPermutation-remove rows i g l (get_or_default rows i [] g l) in
    let s : AreRows f n (remove rows i) = All-tail (IsWord f n) g (remove rows i) (All-permutation (IsWord f n) rows (g ∷ remove rows i) p r) in
    same_span_transitive f n rows (g ∷ remove rows i) (remove rows i) (span_permuted f n rows (g ∷ remove rows i) r p) (span_zero_head f n g (remove rows i) e s)

pub distance_unique : (f : FieldName) (n : ℕ) (rows : List (List ℕ)) (d e : ℕ) → IsDistance f n rows d → IsDistance f n rows e → d ≡ e
distance_unique f n rows d e p q =
    omega (arith, p.least q.attained.0 q.attained.1 q.attained.2, q.least p.attained.0 p.attained.1 p.attained.2, p.attained.3, q.attained.3)

pub span_lengths : (f : FieldName) (n : ℕ) (rows : List (List ℕ)) (u v : List ℕ) → InSpan f n rows u → InSpan f n rows v → length u ≡ length v
span_lengths f n [] u v p q = ap (λ (w : List ℕ). length w) (p ∙ sym q)
span_lengths f n (g ∷ rows) u v p q =
    let tails : length p.2.0 ≡ length q.2.0 = span_lengths f n rows p.2.0 q.2.0 p.2.1 q.2.1 in
    let heads : length (scale f p.0 g) ≡ length (scale f q.0 g) = length_scale f p.0 g ∙ sym (length_scale f q.0 g) in
    ap (λ (w : List ℕ). length w) p.2.2 ∙ length_sums f (scale f p.0 g) (scale f q.0 g) p.2.0 q.2.0 heads tails ∙ sym (ap (λ (w : List ℕ). length w) q.2.2)

pub weight_bound_attained : (f : FieldName) (n : ℕ) (rows : List (List ℕ)) (d : ℕ) (w : List ℕ) → IsWeightBound f n rows d → InSpan f n rows w → 0 < weight w → weight w ≡ d → IsDistance f n rows d
weight_bound_attained f n rows d w b c p e = record { attained = (w, c, p, e); least = b }

pub weight_bound_at_most : (f : FieldName) (n : ℕ) (rows : List (List ℕ)) (d e : ℕ) → IsWeightBound f n rows d → IsDistance f n rows e → d ≤ e
weight_bound_at_most f n rows d e b k = let (w, c, p, q) = k.attained in omega (arith, q, b w c p)

pub weight_bound_apart : (f : FieldName) (n : ℕ) (rows : List (List ℕ)) (d : ℕ) (u v : List ℕ) → AreRows f n rows → IsWeightBound f n rows d → InSpan f n rows u → InSpan f n rows v → u ≢ v → d ≤ distance f u v
weight_bound_apart f n rows d u v r b p q k =
    let wu = span_word f n rows u r p in
    let wv = span_word f n rows v r q in
    b (difference f u v) (span_difference f n rows u v p q)
    (positive_weight n (difference f u v) (IsWord_difference f n u v wu.long wv.long).long (λ e. k (same_from_difference f n u v wu wv e)))

pub least_unique : (f : FieldName) (n : ℕ) (rows : List (List ℕ)) (u v : List ℕ) → IsLeast f n rows u → IsLeast f n rows v → u ≡ v
least_unique f n rows u v p q = no_later_antisymmetric u v (span_lengths f n rows u v p.inside q.inside) (p.first v q.inside q.nonzero) (q.first u p.inside p.nonzero)

pub least_distance : (f : FieldName) (n : ℕ) (rows : List (List ℕ)) (w : List ℕ) → IsLeast f n rows w → IsDistance f n rows (weight w)
least_distance f n rows w p = record { attained = (w, p.inside, p.nonzero, refl); least = λ v h l. no_later_weight w v (p.first v h l) }

pub words_apart : (f : FieldName) (n : ℕ) (rows : List (List ℕ)) (d : ℕ) (u v : List ℕ) → AreRows f n rows → IsDistance f n rows d → InSpan f n rows u → InSpan f n rows v → u ≢ v → d ≤ distance f u v
words_apart f n rows d u v r p = weight_bound_apart f n rows d u v r p.least

pub words_at_distance : (f : FieldName) (n : ℕ) (rows : List (List ℕ)) (d : ℕ) → AreRows f n rows → IsDistance f n rows d → (u : List ℕ) × InSpan f n rows u × (u ≢ zero_word n) × (distance f u (zero_word n) ≡ d)
words_at_distance f n rows d r p =
    let t = p.attained in
    (t.0, t.1, (λ e. omega (arith, t.2, ap weight e, weight_zero_word n)), ap weight (difference_zero f n t.0 (span_word f n rows t.0 r t.1)) ∙ t.3)

pub distance_shared : (f : FieldName) (n : ℕ) (rows others : List (List ℕ)) (d : ℕ) → SameSpan f n rows others → IsDistance f n rows d → IsDistance f n others d
distance_shared f n rows others d s p = record {
  attained = (p.attained.0, (s p.attained.0).0 p.attained.1, p.attained.2, p.attained.3);
  least = λ v h k. p.least v ((s v).1 h) k;
}

pub least_shared : (f : FieldName) (n : ℕ) (rows others : List (List ℕ)) (w : List ℕ) → SameSpan f n rows others → IsLeast f n rows w → IsLeast f n others w
least_shared f n rows others w s p = record { inside = (s w).0 p.inside; nonzero = p.nonzero; first = λ v h k. p.first v ((s v).1 h) k }

pub combine_cons : (f : FieldName) (n c : ℕ) (cs g : List ℕ) (rows : List (List ℕ)) → combine f n (c ∷ cs) (g ∷ rows) ≡ word_sum f (scale f c g) (combine f n cs rows)
unfolding combine
combine_cons f n c cs g rows = refl

pub combine_none : (f : FieldName) (n : ℕ) (rows : List (List ℕ)) → combine f n [] rows ≡ zero_word n
unfolding combine
combine_none f n [] = refl
combine_none f n (g ∷ rows) = refl

pub combine_is_word : (f : FieldName) (n : ℕ) (cs : List ℕ) (rows : List (List ℕ)) → AreRows f n rows → IsWord f n (combine f n cs rows)
unfolding combine
combine_is_word f n [] rows r = IsWord_zero f n
combine_is_word f n (c ∷ cs) [] r = IsWord_zero f n
combine_is_word f n (c ∷ cs) (g ∷ rows) r =
    let tail = All-tail (IsWord f n) g rows r in
    IsWord_sum f n (scale f c g) (combine f n cs rows) (length_scale f c g ∙ (All-head (IsWord f n) g rows r).long) (length_combine f n cs rows tail)

pub combine_append : (f : FieldName) (n : ℕ) (ds es : List ℕ) (xs ys : List (List ℕ)) → length ds ≡ length xs → AreRows f n ys → combine f n (ds ++ es) (xs ++ ys) ≡ word_sum f (combine f n ds xs) (combine f n es ys)
unfolding combine
combine_append f n [] es [] ys l r = sym (zero_sum f n (combine f n es ys) (combine_is_word f n es ys r))
combine_append f n [] es (x ∷ xs) ys l r = absurd (omega (arith, l))
combine_append f n (d ∷ ds) es [] ys l r = absurd (omega (arith, l))
combine_append f n (d ∷ ds) es (x ∷ xs) ys l r =
    ap (word_sum f (scale f d x)) (combine_append f n ds es xs ys (omega (arith, l)) r)
    ∙ sym (sum_assoc f (scale f d x) (combine f n ds xs) (combine f n es ys))

pub span_of_member : (f : FieldName) (n : ℕ) (rows : List (List ℕ)) (w : List ℕ) → AreRows f n rows → Contains rows w → InSpan f n rows w
span_of_member f n rows w r c = All-contains (InSpan f n rows) rows w (span_row f n rows r) c

pub index_below : (n i d : ℕ) → i < n → slice_index_or (below n) i d ≡ i
unfolding below
index_below zero i d l = absurd (omega (arith, l))
index_below (suc n) i d l =
    ⊎_elim
    (λ m. get_or_append_left (below n) (n ∷ []) d i (omega (arith, m, length_below n)) ∙ index_below n i d m)
    (λ m. let e : i ≡ n = omega (arith, l, m) in subst (λ k. slice_index_or (below n ++ n ∷ []) k d ≡ i) (length_below n ∙ sym e) (get_or-append_seam (below n) n [] d ∙ sym e))
    (cases_lt i n)
