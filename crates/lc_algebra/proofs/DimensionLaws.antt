-- The number of words of independent rows, and the dimension of a code.
--   AreDistinct xs         no entry of xs occurs again after it
--   pairs_from_distinct, distinct_from_pairs      so any two entries differ
--   distinct_append, distinct_map, distinct_flat_map, distinct_below      lists of different entries
--   distinct_at_most       a list of different entries that all stand in another is no longer than that
--   independent_tail       the rows after the first of independent rows are independent
--   words_distinct         the list of words of independent rows has each word once
--   exponent_at_most       of two powers of q the smaller one has the smaller exponent
--   independent_at_most    independent rows are at most as many as any rows with the same words
--   dimension_unique       independent rows with the same words are equally many
--   all_words, length_all_words, all_words_contain      the list of all words of a length
--   independent_few        independent rows are at most as many as their symbols
use Rattle.std.proofs.Common.{◌≡◌, ◌≢◌, ℕ, zero, suc, ◌*◌, ◌^◌, ◌<◌, ◌≤◌, List, [], ◌∷◌, ◌++◌, map, length, AllPairs, Contains, IsPermutation, flat_map, remove, sym, ap, subst, ◌∙◌, ⊎_elim, arith, pow-suc, mul-le-mul_right}
use Rattle.std.specs.Prelude.{⊤}
use Rattle.std.proofs.Math.Nat.{mul_comm, pow-zero, pow-le-pow_right, one-le-pow}
use Rattle.std.proofs.lemmas.List.{length-map}
use Rattle.std.proofs.lemmas.List.Elements.{All-head, All-tail, Contains-get_or, Contains-append_cases}
use Rattle.std.proofs.lemmas.List.Edits.{length-remove}
use Rattle.std.proofs.lemmas.List.Sorted.{IsPermutation-remove, Contains-permutation}
use Rattle.std.proofs.lemmas.Bool.{cases_lt}
use Rattle.lc_algebra.specs.declared.FieldName.{FieldName}
use Rattle.lc_algebra.specs.Field.{size}
use Rattle.lc_algebra.specs.Word.{IsWord, zero_word, word_sum, scale}
use Rattle.lc_algebra.specs.Span.{below, combine, InSpan, words, SameSpan, AreIndependent}
use Rattle.lc_algebra.specs.Matrix.{AreRows}
use Rattle.lc_algebra.proofs.FieldLaws.{zero_inside, one_inside}
use Rattle.lc_algebra.proofs.WordLaws.{zero_scale, zero_sum, IsWord_zero, word_cons, word_head, word_tail}
use Rattle.lc_algebra.proofs.SpanLaws.{contains_head, contains_tail, contains_cases, contains_map, contains_flat_map, contains_below, map_contains, flat_map_contains, below_contains, length_below, length_flat_map_even, span_word, combination_of_word, coefficients_unique, word_of_member, member_of_word, length_words}

abbrev pub AreDistinct : {X : Type 0} → List X → Type 0
AreDistinct [] = ⊤
AreDistinct (x ∷ xs) = (Contains xs x → ⊥) × AreDistinct xs

pub pairs_from_distinct : {X : Type 0} (xs : List X) → AreDistinct xs → AllPairs (λ x y. x ≢ y) xs
pairs_from_distinct [] h i j d l m = absurd (omega (arith, m))
pairs_from_distinct (x ∷ xs) h zero zero d l m = absurd (omega (arith, l))
pairs_from_distinct (x ∷ xs) h zero (suc j) d l m = λ e. h.0 (subst (Contains xs) (sym e) (Contains-get_or xs j d (omega (arith, m))))
pairs_from_distinct (x ∷ xs) h (suc i) zero d l m = absurd (omega (arith, l))
pairs_from_distinct (x ∷ xs) h (suc i) (suc j) d l m = pairs_from_distinct xs h.1 i j d (omega (arith, l)) (omega (arith, m))

pub distinct_from_pairs : {X : Type 0} (xs : List X) → AllPairs (λ x y. x ≢ y) xs → AreDistinct xs
distinct_from_pairs [] h = tt
distinct_from_pairs (x ∷ xs) h = ((λ c. h 0 (suc c.0) x (omega arith) (omega (arith, c.1)) (sym c.2)), distinct_from_pairs xs (λ i j d l m. h (suc i) (suc j) d (omega (arith, l)) (omega (arith, m))))

pub distinct_append : {X : Type 0} (xs ys : List X) → AreDistinct xs → AreDistinct ys → ((x : X) → Contains xs x → Contains ys x → ⊥) → AreDistinct (xs ++ ys)
distinct_append [] ys a b h = b
distinct_append (x ∷ xs) ys a b h = (
  (λ c. ⊎_elim a.0 (h x (contains_head x xs)) (Contains-append_cases xs ys x c)),
  distinct_append xs ys a.1 b (λ y c d. h y (contains_tail x y xs c) d),
)

pub distinct_map : {X Y : Type 0} (h : X → Y) (xs : List X) → ((x y : X) → Contains xs x → Contains xs y → h x ≡ h y → x ≡ y) → AreDistinct xs → AreDistinct (map h xs)
distinct_map h [] inj a = tt
distinct_map h (x ∷ xs) inj a = (
  (λ c. let t = contains_map h xs (h x) c in a.0 (subst (Contains xs) (sym (inj x t.0 (contains_head x xs) (contains_tail x t.0 xs t.1) t.2)) t.1)),
  distinct_map h xs (λ y z c d. inj y z (contains_tail x y xs c) (contains_tail x z xs d)) a.1,
)

pub distinct_flat_map : {X Y : Type 0} (h : X → List Y) (xs : List X) → ((x : X) → Contains xs x → AreDistinct (h x)) → ((x y : X) (z : Y) → Contains xs x → Contains xs y → Contains (h x) z → Contains (h y) z → x ≡ y) → AreDistinct xs → AreDistinct (flat_map h xs)
distinct_flat_map h [] each apart a = tt
distinct_flat_map h (x ∷ xs) each apart a =
    distinct_append (h x) (flat_map h xs) (each x (contains_head x xs))
    (distinct_flat_map h xs (λ y c. each y (contains_tail x y xs c)) (λ y z w c d. apart y z w (contains_tail x y xs c) (contains_tail x z xs d)) a.1)
    (λ z c d. let t = contains_flat_map h xs z d in a.0 (subst (Contains xs) (sym (apart x t.0 z (contains_head x xs) (contains_tail x t.0 xs t.1) c t.2)) t.1))

pub distinct_below : (n : ℕ) → AreDistinct (below n)
unfolding below
distinct_below zero = tt
distinct_below (suc n) = distinct_append (below n) (n ∷ []) (distinct_below n) ((λ c. omega (arith, c.1)), tt) (λ x c d. ⊎_elim (λ e. omega (arith, e, contains_below n x c)) (λ t. omega (arith, t.1)) (contains_cases n x [] d))

pub distinct_at_most : {X : Type 0} (xs ys : List X) → AreDistinct xs → ((x : X) → Contains xs x → Contains ys x) → length xs ≤ length ys
distinct_at_most [] ys a h = omega arith
distinct_at_most (x ∷ xs) ys a h =
    let c = h x (contains_head x xs) in
    let p : IsPermutation ys (x ∷ remove ys c.0) = IsPermutation-remove ys c.0 x c.1 (sym c.2) in
    let t : length xs ≤ length (remove ys c.0) = distinct_at_most xs (remove ys c.0) a.1 (λ y d. ⊎_elim (λ e. absurd (a.0 (subst (Contains xs) (sym e) d))) (λ s. s) (contains_cases x y (remove ys c.0) (Contains-permutation ys (x ∷ remove ys c.0) y p (h y (contains_tail x y xs d))))) in
    omega (arith, t, length-remove ys c.0 c.1)

pub independent_tail : (f : FieldName) (n : ℕ) (g : List ℕ) (rows : List (List ℕ)) → AreRows f n (g ∷ rows) → AreIndependent f n (g ∷ rows) → AreIndependent f n rows
unfolding combine
independent_tail f n g rows r h cs w e =
    let z : word_sum f (scale f 0 g) (combine f n cs rows) ≡ zero_word n = cc (e, zero_scale f n g (All-head (IsWord f n) g rows r).long, zero_sum f n (zero_word n) (IsWord_zero f n)) in
    let t : 0 ∷ cs ≡ 0 ∷ zero_word (length rows) = h (0 ∷ cs) (word_cons f (length rows) 0 cs (zero_inside f) w) z in
    cc t

first_told : (f : FieldName) (n : ℕ) (g : List ℕ) (rows : List (List ℕ)) (a b : ℕ) (u v : List ℕ) → AreRows f n (g ∷ rows) → AreIndependent f n (g ∷ rows) → a < size f → b < size f → InSpan f n rows u → InSpan f n rows v → word_sum f (scale f a g) u ≡ word_sum f (scale f b g) v → (a ≡ b) × (u ≡ v)
unfolding combine
first_told f n g rows a b u v r h p q s t e =
    let c = combination_of_word f n rows u s in
    let d = combination_of_word f n rows v t in
    let same : combine f n (a ∷ c.0) (g ∷ rows) ≡ combine f n (b ∷ d.0) (g ∷ rows) = ap (word_sum f (scale f a g)) (sym c.2) ∙ e ∙ ap (word_sum f (scale f b g)) d.2 in
    let k : a ∷ c.0 ≡ b ∷ d.0 = coefficients_unique f n (g ∷ rows) (a ∷ c.0) (b ∷ d.0) r h (word_cons f (length rows) a c.0 p c.1) (word_cons f (length rows) b d.0 q d.1) same in
    let l : c.0 ≡ d.0 = cc k in
    (cc k, c.2 ∙ ap (λ x. combine f n x rows) l ∙ sym d.2)

pub words_distinct : (f : FieldName) (n : ℕ) (rows : List (List ℕ)) → AreRows f n rows → AreIndependent f n rows → AreDistinct (words f n rows)
unfolding words
words_distinct f n [] r h = ((λ c. omega (arith, c.1)), tt)
words_distinct f n (g ∷ rows) r h =
    let tail : AreDistinct (words f n rows) = words_distinct f n rows (All-tail (IsWord f n) g rows r) (independent_tail f n g rows r h) in
    distinct_flat_map (λ c. map (λ v. word_sum f (scale f c g) v) (words f n rows)) (below (size f))
    (λ c m.
    let k : c < size f = contains_below (size f) c m in
    distinct_map (λ v. word_sum f (scale f c g) v) (words f n rows) (λ u v a b e. (first_told f n g rows c c u v r h k k (word_of_member f n rows u a) (word_of_member f n rows v b) e).1) tail)
    (λ c d w a b s t.
    let u = contains_map (λ v. word_sum f (scale f c g) v) (words f n rows) w s in
    let v = contains_map (λ v. word_sum f (scale f d g) v) (words f n rows) w t in
    (first_told f n g rows c d u.0 v.0 r h (contains_below (size f) c a) (contains_below (size f) d b) (word_of_member f n rows u.0 u.1) (word_of_member f n rows v.0 v.1) (sym u.2 ∙ v.2)).0)
    (distinct_below (size f))

pub exponent_at_most : (q k m : ℕ) → 1 < q → q ^ k ≤ q ^ m → k ≤ m
exponent_at_most q k m h l =
    ⊎_elim
    (λ s.
    let a : q ^ suc m ≤ q ^ k = pow-le-pow_right (omega (arith, h)) s in
    let b : 1 ≤ q ^ m = one-le-pow m q (omega (arith, h)) in
    let c : 2 * q ^ m ≤ q * q ^ m = mul-le-mul_right (q ^ m) h in
    absurd (omega (arith, a, b, c, l, pow-suc q m)))
    (λ s. s)
    (cases_lt m k)

pub independent_at_most : (f : FieldName) (n : ℕ) (rows others : List (List ℕ)) → AreRows f n rows → AreIndependent f n rows → SameSpan f n rows others → length rows ≤ length others
independent_at_most f n rows others r h s =
    let l : length (words f n rows) ≤ length (words f n others) = distinct_at_most (words f n rows) (words f n others) (words_distinct f n rows r h) (λ w c. member_of_word f n others w ((s w).0 (word_of_member f n rows w c))) in
    exponent_at_most (size f) (length rows) (length others) (one_inside f) (omega (arith, l, length_words f n rows, length_words f n others))

pub dimension_unique : (f : FieldName) (n : ℕ) (rows others : List (List ℕ)) → AreRows f n rows → AreRows f n others → AreIndependent f n rows → AreIndependent f n others → SameSpan f n rows others → length rows ≡ length others
dimension_unique f n rows others r t h k s =
    omega (arith, independent_at_most f n rows others r h s, independent_at_most f n others rows t k (λ w. ((s w).1, (s w).0)))

pub all_words : FieldName → ℕ → List (List ℕ)
all_words f zero = [] ∷ []
all_words f (suc k) = flat_map (λ c. map (λ u. c ∷ u) (all_words f k)) (below (size f))

pub length_all_words : (f : FieldName) (k : ℕ) → length (all_words f k) ≡ size f ^ k
unfolding all_words
length_all_words f zero = sym (pow-zero (size f))
length_all_words f (suc k) =
    length_flat_map_even (λ c. map (λ u. c ∷ u) (all_words f k)) (length (all_words f k)) (λ c. length-map (all_words f k) (λ u. c ∷ u)) (below (size f))
    ∙ ap (λ n. n * length (all_words f k)) (length_below (size f)) ∙ ap (λ n. size f * n) (length_all_words f k) ∙ mul_comm (size f) (size f ^ k) ∙ sym (pow-suc (size f) k)

pub all_words_contain : (f : FieldName) (k : ℕ) (w : List ℕ) → IsWord f k w → Contains (all_words f k) w
unfolding all_words
all_words_contain f zero [] h = contains_head [] []
all_words_contain f zero (a ∷ w) h = absurd (omega (arith, h.long))
all_words_contain f (suc k) [] h = absurd (omega (arith, h.long))
all_words_contain f (suc k) (a ∷ w) h =
    flat_map_contains (λ c. map (λ u. c ∷ u) (all_words f k)) (below (size f)) a (a ∷ w) (below_contains (size f) a (word_head f (suc k) a w h))
    (map_contains (λ u. a ∷ u) (all_words f k) w (all_words_contain f k w (word_tail f k a w h)))

pub independent_few : (f : FieldName) (n : ℕ) (rows : List (List ℕ)) → AreRows f n rows → AreIndependent f n rows → length rows ≤ n
independent_few f n rows r h =
    let l : length (words f n rows) ≤ length (all_words f n) = distinct_at_most (words f n rows) (all_words f n) (words_distinct f n rows r h) (λ w c. all_words_contain f n w (span_word f n rows w r (word_of_member f n rows w c))) in
    exponent_at_most (size f) (length rows) n (one_inside f) (omega (arith, l, length_words f n rows, length_all_words f n))
