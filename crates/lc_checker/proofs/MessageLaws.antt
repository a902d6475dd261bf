-- The words of the messages of a level are those that a walk lists.
--   multiples_sum              the sum of multiples of the rows at some places
--   supports_shape             what is known of a support: its length, and that its places are inside and rise
--   combine_sparse             the combination by the vector of a message is the sum of its multiples
--   along_is                   the words along a support are the sums over all lists of nonzero elements
--   level_is                   the words of the messages of a level
--   through_is                 the words of the levels 1 to w
use Rattle.std.proofs.Common.{◌≡◌, ℕ, zero, suc, ◌+◌, ◌-◌, ◌<◌, ◌≤◌, ◌⊎◌, List, [], ◌∷◌, ◌++◌, map, flat_map, length, slice_index_or, Contains, refl, sym, ap, ap₂, subst, ◌∙◌, ⊎_elim, inl, inr, arith}
use Rattle.std.proofs.lemmas.List.Concat.{flat_map-cons}
use Rattle.std.proofs.lemmas.List.Elements.{All-head, All-tail, Contains-append_cases}
use Rattle.std.proofs.lemmas.Bool.{eq-eqb, ne_eqb}
use Rattle.std.proofs.lemmas.Simd.{map-map}
use Rattle.lc_algebra.specs.declared.FieldName.{FieldName}
use Rattle.lc_algebra.specs.Field.{size}
use Rattle.lc_algebra.specs.Word.{IsWord, zero_word, word_sum, scale}
use Rattle.lc_algebra.specs.Span.{combine}
use Rattle.lc_algebra.specs.Matrix.{AreRows}
use Rattle.lc_algebra.proofs.WordLaws.{IsWord_zero, IsWord_scale, IsWord_sum, length_scale, zero_sum, sum_zero, sum_assoc, zero_scale}
use Rattle.lc_algebra.proofs.SpanLaws.{contains_head, contains_tail, contains_cases, contains_map, contains_flat_map, combine_cons, combine_is_word}
use Rattle.lc_algebra.proofs.DivisorLaws.{no_member}
use Rattle.lc_algebra.proofs.CommonLaws.{map_flat_map}
use Rattle.lc_enumeration.specs.Message.{Message, supports_from, supports, numbers_from, nonzero_lists, leading_lists, messages, vector_from, vector_of}
use Rattle.lc_enumeration.proofs.DependentLaws.{map_same}
use Rattle.lc_place.proofs.Vectors.{vector_nil}
use Rattle.lc_formats.specs.Certificate.{words_through}
use Rattle.lc_checker.specs.Walk.{row_of, words_along, support_words, words_over, level_words, words_from}
use Rattle.lc_checker.proofs.WalkLaws.{flat_map_same, words_none}
use Rattle.lc_checker.proofs.HeavyLaws.{supports_more, along_cons}

abbrev multiples_sum : FieldName → ℕ → (ℕ → List ℕ) → List ℕ → List ℕ → List ℕ
multiples_sum f n row (p ∷ s) (c ∷ u) = word_sum f (scale f c (row p)) (multiples_sum f n row s u)
multiples_sum f n row _ _ = zero_word n

-- ---- lists

flat_map_members : {X Y : Type 0} (g h : X → List Y) (xs : List X) → ((x : X) → Contains xs x → g x ≡ h x) → flat_map g xs ≡ flat_map h xs
flat_map_members g h [] e = refl
flat_map_members g h (x ∷ xs) e = flat_map-cons g x xs ∙ ap₂ (λ a b. a ++ b) (e x (contains_head x xs)) (flat_map_members g h xs (λ y c. e y (contains_tail x y xs c))) ∙ sym (flat_map-cons h x xs)

-- ---- supports

record Shape (i w : ℕ) (s : List ℕ) : Type 0 where
  pub many : length s ≡ w
  pub low : (p : ℕ) (t : List ℕ) → s ≡ p ∷ t → i ≤ p

supports_nothing : (i k : ℕ) → supports_from i k 0 ≡ [] ∷ []
unfolding supports_from
supports_nothing i k = refl

supports_short : (i w : ℕ) → supports_from i 0 (suc w) ≡ []
unfolding supports_from
supports_short i w = refl

head_of : {X : Type 0} (x y : X) (xs ys : List X) → x ∷ xs ≡ y ∷ ys → x ≡ y
head_of x y xs ys e = cc

only_one : (s : List ℕ) → Contains ([] ∷ []) s → s ≡ []
only_one s c = ⊎_elim (λ e. sym e) (λ n. absurd (no_member s n)) (contains_cases [] s [] c)

first_or_later : (i k w : ℕ) (s : List ℕ) → Contains (supports_from i (suc k) (suc w)) s → ((t : List ℕ) × Contains (supports_from (suc i) k w) t × (s ≡ i ∷ t)) ⊎ Contains (supports_from (suc i) k (suc w)) s
first_or_later i k w s c =
    ⊎_elim
    (λ a. let t = contains_map (λ (u : List ℕ). i ∷ u) (supports_from (suc i) k w) s a in inl (t.0, t.1, t.2))
    (λ b. inr b)
    (Contains-append_cases (map (λ s. i ∷ s) (supports_from (suc i) k w)) (supports_from (suc i) k (suc w)) s (subst (λ xs. Contains xs s) (supports_more i k w) c))

supports_shape : (i k w : ℕ) (s : List ℕ) → Contains (supports_from i k w) s → Shape i w s
supports_shape i k zero s c =
    let e = only_one s (subst (λ xs. Contains xs s) (supports_nothing i k) c) in
    record { many = ap length e; low = λ p t q. absurd (omega (arith, ap length (sym q ∙ e))) }
supports_shape i zero (suc w) s c = absurd (no_member s (subst (λ xs. Contains xs s) (supports_short i w) c))
supports_shape i (suc k) (suc w) s c =
    ⊎_elim
    (λ a.
    let h = supports_shape (suc i) k w a.0 a.1 in
    record { many = ap length a.2 ∙ ap suc h.many; low = λ p t q. omega (arith, head_of i p a.0 t (sym a.2 ∙ q)) })
    (λ b.
    let h = supports_shape (suc i) k (suc w) s b in
    record { many = h.many; low = λ p t q. omega (arith, h.low p t q) })
    (first_or_later i k w s c)

-- ---- combinations

vector_at : (i k c : ℕ) (s u : List ℕ) → vector_from i (suc k) (i ∷ s) (c ∷ u) ≡ c ∷ vector_from (suc i) k s u
unfolding vector_from
vector_at i k c s u = rw (eq-eqb i i refl) refl

vector_before : (i k p c : ℕ) (s u : List ℕ) → suc i ≤ p → vector_from i (suc k) (p ∷ s) (c ∷ u) ≡ 0 ∷ vector_from (suc i) k (p ∷ s) (c ∷ u)
unfolding vector_from
vector_before i k p c s u l = rw (ne_eqb i p (λ e. omega (arith, l, e))) refl

combine_past : (f : FieldName) (n : ℕ) (cs g : List ℕ) (rows : List (List ℕ)) → AreRows f n (g ∷ rows) → combine f n (0 ∷ cs) (g ∷ rows) ≡ combine f n cs rows
combine_past f n cs g rows r =
    combine_cons f n 0 cs g rows
    ∙ ap (λ z. word_sum f z (combine f n cs rows)) (zero_scale f n g (All-head (IsWord f n) g rows r).long)
    ∙ zero_sum f n (combine f n cs rows) (combine_is_word f n cs rows (All-tail (IsWord f n) g rows r))

combine_nothing : (f : FieldName) (n : ℕ) (cs : List ℕ) → combine f n cs [] ≡ zero_word n
unfolding combine
combine_nothing f n [] = refl
combine_nothing f n (c ∷ cs) = refl

row_later : (i : ℕ) (row : ℕ → List ℕ) (g : List ℕ) (rest : List (List ℕ)) → ((j : ℕ) → j < length (g ∷ rest) → row (i + j) ≡ slice_index_or (g ∷ rest) j []) → (j : ℕ) → j < length rest → row (suc i + j) ≡ slice_index_or rest j []
row_later i row g rest h j l = let e : suc i + j ≡ i + suc j = omega arith in ap row e ∙ h (suc j) (omega (arith, l))

row_here : (i : ℕ) (row : ℕ → List ℕ) (g : List ℕ) (rest : List (List ℕ)) → ((j : ℕ) → j < length (g ∷ rest) → row (i + j) ≡ slice_index_or (g ∷ rest) j []) → row i ≡ g
row_here i row g rest h = let e : i ≡ i + 0 = omega arith in ap row e ∙ h 0 (omega arith)

combine_later : (f : FieldName) (n i d : ℕ) (row : ℕ → List ℕ) (g : List ℕ) (rest : List (List ℕ)) (s u : List ℕ) → AreRows f n (g ∷ rest) → Shape (suc i) (suc (length u)) s → combine f n (vector_from (suc i) (length rest) s (d ∷ u)) rest ≡ multiples_sum f n row s (d ∷ u) → combine f n (vector_from i (suc (length rest)) s (d ∷ u)) (g ∷ rest) ≡ multiples_sum f n row s (d ∷ u)
combine_later f n i d row g rest [] u r k e = absurd (omega (arith, k.many))
combine_later f n i d row g rest (p ∷ t) u r k e =
    ap (λ v. combine f n v (g ∷ rest)) (vector_before i (length rest) p d t u (k.low p t refl))
    ∙ combine_past f n (vector_from (suc i) (length rest) (p ∷ t) (d ∷ u)) g rest r
    ∙ e

combine_sparse : (f : FieldName) (n i : ℕ) (row : ℕ → List ℕ) (rest : List (List ℕ)) (s u : List ℕ) → AreRows f n rest → ((j : ℕ) → j < length rest → row (i + j) ≡ slice_index_or rest j []) → Contains (supports_from i (length rest) (length u)) s → combine f n (vector_from i (length rest) s u) rest ≡ multiples_sum f n row s u
combine_sparse f n i row [] s [] r h c =
    let e = only_one s (subst (λ xs. Contains xs s) (supports_nothing i 0) c) in
    combine_nothing f n (vector_from i 0 s []) ∙ sym (ap (λ t. multiples_sum f n row t []) e)
combine_sparse f n i row [] s (d ∷ u) r h c = absurd (no_member s (subst (λ xs. Contains xs s) (supports_short i (length u)) c))
combine_sparse f n i row (g ∷ rest) s [] r h c =
    let e = only_one s (subst (λ xs. Contains xs s) (supports_nothing i (suc (length rest))) c) in
    let there : Contains (supports_from (suc i) (length rest) 0) [] = subst (λ xs. Contains xs []) (sym (supports_nothing (suc i) (length rest))) (contains_head [] []) in
    ap (λ t. combine f n (vector_from i (suc (length rest)) t []) (g ∷ rest)) e
    ∙ ap (λ v. combine f n v (g ∷ rest)) (vector_nil i (length rest))
    ∙ combine_past f n (vector_from (suc i) (length rest) [] []) g rest r
    ∙ combine_sparse f n (suc i) row rest [] [] (All-tail (IsWord f n) g rest r) (row_later i row g rest h) there
    ∙ sym (ap (λ t. multiples_sum f n row t []) e)
combine_sparse f n i row (g ∷ rest) s (d ∷ u) r h c =
    ⊎_elim
    (λ a.
    ap (λ t. combine f n (vector_from i (suc (length rest)) t (d ∷ u)) (g ∷ rest)) a.2
    ∙ ap (λ v. combine f n v (g ∷ rest)) (vector_at i (length rest) d a.0 u)
    ∙ combine_cons f n d (vector_from (suc i) (length rest) a.0 u) g rest
    ∙ ap₂ (λ x y. word_sum f (scale f d x) y) (sym (row_here i row g rest h)) (combine_sparse f n (suc i) row rest a.0 u (All-tail (IsWord f n) g rest r) (row_later i row g rest h) a.1)
    ∙ sym (ap (λ t. multiples_sum f n row t (d ∷ u)) a.2))
    (λ b. combine_later f n i d row g rest s u r (supports_shape (suc i) (length rest) (suc (length u)) s b) (combine_sparse f n (suc i) row rest s (d ∷ u) (All-tail (IsWord f n) g rest r) (row_later i row g rest h) b))
    (first_or_later i (length rest) (length u) s c)

-- ---- along a support

lists_more : (q n : ℕ) → nonzero_lists q (suc n) ≡ flat_map (λ c. map (λ u. c ∷ u) (nonzero_lists q n)) (numbers_from 1 (q - 1))
unfolding nonzero_lists
lists_more q n = refl

lists_nothing : (q : ℕ) → nonzero_lists q 0 ≡ [] ∷ []
unfolding nonzero_lists
lists_nothing q = refl

along_is : (f : FieldName) (n : ℕ) (rows : List (List ℕ)) (a s : List ℕ) → IsWord f n a → ((p : ℕ) → Contains s p → IsWord f n (row_of rows p)) → map (λ u. word_sum f a (multiples_sum f n (row_of rows) s u)) (nonzero_lists (size f) (length s)) ≡ words_along f rows a s
along_is f n rows a [] w h = ap (map (λ u. word_sum f a (multiples_sum f n (row_of rows) [] u))) (lists_nothing (size f)) ∙ ap (λ x. x ∷ []) (sum_zero f n a w) ∙ sym (words_none f rows a)
along_is f n rows a (p ∷ s) w h =
    let value = λ (u : List ℕ). word_sum f a (multiples_sum f n (row_of rows) (p ∷ s) u) in
    let next = λ (c : ℕ). word_sum f a (scale f c (row_of rows p)) in
    let is_next : (c : ℕ) → IsWord f n (next c) = λ c. IsWord_sum f n a (scale f c (row_of rows p)) w.long (length_scale f c (row_of rows p) ∙ (h p (contains_head p s)).long) in
    ap (map value) (lists_more (size f) (length s))
    ∙ map_flat_map value (λ c. map (λ u. c ∷ u) (nonzero_lists (size f) (length s))) (numbers_from 1 (size f - 1))
    ∙ flat_map_same (λ c. map value (map (λ u. c ∷ u) (nonzero_lists (size f) (length s)))) (λ c. words_along f rows (next c) s) (numbers_from 1 (size f - 1)) (λ c.
    map-map value (λ u. c ∷ u) (nonzero_lists (size f) (length s))
    ∙ map_same (λ u. value (c ∷ u)) (λ u. word_sum f (next c) (multiples_sum f n (row_of rows) s u)) (nonzero_lists (size f) (length s)) (λ u l. sym (sum_assoc f a (scale f c (row_of rows p)) (multiples_sum f n (row_of rows) s u)))
    ∙ along_is f n rows (next c) s (is_next c) (λ q l. h q (contains_tail p q s l)))
    ∙ sym (along_cons f rows a p s)

-- ---- levels

lists_length : (q n : ℕ) (u : List ℕ) → Contains (nonzero_lists q n) u → length u ≡ n
lists_length q zero u c = ap length (only_one u (subst (λ xs. Contains xs u) (lists_nothing q) c))
lists_length q (suc n) u c =
    let t = contains_flat_map (λ d. map (λ v. d ∷ v) (nonzero_lists q n)) (numbers_from 1 (q - 1)) u (subst (λ xs. Contains xs u) (lists_more q n) c) in
    let v = contains_map (λ (v : List ℕ). t.0 ∷ v) (nonzero_lists q n) u t.2 in
    ap length v.2 ∙ ap suc (lists_length q n v.0 v.1)

leading_more : (q n : ℕ) → leading_lists q (suc n) ≡ map (λ u. 1 ∷ u) (nonzero_lists q n)
unfolding leading_lists
leading_more q n = refl

leading_nothing : (q : ℕ) → leading_lists q 0 ≡ [] ∷ []
unfolding leading_lists
leading_nothing q = refl

support_cons : (f : FieldName) (n : ℕ) (rows : List (List ℕ)) (p : ℕ) (s : List ℕ) → support_words f n rows (p ∷ s) ≡ words_along f rows (word_sum f (zero_word n) (scale f 1 (row_of rows p))) s
unfolding support_words
support_cons f n rows p s = refl

support_nil : (f : FieldName) (n : ℕ) (rows : List (List ℕ)) → support_words f n rows [] ≡ zero_word n ∷ []
unfolding support_words
support_nil f n rows = refl

vector_is : (k : ℕ) (s u : List ℕ) → vector_of k (record { support = s; coefficients = u }) ≡ vector_from 0 k s u
unfolding vector_of
vector_is k s u = refl

row_inside : (f : FieldName) (n : ℕ) (rows : List (List ℕ)) (p : ℕ) → AreRows f n rows → p < length rows → IsWord f n (row_of rows p)
row_inside f n rows p r l = r p [] l

same_row : (rows : List (List ℕ)) (j : ℕ) → j < length rows → row_of rows (0 + j) ≡ slice_index_or rows j []
same_row rows j l = let e : 0 + j ≡ j = omega arith in ap (row_of rows) e

below_all : (i k w : ℕ) (s : List ℕ) → Contains (supports_from i k w) s → (p : ℕ) → Contains s p → p < i + k
below_all i k zero s c p d = absurd (no_member p (subst (λ t. Contains t p) (only_one s (subst (λ xs. Contains xs s) (supports_nothing i k) c)) d))
below_all i zero (suc w) s c p d = absurd (no_member s (subst (λ xs. Contains xs s) (supports_short i w) c))
below_all i (suc k) (suc w) s c p d =
    ⊎_elim
    (λ a. ⊎_elim (λ e. omega (arith, e)) (λ m. omega (arith, below_all (suc i) k w a.0 a.1 p m)) (contains_cases i p a.0 (subst (λ t. Contains t p) a.2 d)))
    (λ b. omega (arith, below_all (suc i) k (suc w) s b p d))
    (first_or_later i k w s c)

combined : (f : FieldName) (n : ℕ) (rows : List (List ℕ)) (w : ℕ) (s u : List ℕ) → AreRows f n rows → Contains (supports_from 0 (length rows) w) s → length u ≡ w → combine f n (vector_of (length rows) (record { support = s; coefficients = u })) rows ≡ multiples_sum f n (row_of rows) s u
combined f n rows w s u r c l =
    ap (λ v. combine f n v rows) (vector_is (length rows) s u)
    ∙ combine_sparse f n 0 (row_of rows) rows s u r (same_row rows) (subst (λ m. Contains (supports_from 0 (length rows) m) s) (sym l) c)

support_is : (f : FieldName) (n : ℕ) (rows : List (List ℕ)) (w : ℕ) (s : List ℕ) → AreRows f n rows → Contains (supports_from 0 (length rows) w) s → map (λ u. combine f n (vector_of (length rows) (record { support = s; coefficients = u })) rows) (leading_lists (size f) w) ≡ support_words f n rows s
support_is f n rows zero s r c =
    let e = only_one s (subst (λ xs. Contains xs s) (supports_nothing 0 (length rows)) c) in
    ap (map (λ u. combine f n (vector_of (length rows) (record { support = s; coefficients = u })) rows)) (leading_nothing (size f))
    ∙ ap (λ x. x ∷ []) (combined f n rows 0 s [] r c refl ∙ ap (λ t. multiples_sum f n (row_of rows) t []) e)
    ∙ sym (ap (support_words f n rows) e ∙ support_nil f n rows)
support_is f n rows (suc w) s r c = first s c (supports_shape 0 (length rows) (suc w) s c)
  where
    first : (s : List ℕ) → Contains (supports_from 0 (length rows) (suc w)) s → Shape 0 (suc w) s → map (λ u. combine f n (vector_of (length rows) (record { support = s; coefficients = u })) rows) (leading_lists (size f) (suc w)) ≡ support_words f n rows s
    first [] c h = absurd (omega (arith, h.many))
    first (p ∷ s) c h =
        let inside : (q : ℕ) → Contains (p ∷ s) q → IsWord f n (row_of rows q) = λ q d. row_inside f n rows q r (omega (arith, below_all 0 (length rows) (suc w) (p ∷ s) c q d)) in
        let a = word_sum f (zero_word n) (scale f 1 (row_of rows p)) in
        let scaled : length (scale f 1 (row_of rows p)) ≡ n = length_scale f 1 (row_of rows p) ∙ (inside p (contains_head p s)).long in
        let is_a : IsWord f n a = IsWord_sum f n (zero_word n) (scale f 1 (row_of rows p)) (IsWord_zero f n).long scaled in
        let many : length s ≡ w = omega (arith, h.many) in
        let value = λ (u : List ℕ). combine f n (vector_of (length rows) (record { support = p ∷ s; coefficients = u })) rows in
        ap (map value) (leading_more (size f) w)
        ∙ map-map value (λ u. 1 ∷ u) (nonzero_lists (size f) w)
        ∙ map_same (λ u. value (1 ∷ u)) (λ u. word_sum f a (multiples_sum f n (row_of rows) s u)) (nonzero_lists (size f) w) (λ u d.
        combined f n rows (suc w) (p ∷ s) (1 ∷ u) r c (ap suc (lists_length (size f) w u d))
        ∙ ap (λ x. word_sum f x (multiples_sum f n (row_of rows) s u)) (sym (zero_sum f n (scale f 1 (row_of rows p)) (IsWord_scale f n 1 (row_of rows p) (inside p (contains_head p s)).long))))
        ∙ ap (λ m. map (λ u. word_sum f a (multiples_sum f n (row_of rows) s u)) (nonzero_lists (size f) m)) (sym many)
        ∙ along_is f n rows a s is_a (λ q d. inside q (contains_tail p q s d))
        ∙ sym (support_cons f n rows p s)

pub level_is : (f : FieldName) (n : ℕ) (rows : List (List ℕ)) (w : ℕ) → AreRows f n rows → map (λ m. combine f n (vector_of (length rows) m) rows) (messages (length rows) (size f) w) ≡ level_words f n rows w
unfolding messages supports level_words words_over
level_is f n rows w r =
    let value = λ (m : Message). combine f n (vector_of (length rows) m) rows in
    map_flat_map value (λ s. map (λ u. record { support = s; coefficients = u }) (leading_lists (size f) w)) (supports_from 0 (length rows) w)
    ∙ flat_map_members (λ s. map value (map (λ u. record { support = s; coefficients = u }) (leading_lists (size f) w))) (λ s. support_words f n rows ([] ++ s)) (supports_from 0 (length rows) w) (λ s c.
    map-map value (λ u. record { support = s; coefficients = u }) (leading_lists (size f) w) ∙ support_is f n rows w s r c)

pub through_is : (f : FieldName) (n k : ℕ) (rows : List (List ℕ)) (w : ℕ) → AreRows f n rows → k ≡ length rows → words_through f n rows k w ≡ words_from f n rows 1 w
unfolding words_through words_from
through_is f n k rows w r e = rw e (flat_map_same (λ level. map (λ m. combine f n (vector_of (length rows) m) rows) (messages (length rows) (size f) level)) (level_words f n rows) (numbers_from 1 w) (λ level. level_is f n rows level r))
