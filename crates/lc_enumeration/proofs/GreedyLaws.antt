-- Independence, and the vectors that the greedy rule takes.
--   each_contained             what holds of each member holds of all
--   span_wider                 the words of some of the rows are words of all
--   opposite                   two words whose sum is zero
--   last_split                 a list that isn't empty, before its last entry
--   independent_last           independent rows, and a row after them that is none of their words, are independent
--   independent_front          no row of independent rows is a word of those before it
--   AreVectors f n vector      each vector is a word of length n
--   vectors_are_rows           so are those of some indices
--   greedy_few                 the greedy rule takes no more than there are
--   greedy_independent, greedy_whole      it takes all exactly if they are independent
--   length_unit, index_unit    the words with a single 1
use Rattle.std.proofs.Common.{if◌then◌else◌, ◌≡◌, ℕ, zero, suc, ◌+◌, ◌<◌, ◌≤◌, ◌⊎◌, Bool, true, false, cond, List, [], ◌∷◌, ◌++◌, map, length, All, Contains, refl, sym, ap, ap₂, subst, ◌∙◌, ⊎_elim, inl, inr, arith, append_assoc, append-nil, ◌==◌, slice_index}
use Rattle.std.proofs.lemmas.Bool.{cases_Bool, cases_lt, true≢false}
use Rattle.std.proofs.lemmas.List.{length-append, map-append, length-map, get_or-map}
use Rattle.std.proofs.lemmas.List.Elements.{All-cons, Contains-get_or, Contains-append_left, Contains-append_right, Contains-append_cases}
use Rattle.lc_algebra.specs.declared.FieldName.{FieldName}
use Rattle.lc_algebra.specs.Field.{size, neg, mul}
use Rattle.lc_algebra.specs.Word.{Fits, IsWord, zero_word, word_sum, scale}
use Rattle.lc_algebra.specs.Span.{combine, InSpan, SameSpan, AreIndependent, below}
use Rattle.lc_algebra.specs.Matrix.{AreRows}
use Rattle.lc_algebra.proofs.FieldLaws.{inverse_of, mul_comm}
use Rattle.lc_algebra.proofs.WordLaws.{IsWord_scale, fits_head, fits_tail, fits_cons, sum_comm, sum_assoc, zero_sum, sum_zero, sum_negative, zero_scale, one_scale, scale_scale}
use Rattle.lc_algebra.proofs.SpanLaws.{span_zero, span_scale, span_within, same_span, word_of_combination, contains_cases, contains_head, contains_tail, contains_map, length_below, index_below, combine_append, combine_is_word, span_of_member}
use Rattle.lc_algebra.proofs.DimensionLaws.{independent_at_most}
use Rattle.lc_enumeration.specs.InformationSet.{in_span, greedy, unit_word}
use Rattle.lc_enumeration.proofs.MemberLaws.{in_span_true, true_in_span}

pub each_contained : {X : Type 0} (P : X → Type 0) (xs : List X) → ((x : X) → Contains xs x → P x) → All P xs
each_contained P xs h = λ k d l. h _ (Contains-get_or xs k d l)

pub span_wider : (f : FieldName) (n : ℕ) (rows others : List (List ℕ)) (w : List ℕ) → AreRows f n others → ((x : List ℕ) → Contains rows x → Contains others x) → InSpan f n rows w → InSpan f n others w
span_wider f n rows others w r h i = span_within f n rows others w r (each_contained (InSpan f n others) rows (λ x c. span_of_member f n others x r (h x c))) i

pub opposite : (f : FieldName) (n : ℕ) (u v : List ℕ) → IsWord f n u → IsWord f n v → word_sum f u v ≡ zero_word n → v ≡ scale f (neg f 1) u
opposite f n u v h k e =
    let minus = scale f (neg f 1) u in
    sym (zero_sum f n v k)
    ∙ ap (λ x. word_sum f x v) (sym (sum_negative f n u h.long) ∙ sum_comm f u minus)
    ∙ sum_assoc f minus u v
    ∙ ap (word_sum f minus) e
    ∙ sum_zero f n minus (IsWord_scale f n (neg f 1) u h.long)

pub record IsSplit (cs : List ℕ) (k : ℕ) : Type 0 where
  pub front : List ℕ
  pub last : ℕ
  pub long : length front ≡ k
  pub whole : cs ≡ front ++ last ∷ []

pub last_split : (cs : List ℕ) (k : ℕ) → length cs ≡ suc k → IsSplit cs k
last_split [] k l = absurd (omega (arith, l))
last_split (c ∷ []) k l = record { front = []; last = c; long = omega (arith, l); whole = refl }
last_split (c ∷ d ∷ cs) zero l = absurd (omega (arith, l))
last_split (c ∷ d ∷ cs) (suc k) l =
    let s = last_split (d ∷ cs) k (omega (arith, l)) in
    record { front = c ∷ s.front; last = s.last; long = ap suc s.long; whole = ap (λ u. c ∷ u) s.whole }

fits_front : (f : FieldName) (ds : List ℕ) (c : ℕ) → Fits f (ds ++ c ∷ []) → Fits f ds × (c < size f)
fits_front f [] c h = ((λ i l. absurd (omega (arith, l))), fits_head f c [] h)
fits_front f (d ∷ ds) c h =
    let t = fits_front f ds c (fits_tail f d (ds ++ c ∷ []) h) in
    (fits_cons f d ds (fits_head f d (ds ++ c ∷ []) h) t.0, t.1)

zero_last : (k : ℕ) → zero_word k ++ 0 ∷ [] ≡ zero_word (suc k)
zero_last zero = refl
zero_last (suc k) = ap (λ u. 0 ∷ u) (zero_last k)

one_row : (f : FieldName) (n c : ℕ) (g : List ℕ) → IsWord f n g → combine f n (c ∷ []) (g ∷ []) ≡ scale f c g
unfolding combine
one_row f n c g h = sum_zero f n (scale f c g) (IsWord_scale f n c g h.long)

pub independent_last : (f : FieldName) (n : ℕ) (xs : List (List ℕ)) (g : List ℕ) → AreRows f n xs → IsWord f n g → AreIndependent f n xs → (InSpan f n xs g → ⊥) → AreIndependent f n (xs ++ g ∷ [])
independent_last f n xs g r h free out cs w e =
    let many : length (xs ++ g ∷ []) ≡ suc (length xs) = length-append xs (g ∷ []) ∙ omega arith in
    let s = last_split cs (length xs) (w.long ∙ many) in
    let fits = fits_front f s.front s.last (subst (Fits f) s.whole w.fits) in
    let front : IsWord f (length xs) s.front = record { long = s.long; fits = fits.0 } in
    let u = combine f n s.front xs in
    let inside : InSpan f n xs u = word_of_combination f n xs s.front front in
    let word : IsWord f n u = combine_is_word f n s.front xs r in
    let sums : word_sum f u (scale f s.last g) ≡ zero_word n =
    ap (word_sum f u) (sym (one_row f n s.last g h))
    ∙ sym (combine_append f n s.front (s.last ∷ []) xs (g ∷ []) s.long (All-cons (IsWord f n) g [] h (λ k d l. absurd (omega (arith, l)))))
    ∙ ap (λ x. combine f n x (xs ++ g ∷ [])) (sym s.whole) ∙ e in
    ⊎_elim
    (λ positive.
    let b = inverse_of f s.last fits.1 positive in
    let multiple : InSpan f n xs (scale f s.last g) = subst (InSpan f n xs) (sym (opposite f n u (scale f s.last g) word (IsWord_scale f n s.last g h.long) sums)) (span_scale f n xs (neg f 1) u inside) in
    let same : scale f b.0 (scale f s.last g) ≡ g = scale_scale f b.0 s.last g ∙ ap (λ x. scale f x g) (mul_comm f b.0 s.last ∙ b.1.one) ∙ one_scale f g h.fits in
    absurd (out (subst (InSpan f n xs) same (span_scale f n xs b.0 (scale f s.last g) multiple))))
    (λ none.
    let zero_end : s.last ≡ 0 = omega (arith, none) in
    let gone : scale f s.last g ≡ zero_word n = ap (λ c. scale f c g) zero_end ∙ zero_scale f n g h.long in
    let front_zero : s.front ≡ zero_word (length xs) = free s.front front (sym (sum_zero f n u word) ∙ ap (word_sum f u) (sym gone) ∙ sums) in
    s.whole ∙ ap₂ (λ x c. x ++ c ∷ []) front_zero zero_end ∙ zero_last (length xs) ∙ ap zero_word (sym many))
    (cases_lt 0 s.last)

pub independent_front : (f : FieldName) (n : ℕ) (xs ys : List (List ℕ)) (g : List ℕ) → AreRows f n (xs ++ g ∷ ys) → AreRows f n (xs ++ ys) → AreIndependent f n (xs ++ g ∷ ys) → InSpan f n xs g → ⊥
independent_front f n xs ys g r s h i =
    let wide : (x : List ℕ) → Contains (xs ++ g ∷ ys) x → InSpan f n (xs ++ ys) x = λ x c.
    ⊎_elim
    (λ a. span_of_member f n (xs ++ ys) x s (Contains-append_left xs ys x a))
    (λ b. ⊎_elim
    (λ e. subst (InSpan f n (xs ++ ys)) e (span_wider f n xs (xs ++ ys) g s (λ y a. Contains-append_left xs ys y a) i))
    (λ a. span_of_member f n (xs ++ ys) x s (Contains-append_right xs ys x a))
    (contains_cases g x ys b))
    (Contains-append_cases xs (g ∷ ys) x c) in
    let back : (x : List ℕ) → Contains (xs ++ ys) x → InSpan f n (xs ++ g ∷ ys) x = λ x c.
    span_of_member f n (xs ++ g ∷ ys) x r (⊎_elim
    (λ a. Contains-append_left xs (g ∷ ys) x a)
    (λ a. Contains-append_right xs (g ∷ ys) x (contains_tail g x ys a))
    (Contains-append_cases xs ys x c)) in
    let same = same_span f n (xs ++ g ∷ ys) (xs ++ ys) r s (each_contained (InSpan f n (xs ++ ys)) (xs ++ g ∷ ys) wide) (each_contained (InSpan f n (xs ++ g ∷ ys)) (xs ++ ys) back) in
    omega (arith, independent_at_most f n (xs ++ g ∷ ys) (xs ++ ys) r h same, length-append xs (g ∷ ys), length-append xs ys)

abbrev pub AreVectors : FieldName → ℕ → (ℕ → List ℕ) → Type 0
AreVectors f n vector = (i : ℕ) → IsWord f n (vector i)

pub vectors_are_rows : (f : FieldName) (n : ℕ) (vector : ℕ → List ℕ) (set : List ℕ) → AreVectors f n vector → AreRows f n (map vector set)
vectors_are_rows f n vector set h = each_contained (IsWord f n) (map vector set) (λ x c. let t = contains_map vector set x c in subst (IsWord f n) (sym t.2) (h t.0))

few_either : {X : Type 0} (b : Bool) (xs ys : List X) (m : ℕ) → length xs ≤ m → length ys ≤ m → length (cond b xs ys) ≤ m
few_either true xs ys m h k = h
few_either false xs ys m h k = k

pub greedy_few : (f : FieldName) (n : ℕ) (vector : ℕ → List ℕ) (taken order : List ℕ) → length (greedy f n vector taken order) ≤ length taken + length order
unfolding greedy
greedy_few f n vector taken [] = omega arith
greedy_few f n vector taken (i ∷ order) =
    few_either (in_span f n (map vector taken) (vector i)) (greedy f n vector taken order) (greedy f n vector (taken ++ i ∷ []) order) (length taken + suc (length order))
    (omega (arith, greedy_few f n vector taken order))
    (omega (arith, greedy_few f n vector (taken ++ i ∷ []) order, length-append taken (i ∷ [])))

pub greedy_independent : (f : FieldName) (n : ℕ) (vector : ℕ → List ℕ) (taken order : List ℕ) → AreVectors f n vector → AreIndependent f n (map vector taken) → length (greedy f n vector taken order) ≡ length taken + length order → AreIndependent f n (map vector (taken ++ order))
unfolding greedy
greedy_independent f n vector taken [] v free l = subst (λ set. AreIndependent f n (map vector set)) (sym (append-nil taken)) free
greedy_independent f n vector taken (i ∷ order) v free l =
    let rest = λ (b : Bool). length (cond b (greedy f n vector taken order) (greedy f n vector (taken ++ i ∷ []) order)) ≡ length taken + suc (length order) in
    ⊎_elim
    (λ e. absurd (omega (arith, subst rest e l, greedy_few f n vector taken order)))
    (λ e.
    let out : InSpan f n (map vector taken) (vector i) → ⊥ = λ h. true≢false (sym (true_in_span f n (map vector taken) (vector i) h) ∙ e) in
    let more : AreIndependent f n (map vector (taken ++ i ∷ [])) = subst (AreIndependent f n) (sym (map-append vector taken (i ∷ []))) (independent_last f n (map vector taken) (vector i) (vectors_are_rows f n vector taken v) (v i) free out) in
    subst (λ set. AreIndependent f n (map vector set)) (append_assoc taken (i ∷ []) order)
    (greedy_independent f n vector (taken ++ i ∷ []) order v more (omega (arith, subst rest e l, length-append taken (i ∷ [])))))
    (cases_Bool (in_span f n (map vector taken) (vector i)))

pub greedy_whole : (f : FieldName) (n : ℕ) (vector : ℕ → List ℕ) (taken order : List ℕ) → AreVectors f n vector → AreIndependent f n (map vector (taken ++ order)) → length (greedy f n vector taken order) ≡ length taken + length order
unfolding greedy
greedy_whole f n vector taken [] v free = omega arith
greedy_whole f n vector taken (i ∷ order) v free =
    let rest = λ (b : Bool). length (cond b (greedy f n vector taken order) (greedy f n vector (taken ++ i ∷ []) order)) ≡ length taken + suc (length order) in
    ⊎_elim
    (λ e. absurd (independent_front f n (map vector taken) (map vector order) (vector i)
    (subst (AreRows f n) (map-append vector taken (i ∷ order)) (vectors_are_rows f n vector (taken ++ i ∷ order) v))
    (subst (AreRows f n) (map-append vector taken order) (vectors_are_rows f n vector (taken ++ order) v))
    (subst (AreIndependent f n) (map-append vector taken (i ∷ order)) free)
    (in_span_true f n (map vector taken) (vector i) e)))
    (λ e. subst rest (sym e) (greedy_whole f n vector (taken ++ i ∷ []) order v (subst (λ set. AreIndependent f n (map vector set)) (sym (append_assoc taken (i ∷ []) order)) free) ∙ omega (arith, length-append taken (i ∷ []))))
    (cases_Bool (in_span f n (map vector taken) (vector i)))

pub length_unit : (k i : ℕ) → length (unit_word k i) ≡ k
unfolding unit_word
length_unit k i = length-map (below k) (λ j. if i == j then 1 else 0) ∙ length_below k

pub index_unit : (k i j : ℕ) → j < k → slice_index (unit_word k i) j ≡ (if i == j then 1 else 0)
unfolding unit_word
index_unit k i j l = get_or-map (λ j. if i == j then 1 else 0) (below k) j 0 0 (omega (arith, l, length_below k)) ∙ ap (λ j. if i == j then 1 else 0) (index_below k j 0 l)
