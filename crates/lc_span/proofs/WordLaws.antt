-- Lists of the words of some rows.
--   sums_more                            the sums of a word and some words
--   multiples_none, multiples_more, sums_fit      those of each multiple of a row
--   words_between f n rows i to          the words of the rows from place i up to the one before `to`
--   rows_none, rows_more                 none of these rows, and one row more
--   words_are_words, between_are_words, between_are_rows      they are words
use Rattle.std.proofs.Common.{◌≡◌, ℕ, suc, ◌+◌, ◌-◌, ◌<◌, ◌≤◌, List, [], ◌∷◌, ◌++◌, length, map, flat_map, take, drop, slice_index_or, refl, sym, ap, ap₂, ◌∙◌, arith, rules}
use Rattle.std.proofs.Math.Seq.{drop-cons}
use Rattle.std.proofs.lemmas.Grind.{flat_map-append}
use Rattle.std.proofs.lemmas.List.{append_assoc, map_more}
use Rattle.std.proofs.lemmas.List.Elements.{All-from_get_or, All-tail, All-take, All-drop, Contains-get_or}
use Rattle.lc_algebra.specs.declared.FieldName.{FieldName}
use Rattle.lc_algebra.specs.Field.{size}
use Rattle.lc_algebra.specs.Word.{IsWord, zero_word, word_sum, scale}
use Rattle.lc_algebra.specs.Matrix.{AreRows}
use Rattle.lc_algebra.specs.Span.{below, words}
use Rattle.lc_algebra.proofs.WordLaws.{sum_comm, zero_sum, zero_scale, length_scale}
use Rattle.lc_algebra.proofs.SpanLaws.{span_word, word_of_member}

pub sums_more : (f : FieldName) (i : ℕ) (word sum : List ℕ) (ws before now after : List (List ℕ)) → i < length ws → now ≡ before ++ map (word_sum f word) (take i ws) → sum ≡ word_sum f (slice_index_or ws i []) word → after ≡ now ++ sum ∷ [] → after ≡ before ++ map (word_sum f word) (take (i + 1) ws)
sums_more f i word sum ws before now after l e s push =
    let turned : sum ≡ word_sum f word (slice_index_or ws i []) = s ∙ sum_comm f (slice_index_or ws i []) word in
    push ∙ ap₂ (λ x y. x ++ y ∷ []) e turned ∙ append_assoc before (map (word_sum f word) (take i ws)) (word_sum f word (slice_index_or ws i []) ∷ [])
    ∙ ap (λ x. before ++ x) (sym (map_more (word_sum f word) ws i [] l))

abbrev multiples_of : FieldName → List ℕ → List (List ℕ) → ℕ → List (List ℕ)
multiples_of f row ws n = flat_map (λ c. map (word_sum f (scale f c row)) ws) (below n)

-- the sums with the multiple by 0
same_words : (f : FieldName) (n : ℕ) (ws : List (List ℕ)) → AreRows f n ws → map (word_sum f (zero_word n)) ws ≡ ws
same_words f n [] r = refl
same_words f n (w ∷ ws) r = ap₂ (λ x y. x ∷ y) (zero_sum f n w (r 0 [] (omega arith))) (same_words f n ws (All-tail (IsWord f n) w ws r))

one_more : (f : FieldName) (c : ℕ) (row : List ℕ) (ws : List (List ℕ)) → multiples_of f row ws (c + 1) ≡ multiples_of f row ws c ++ map (word_sum f (scale f c row)) ws
unfolding below
one_more f c row ws =
    let next : c + 1 ≡ suc c = omega arith in
    let g = λ (c : ℕ). map (word_sum f (scale f c row)) ws in
    let one : flat_map g (c ∷ []) ≡ g c = search rules in
    ap (multiples_of f row ws) next ∙ flat_map-append g (below c) (c ∷ []) ∙ ap (λ x. multiples_of f row ws c ++ x) one

pub multiples_none : (f : FieldName) (row : List ℕ) (ws sums : List (List ℕ)) → AreRows f (length row) ws → sums ≡ [] → ws ++ sums ≡ multiples_of f row ws 1
unfolding below
multiples_none f row ws sums r none =
    let zero : scale f 0 row ≡ zero_word (length row) = zero_scale f (length row) row refl in
    let first : multiples_of f row ws 0 ≡ [] = refl in
    let one : multiples_of f row ws 1 ≡ ws = one_more f 0 row ws ∙ ap₂ (λ x u. x ++ map (word_sum f u) ws) first zero ∙ same_words f (length row) ws r in
    let end : ws ++ [] ≡ ws = search rules in
    ap (λ x. ws ++ x) none ∙ end ∙ sym one

pub multiples_more : (f : FieldName) (c : ℕ) (row multiple : List ℕ) (ws shown now after : List (List ℕ)) → ws ++ now ≡ multiples_of f row ws c → multiple ≡ scale f c row → shown ≡ ws → after ≡ now ++ map (word_sum f multiple) shown → ws ++ after ≡ multiples_of f row ws (c + 1)
multiples_more f c row multiple ws shown now after e m same s =
    ap (λ x. ws ++ x) (s ∙ ap₂ (λ u z. now ++ map (word_sum f u) z) m same) ∙ sym (append_assoc ws now (map (word_sum f (scale f c row)) ws)) ∙ ap (λ x. x ++ map (word_sum f (scale f c row)) ws) e ∙ sym (one_more f c row ws)

-- words of the length of a multiple of a row
pub sums_fit : (f : FieldName) (c : ℕ) (row multiple : List ℕ) (ws shown : List (List ℕ)) → AreRows f (length row) ws → multiple ≡ scale f c row → shown ≡ ws → AreRows f (length multiple) shown
sums_fit f c row multiple ws shown r m same = rw (m, same, length_scale f c row) r

-- the words of the rows from place i up to the one before `to`
abbrev pub words_between : FieldName → ℕ → List (List ℕ) → ℕ → ℕ → List (List ℕ)
words_between f n rows i to = words f n (take (to - i) (drop i rows))

pub rows_none : (f : FieldName) (n to : ℕ) (rows before now : List (List ℕ)) (zero : List ℕ) → before ≡ [] → zero ≡ zero_word n → now ≡ before ++ zero ∷ [] → now ≡ words_between f n rows to to
unfolding words
rows_none f n to rows before now zero b z e =
    let none : to - to ≡ 0 = omega arith in
    e ∙ ap₂ (λ x y. x ++ y ∷ []) b z ∙ ap (λ m. words f n (take m (drop to rows))) (sym none)

pub rows_more : (f g : FieldName) (n i to : ℕ) (row : List ℕ) (rows now ws after : List (List ℕ)) → 0 < i → i ≤ to → to ≤ length rows → g ≡ f → row ≡ slice_index_or rows (i - 1) [] → ws ≡ now → now ≡ words_between f n rows i to → after ≡ multiples_of g row ws (size g) → after ≡ words_between f n rows (i - 1) to
unfolding words
rows_more f g n i to row rows now ws after some l inside same is shown e s =
    let m = to - i in
    let long : to - (i - 1) ≡ suc m = omega (arith, l, some) in
    let next : suc (i - 1) ≡ i = omega (arith, some) in
    let r = slice_index_or rows (i - 1) [] in
    let cut : take (to - (i - 1)) (drop (i - 1) rows) ≡ r ∷ take m (drop i rows) = ap₂ (λ k xs. take k xs) long (drop-cons rows (i - 1) [] (omega (arith, l, some, inside))) ∙ ap (λ k. r ∷ take m (drop k rows)) next in
    s ∙ rw (same, is, shown) (ap (λ ws. multiples_of f r ws (size f)) e) ∙ sym (ap (words f n) cut)

pub words_are_words : (f : FieldName) (n : ℕ) (rows : List (List ℕ)) → AreRows f n rows → AreRows f n (words f n rows)
words_are_words f n rows r = All-from_get_or (IsWord f n) (words f n rows) [] (λ i l. span_word f n rows (slice_index_or (words f n rows) i []) r (word_of_member f n rows (slice_index_or (words f n rows) i []) (Contains-get_or (words f n rows) i [] l)))

pub between_are_words : (f : FieldName) (n i to : ℕ) (rows : List (List ℕ)) → AreRows f n rows → AreRows f n (words_between f n rows i to)
between_are_words f n i to rows r = words_are_words f n (take (to - i) (drop i rows)) (All-take (IsWord f n) (to - i) (drop i rows) (All-drop (IsWord f n) i rows r))

pub between_are_rows : (f g : FieldName) (n i to : ℕ) (row : List ℕ) (rows now ws : List (List ℕ)) → AreRows f n rows → g ≡ f → length row ≡ n → ws ≡ now → now ≡ words_between f n rows i to → AreRows g (length row) ws
between_are_rows f g n i to row rows now ws r same long shown e = rw (same, long, shown, e) (between_are_words f n i to rows r)
