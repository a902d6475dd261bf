-- Codes whose parts shift at once.
--   parts_of               the first part of a word, and the others
--   side_linear            one linear map for the first part and one for the others make a linear map
--   shift_parts            the cyclic shift of each part
--   parts_linear           it is linear
--   shift_row              the shift of words, one after the other
--   rows_shift             the shift of a row of circulant matrices is a row again
--   circulants_kept, circulants_closed      so the code of the rows is quasi-cyclic
--   circulants_contain     it contains the words one after the other
--   circulants_smallest    and lies in each quasi-cyclic code that does
--   circulant_cyclic, circulant_smallest      of one word, the same of cyclic codes
use Rattle.std.proofs.Common.{◌≡◌, ℕ, zero, suc, ◌+◌, ◌*◌, ◌%◌, ◌≤◌, ◌<◌, List, [], ◌∷◌, ◌++◌, length, map, flat_map, take, drop, slice_index_or, All, refl, sym, ap, ap₂, subst, ◌∙◌, ⊎_elim, arith}
use Rattle.std.proofs.Math.Nat.{suc-mul, zero-mul, mul-mod_left, mod_self}
use Rattle.std.proofs.Math.Seq.{take-append_seam, drop-append_seam}
use Rattle.std.proofs.lemmas.Bool.{cases_lt}
use Rattle.std.proofs.lemmas.List.{append-nil, take-append-drop, length-append}
use Rattle.std.proofs.lemmas.List.Concat.{flat_map-cons}
use Rattle.std.proofs.lemmas.List.Folds.{flat_map-map}
use Rattle.std.proofs.lemmas.List.Elements.{All-head, All-tail, All-cons, All-map}
use Rattle.lc_algebra.specs.declared.FieldName.{FieldName}
use Rattle.lc_algebra.specs.Word.{IsWord, zero_word, word_sum, scale}
use Rattle.lc_algebra.specs.Span.{below, InSpan}
use Rattle.lc_algebra.specs.Matrix.{Matrix, AreRows}
use Rattle.lc_algebra.proofs.WordLaws.{IsWord_sum, length_scale, length_zero_word, fits_take, fits_drop}
use Rattle.lc_algebra.proofs.SpanLaws.{span_word, span_within, span_of_member, map_contains, below_contains, length_below, index_below}
use Rattle.lc_constructions.specs.Code.{InCode, IsCode}
use Rattle.lc_constructions.specs.Basic.{GeneratedBy}
use Rattle.lc_constructions.proofs.ClosedLaws.{sum_parts, scale_parts, zero_parts}
use Rattle.lc_language.specs.Relations.{shifted, IsSubcode, IsCyclic}
use Rattle.lc_language.specs.Circulant.{shifted_by, circulant, circulants, joined, IsQuasiCyclic}
use Rattle.lc_linear_laws.proofs.LinearLaws.{IsLinear, image_span}
use Rattle.lc_linear_laws.proofs.PartLaws.{word_append, length_taken}
use Rattle.lc_relations.proofs.StructureLaws.{shift_linear}
use Rattle.lc_relations.proofs.UnionLaws.{told}
use Rattle.lc_circulant.proofs.ShiftLaws.{shifted_round, shifted_by_word}
use Rattle.lc_circulant.proofs.RowLaws.{row, circulant_words, words_long, one_circulant, one_long}

-- ---- a map of the first part and one of the others

abbrev side : ℕ → (List ℕ → List ℕ) → (List ℕ → List ℕ) → List ℕ → List ℕ
side n h g w = h (take n w) ++ g (drop n w)

pub parts_of : (n : ℕ) (a b : List ℕ) → length a ≡ n → (take n (a ++ b) ≡ a) × (drop n (a ++ b) ≡ b)
parts_of n a b e = (ap (λ k. take k (a ++ b)) (sym e) ∙ take-append_seam a b, ap (λ k. drop k (a ++ b)) (sym e) ∙ drop-append_seam a b)

side_of : (n : ℕ) (h g : List ℕ → List ℕ) (a b : List ℕ) → length a ≡ n → side n h g (a ++ b) ≡ h a ++ g b
side_of n h g a b e = let t = parts_of n a b e in ap₂ (λ (x y : List ℕ). h x ++ g y) t.0 t.1

record InParts (f : FieldName) (n m : ℕ) (u : List ℕ) : Type 0 where
  first : IsWord f n (take n u)
  others : IsWord f m (drop n u)
  whole : take n u ++ drop n u ≡ u

in_parts : (f : FieldName) (n m : ℕ) (u : List ℕ) → IsWord f (n + m) u → InParts f n m u
in_parts f n m u w =
    let t = length_taken n m u w.long in
    record {
      first = record { long = t.0; fits = fits_take f n u w.fits };
      others = record { long = t.1; fits = fits_drop f n u w.fits };
      whole = take-append-drop n u;
    }

pub side_linear : (f : FieldName) (n m : ℕ) (h g : List ℕ → List ℕ) → IsLinear f n n h → IsLinear f m m g → IsLinear f (n + m) (n + m) (side n h g)
side_linear f n m h g s t = record {
  word = λ u w. let p = in_parts f n m u w in word_append f n m (h (take n u)) (g (drop n u)) (s.word (take n u) p.first) (t.word (drop n u) p.others);
  zero = ap (side n h g) (sym (zero_parts n m)) ∙ side_of n h g (zero_word n) (zero_word m) (length_zero_word n) ∙ ap₂ (λ (x y : List ℕ). x ++ y) s.zero t.zero ∙ zero_parts n m;
  sums = λ u v a b.
      let p = in_parts f n m u a in
      let q = in_parts f n m v b in
      let u0 = take n u in
      let u1 = drop n u in
      let v0 = take n v in
      let v1 = drop n v in
      let same : length u0 ≡ length v0 = p.first.long ∙ sym q.first.long in
      let parted : word_sum f u v ≡ word_sum f u0 v0 ++ word_sum f u1 v1 = ap₂ (word_sum f) (sym p.whole) (sym q.whole) ∙ sum_parts f u0 v0 u1 v1 same in
      let long : length (word_sum f u0 v0) ≡ n = (IsWord_sum f n u0 v0 p.first.long q.first.long).long in
      let images : length (h u0) ≡ length (h v0) = (s.word u0 p.first).long ∙ sym (s.word v0 q.first).long in
      ap (side n h g) parted ∙ side_of n h g (word_sum f u0 v0) (word_sum f u1 v1) long
      ∙ ap₂ (λ (x y : List ℕ). x ++ y) (s.sums u0 v0 p.first q.first) (t.sums u1 v1 p.others q.others)
      ∙ sym (sum_parts f (h u0) (h v0) (g u1) (g v1) images);
  multiples = λ c u a.
      let p = in_parts f n m u a in
      let u0 = take n u in
      let u1 = drop n u in
      let parted : scale f c u ≡ scale f c u0 ++ scale f c u1 = ap (scale f c) (sym p.whole) ∙ scale_parts f c u0 u1 in
      ap (side n h g) parted ∙ side_of n h g (scale f c u0) (scale f c u1) (length_scale f c u0 ∙ p.first.long)
      ∙ ap₂ (λ (x y : List ℕ). x ++ y) (s.multiples c u0 p.first) (t.multiples c u1 p.others)
      ∙ sym (scale_parts f c (h u0) (g u1));
}

-- ---- the shift of each part

abbrev pub shift_parts : ℕ → ℕ → List ℕ → List ℕ
shift_parts n zero w = []
shift_parts n (suc k) w = side n shifted (shift_parts n k) w

nothing_linear : (f : FieldName) (n : ℕ) → IsLinear f 0 0 (shift_parts n zero)
unfolding word_sum scale
nothing_linear f n = record {
  word = λ u w. record { long = refl; fits = λ i l. absurd (omega (arith, l)) };
  zero = refl;
  sums = λ u v a b. refl;
  multiples = λ c u a. refl;
}

pub parts_linear : (f : FieldName) (n k : ℕ) → IsLinear f (k * n) (k * n) (shift_parts n k)
parts_linear f n zero = subst (λ m. IsLinear f m m (shift_parts n zero)) (sym (zero-mul n)) (nothing_linear f n)
parts_linear f n (suc k) =
    let e : n + k * n ≡ suc k * n = omega (arith, suc-mul k n) in
    subst (λ m. IsLinear f m m (shift_parts n (suc k))) e (side_linear f n (k * n) shifted (shift_parts n k) (shift_linear f n) (parts_linear f n k))

pub shift_row : (n : ℕ) (h : List ℕ → List ℕ) (xs : List (List ℕ)) → All (λ x. length (h x) ≡ n) xs → shift_parts n (length xs) (flat_map h xs) ≡ flat_map (λ x. shifted (h x)) xs
shift_row n h [] r = refl
shift_row n h (x ∷ xs) r =
    ap (side n shifted (shift_parts n (length xs))) (flat_map-cons h x xs)
    ∙ side_of n shifted (shift_parts n (length xs)) (h x) (flat_map h xs) (All-head (λ y. length (h y) ≡ n) x xs r)
    ∙ ap (λ (v : List ℕ). shifted (h x) ++ v) (shift_row n h xs (All-tail (λ y. length (h y) ≡ n) x xs r))
    ∙ sym (flat_map-cons (λ y. shifted (h y)) x xs)

-- ---- the rows

row_round : (n : ℕ) (xs : List (List ℕ)) → All (λ x. length x ≡ n) xs → row xs n ≡ row xs 0
unfolding shifted_by
row_round n [] r = refl
row_round n (x ∷ xs) r =
    flat_map-cons (shifted_by n) x xs
    ∙ ap₂ (λ (u v : List ℕ). u ++ v) (shifted_round n x (All-head (λ y. length y ≡ n) x xs r)) (row_round n xs (All-tail (λ y. length y ≡ n) x xs r))
    ∙ sym (flat_map-cons (shifted_by 0) x xs)

shifts_long : (f : FieldName) (n i : ℕ) (xs : List (List ℕ)) → AreRows f n xs → All (λ x. length (shifted_by i x) ≡ n) xs
shifts_long f n i xs r k d l = (shifted_by_word f n i (slice_index_or xs k d) (r k d l)).long

next_row : (f : FieldName) (n i : ℕ) (xs : List (List ℕ)) → AreRows f n xs → shift_parts n (length xs) (row xs i) ≡ row xs (suc i)
unfolding shifted_by
next_row f n i xs r = shift_row n (shifted_by i) xs (shifts_long f n i xs r)

row_inside : (f : FieldName) (n i : ℕ) (xs : List (List ℕ)) → AreRows f n xs → i < n → InSpan f (length xs * n) (circulants n xs) (row xs i)
unfolding circulants
row_inside f n i xs r l =
    span_of_member f (length xs * n) (circulants n xs) (row xs i) (circulant_words f n (length xs * n) xs (circulants n xs) r refl refl) (map_contains (row xs) (below n) i (below_contains n i l))

next_inside : (f : FieldName) (n i : ℕ) (xs : List (List ℕ)) → AreRows f n xs → i < n → InSpan f (length xs * n) (circulants n xs) (shift_parts n (length xs) (row xs i))
next_inside f n i xs r l =
    let P = InSpan f (length xs * n) (circulants n xs) in
    ⊎_elim
    (λ (b : suc i < n). subst P (sym (next_row f n i xs r)) (row_inside f n (suc i) xs r b))
    (λ (b : n ≤ suc i).
    let e : suc i ≡ n = omega (arith, b, l) in
    subst P (sym (next_row f n i xs r ∙ ap (row xs) e ∙ row_round n xs (words_long f n xs r))) (row_inside f n 0 xs r (omega (arith, l))))
    (cases_lt (suc i) n)

pub rows_shift : (f : FieldName) (n : ℕ) (xs : List (List ℕ)) → AreRows f n xs → All (InSpan f (length xs * n) (circulants n xs)) (map (shift_parts n (length xs)) (circulants n xs))
unfolding circulants
rows_shift f n xs r =
    let S = shift_parts n (length xs) in
    let P = InSpan f (length xs * n) (circulants n xs) in
    All-map P S (circulants n xs) (All-map (λ w. P (S w)) (row xs) (below n) (λ i d l.
    let m : i < n = subst (λ k. i < k) (length_below n) l in
    subst (λ j. P (S (row xs j))) (sym (index_below n i d m)) (next_inside f n i xs r m)))

-- ---- the code of the rows

length_joined : (n : ℕ) (us : List (List ℕ)) → All (λ u. length u ≡ n) us → length (joined us) ≡ length us * n
unfolding joined
length_joined n [] h = sym (zero-mul n)
length_joined n (u ∷ us) h =
    ap (λ (w : List ℕ). length w) (flat_map-cons (λ x. x) u us) ∙ length-append u (joined us)
    ∙ omega (arith, All-head (λ x. length x ≡ n) u us h, length_joined n us (All-tail (λ x. length x ≡ n) u us h), suc-mul (length us) n)

same_count : (a b n : ℕ) → 0 < n → a * n ≡ b * n → a ≡ b
same_count zero zero n l e = refl
same_count zero (suc b) n l e = absurd (omega (arith, l, e, zero-mul n, suc-mul b n))
same_count (suc a) zero n l e = absurd (omega (arith, l, e, zero-mul n, suc-mul a n))
same_count (suc a) (suc b) n l e = ap suc (same_count a b n l (omega (arith, e, suc-mul a n, suc-mul b n)))

joined_shift : (n : ℕ) (us : List (List ℕ)) → All (λ u. length u ≡ n) us → shift_parts n (length us) (joined us) ≡ joined (map shifted us)
unfolding joined
joined_shift n us h = shift_row n (λ u. u) us h ∙ sym (flat_map-map (λ u. u) shifted us)

circulants_kept : (f : FieldName) (n : ℕ) (xs us : List (List ℕ)) (C : Matrix) → 1 ≤ n → AreRows f n xs → IsCode f (length xs * n) (GeneratedBy f (length xs * n) (circulants n xs)) C → All (λ u. length u ≡ n) us → InCode C (joined us) → InCode C (joined (map shifted us))
circulants_kept f n xs us C l r c h i =
    let k = length xs in
    let N = k * n in
    let rows = circulants n xs in
    let (word, s) = (told f N (GeneratedBy f N rows) C (joined us) c).0 i in
    let parts : length us ≡ k = same_count (length us) k n (omega (arith, l)) (sym (length_joined n us h) ∙ word.long) in
    let words : AreRows f N rows = circulant_words f n N xs rows r refl refl in
    let image : InSpan f N (map (shift_parts n k) rows) (shift_parts n k (joined us)) = image_span f N N (shift_parts n k) rows (joined us) (parts_linear f n k) words s in
    let inside : InSpan f N rows (shift_parts n k (joined us)) = span_within f N (map (shift_parts n k) rows) rows (shift_parts n k (joined us)) words (rows_shift f n xs r) image in
    let is : shift_parts n k (joined us) ≡ joined (map shifted us) = ap (λ j. shift_parts n j (joined us)) (sym parts) ∙ joined_shift n us h in
    let out : InSpan f N rows (joined (map shifted us)) = subst (InSpan f N rows) is inside in
    (told f N (GeneratedBy f N rows) C (joined (map shifted us)) c).1 (span_word f N rows (joined (map shifted us)) words out, out)

pub circulants_closed : (f : FieldName) (n : ℕ) (xs : List (List ℕ)) (C : Matrix) → 1 ≤ n → AreRows f n xs → IsCode f (length xs * n) (GeneratedBy f (length xs * n) (circulants n xs)) C → IsQuasiCyclic n C
circulants_closed f n xs C l r c = (ap (λ m. m % n) c.length_is ∙ mul-mod_left (length xs) n, λ us h i. circulants_kept f n xs us C l r c h i)

first_row : (xs : List (List ℕ)) → row xs 0 ≡ joined xs
unfolding joined shifted_by
first_row xs = refl

pub circulants_contain : (f : FieldName) (n : ℕ) (xs : List (List ℕ)) (C : Matrix) → 1 ≤ n → AreRows f n xs → IsCode f (length xs * n) (GeneratedBy f (length xs * n) (circulants n xs)) C → InCode C (joined xs)
circulants_contain f n xs C l r c =
    let N = length xs * n in
    let rows = circulants n xs in
    let words : AreRows f N rows = circulant_words f n N xs rows r refl refl in
    let s : InSpan f N rows (joined xs) = subst (InSpan f N rows) (first_row xs) (row_inside f n 0 xs r (omega (arith, l))) in
    (told f N (GeneratedBy f N rows) C (joined xs) c).1 (span_word f N rows (joined xs) words s, s)

row_in : (f : FieldName) (n i : ℕ) (xs : List (List ℕ)) (D : Matrix) → AreRows f n xs → IsQuasiCyclic n D → InCode D (joined xs) → InCode D (joined (map (shifted_by i) xs))
unfolding shifted_by joined
row_in f n zero xs D r q h = subst (InCode D) (sym (flat_map-map (λ u. u) (shifted_by 0) xs)) h
row_in f n (suc i) xs D r q h =
    let us = map (shifted_by i) xs in
    let long : All (λ u. length u ≡ n) us = All-map (λ u. length u ≡ n) (shifted_by i) xs (shifts_long f n i xs r) in
    let e : joined (map shifted us) ≡ joined (map (shifted_by (suc i)) xs) = flat_map-map (λ u. u) shifted us ∙ flat_map-map shifted (shifted_by i) xs ∙ sym (flat_map-map (λ u. u) (shifted_by (suc i)) xs) in
    subst (InCode D) e (q.1 us long (row_in f n i xs D r q h))

pub circulants_smallest : (f : FieldName) (n : ℕ) (xs : List (List ℕ)) (C D : Matrix) → AreRows f n xs → IsCode f (length xs * n) (GeneratedBy f (length xs * n) (circulants n xs)) C → AreRows D.field D.columns D.rows → D.field ≡ f → D.columns ≡ length xs * n → IsQuasiCyclic n D → InCode D (joined xs) → IsSubcode C D
unfolding circulants joined
circulants_smallest f n xs C D r c s x y q h w i =
    let N = length xs * n in
    let rows = circulants n xs in
    let to : (v : List ℕ) → InCode D v → InSpan f N D.rows v = λ v k. subst (λ m. InSpan f m D.rows v) y (subst (λ g. InSpan g D.columns D.rows v) x k) in
    let back : (v : List ℕ) → InSpan f N D.rows v → InCode D v = λ v k. subst (λ g. InSpan g D.columns D.rows v) (sym x) (subst (λ m. InSpan f m D.rows v) (sym y) k) in
    let words : AreRows f N D.rows = subst (λ m. AreRows f m D.rows) y (subst (λ g. AreRows g D.columns D.rows) x s) in
    let each : All (InSpan f N D.rows) rows = All-map (InSpan f N D.rows) (row xs) (below n) (λ k d l.
    let j = slice_index_or (below n) k d in
    to (row xs j) (subst (InCode D) (flat_map-map (λ u. u) (shifted_by j) xs) (row_in f n j xs D r q h))) in
    back w (span_within f N rows D.rows w words each ((told f N (GeneratedBy f N rows) C w c).0 i).1)

-- ---- one word

one_quasi : (f : FieldName) (n : ℕ) (x : List ℕ) (C : Matrix) → IsCode f n (GeneratedBy f n (circulant n x)) C → IsCode f (length (x ∷ []) * n) (GeneratedBy f (length (x ∷ []) * n) (circulants n (x ∷ []))) C
one_quasi f n x C c =
    subst (λ m. IsCode f m (GeneratedBy f m (circulants n (x ∷ []))) C) (sym (one_long n x (x ∷ []) refl)) (subst (λ g. IsCode f n (GeneratedBy f n g) C) (sym (one_circulant n x)) c)

joined_one : (w : List ℕ) → joined (w ∷ []) ≡ w
unfolding joined
joined_one w = flat_map-cons (λ u. u) w [] ∙ append-nil w

one_row : (f : FieldName) (n : ℕ) (x : List ℕ) → IsWord f n x → AreRows f n (x ∷ [])
one_row f n x w = All-cons (IsWord f n) x [] w (λ i d l. absurd (omega (arith, l)))

pub circulant_cyclic : (f : FieldName) (n : ℕ) (x : List ℕ) (C : Matrix) → 1 ≤ n → IsWord f n x → IsCode f n (GeneratedBy f n (circulant n x)) C → IsCyclic C
circulant_cyclic f n x C l word c w i =
    let long : length w ≡ n = ((told f n (GeneratedBy f n (circulant n x)) C w c).0 i).0.long in
    subst (InCode C) (joined_one (shifted w)) (circulants_kept f n (x ∷ []) (w ∷ []) C l (one_row f n x word) (one_quasi f n x C c) (All-cons (λ u. length u ≡ n) w [] long (λ k d m. absurd (omega (arith, m)))) (subst (InCode C) (sym (joined_one w)) i))

single : (n : ℕ) (D : Matrix) (us : List (List ℕ)) → length us ≡ 1 → IsCyclic D → InCode D (joined us) → InCode D (joined (map shifted us))
single n D [] e q i = absurd (omega (arith, e))
single n D (u ∷ []) e q i = subst (InCode D) (sym (joined_one (shifted u))) (q u (subst (InCode D) (joined_one u) i))
single n D (u ∷ v ∷ us) e q i = absurd (omega (arith, e))

one_part : (n : ℕ) (D : Matrix) → 1 ≤ n → D.columns ≡ n → AreRows D.field D.columns D.rows → IsCyclic D → IsQuasiCyclic n D
one_part n D l e r q = (
  ap (λ m. m % n) e ∙ mod_self n,
  λ us h i.
      let word = span_word D.field D.columns D.rows (joined us) r i in
      let count : length us ≡ 1 = same_count (length us) 1 n (omega (arith, l)) (sym (length_joined n us h) ∙ word.long ∙ e ∙ omega (arith, suc-mul 0 n, zero-mul n)) in
      single n D us count q i,
)

pub circulant_smallest : (f : FieldName) (n : ℕ) (x : List ℕ) (C D : Matrix) → 1 ≤ n → IsWord f n x → IsCode f n (GeneratedBy f n (circulant n x)) C → AreRows D.field D.columns D.rows → D.field ≡ f → D.columns ≡ n → IsCyclic D → InCode D x → IsSubcode C D
circulant_smallest f n x C D l word c r a b q i =
    circulants_smallest f n (x ∷ []) C D (one_row f n x word) (one_quasi f n x C c) r a (b ∙ sym (one_long n x (x ∷ []) refl)) (one_part n D l b r q) (subst (InCode D) (sym (joined_one x)) i)
