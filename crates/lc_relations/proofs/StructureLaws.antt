-- When a code lies in its dual, is its dual, or is cyclic.
--   orthogonal_by_rows, not_orthogonal      a code lies in its dual exactly if every two rows, of which the second may be the first,
--                              have dot 0
--   dual_by_rows               a code is its dual exactly if both have the same reduced generator matrix
--   length_up              moving the symbols on keeps the length
--   shift_word, shift_linear               the cyclic shift of a sum is the sum of the shifts, and that of a multiple the multiple
--   mapped                 what holds of the images of some words holds of each entry of the list of images
--   cyclic_by_rows             a code is cyclic exactly if the shift of each row is in it
--   turned                     the shift is the word turned by one coordinate
use Rattle.std.proofs.Common.{◌≡◌, ℕ, zero, suc, ◌-◌, ◌<◌, ◌≤◌, ◌↔◌, Bool, IsTrue, true, false, List, [], ◌∷◌, ◌++◌, length, map, take, drop, slice_index_or, All, refl, sym, ap, ap₂, subst, ◌∙◌, ⊎_elim, arith, true≢false}
use Rattle.std.specs.Bool.{OnFalse}
use Rattle.std.specs.List.{slice_rotate_right}
use Rattle.std.proofs.Math.Seq.{take-append_seam, drop-append_seam}
use Rattle.std.proofs.lemmas.Bool.{cases_lt}
use Rattle.std.proofs.lemmas.List.{get_or_default}
use Rattle.std.proofs.lemmas.List.Elements.{All-head, All-tail, All-cons}
use Rattle.lc_algebra.proofs.FieldLaws.{zero_inside, add_zero, mul_zero}
use Rattle.lc_algebra.specs.declared.FieldName.{FieldName}
use Rattle.lc_algebra.specs.Field.{size, add, mul}
use Rattle.lc_algebra.specs.Residue.{top, up}
use Rattle.lc_algebra.specs.Word.{IsWord, Fits, zero_word, word_sum, scale, word_dot}
use Rattle.lc_algebra.specs.Span.{InSpan}
use Rattle.lc_algebra.specs.Matrix.{Matrix, AreRows, IsReduced, IsOrthogonal}
use Rattle.lc_algebra.proofs.WordLaws.{dot_comm, fits_head, fits_tail, fits_cons}
use Rattle.lc_algebra.proofs.SpanLaws.{span_row, span_word, span_within}
use Rattle.lc_algebra.proofs.ReducedLaws.{reduced_unique}
use Rattle.lc_constructions.specs.Code.{InCode, IsCode}
use Rattle.lc_constructions.specs.Combined.{InDual}
use Rattle.lc_language.specs.Relations.{IsSelfOrthogonal, IsSelfDual, IsCyclic, shifted}
use Rattle.lc_linear_laws.proofs.LinearLaws.{IsLinear, image_span}
use Rattle.lc_code.proofs.CodeLaws.{orthogonal_dual}

-- ---- codes in their dual

abbrev pub EarlierOrthogonal : FieldName → List (List ℕ) → ℕ → Type 0
EarlierOrthogonal f rows j = (i : ℕ) → i ≤ j → word_dot f (slice_index_or rows i []) (slice_index_or rows j []) ≡ 0

pairs : (f : FieldName) (rows : List (List ℕ)) → ((k : ℕ) → k < length rows → EarlierOrthogonal f rows k) → (i j : ℕ) → i < length rows → j < length rows → word_dot f (slice_index_or rows i []) (slice_index_or rows j []) ≡ 0
pairs f rows h i j l m =
    ⊎_elim
    (λ b. h j m i (omega (arith, b)))
    (λ b. dot_comm f (slice_index_or rows i []) (slice_index_or rows j []) ∙ h i l j b)
    (cases_lt i j)

pub orthogonal_by_rows : (C : Matrix) → AreRows C.field C.columns C.rows → ((k : ℕ) → k < length C.rows → EarlierOrthogonal C.field C.rows k) → IsTrue true ↔ IsSelfOrthogonal C
orthogonal_by_rows C r h =
    let f = C.field in
    let each : (i : ℕ) (d : List ℕ) → i < length C.rows → IsOrthogonal f C.rows (slice_index_or C.rows i d) = λ i d l k e m. rw (get_or_default C.rows i d [] l, get_or_default C.rows k e [] m) (pairs f C.rows h k i m l) in
    let row_dual : (i : ℕ) (d : List ℕ) → i < length C.rows → InDual C (slice_index_or C.rows i d) = λ i d l. (orthogonal_dual C (slice_index_or C.rows i d) r).0 (each i d l) in
    let word_orthogonal : (w : List ℕ) → InCode C w → IsOrthogonal f C.rows w = λ w s k e m. dot_comm f (slice_index_or C.rows k e) w ∙ row_dual k e m w s in
    ((λ z w s. (orthogonal_dual C w r).0 (word_orthogonal w s)), (λ k. refl))

pub not_orthogonal : (C : Matrix) (j : ℕ) (b : Bool) → AreRows C.field C.columns C.rows → j < length C.rows → b ≡ false → OnFalse b (EarlierOrthogonal C.field C.rows j → ⊥) → IsTrue false ↔ IsSelfOrthogonal C
not_orthogonal C j b r l e h = (
  (λ z. absurd (true≢false (sym z))),
  (λ k.
      let row : (i : ℕ) → i < length C.rows → InCode C (slice_index_or C.rows i []) = λ i m. span_row C.field C.columns C.rows r i [] m in
      absurd (subst (λ t. OnFalse t (EarlierOrthogonal C.field C.rows j → ⊥)) e h (λ i m. k (slice_index_or C.rows j []) (row j l) (slice_index_or C.rows i []) (row i (omega (arith, m, l)))))),
)

-- ---- codes that are their dual

pub dual_by_rows : (C H : Matrix) (b : Bool) → AreRows C.field C.columns C.rows → IsReduced C.columns C.rows → IsCode C.field C.columns (InDual C) H → IsTrue b ↔ (C.rows ≡ H.rows) → IsTrue b ↔ IsSelfDual C
dual_by_rows C H b r p d h =
    let f = C.field in
    let n = C.columns in (
      (λ z w word. (
        (λ s. ((d.generator.members w).0 (subst (λ rows. InSpan f n rows w) (h.0 z) s)).1),
        (λ k. subst (λ rows. InSpan f n rows w) (sym (h.0 z)) ((d.generator.members w).1 (word, k))),
      )),
      (λ k. h.1 (reduced_unique f n C.rows H.rows r d.generator.words p d.generator.reduced (λ w. (
        (λ s. let word = span_word f n C.rows w r s in (d.generator.members w).1 (word, (k w word).0 s)),
        (λ s. let m = (d.generator.members w).0 s in (k w m.0).1 m.1),
      )))),
    )

-- ---- cyclic codes

pub length_up : (c : ℕ) (w : List ℕ) → length (up c w) ≡ length w
unfolding up
length_up c [] = refl
length_up c (a ∷ w) = ap suc (length_up a w)

up_sum : (f : FieldName) (a b : ℕ) (u v : List ℕ) → up (add f a b) (word_sum f u v) ≡ word_sum f (up a u) (up b v)
unfolding up word_sum
up_sum f a b [] v = refl
up_sum f a b (x ∷ u) [] = refl
up_sum f a b (x ∷ u) (y ∷ v) = ap (λ w. add f a b ∷ w) (up_sum f x y u v)

up_scale : (f : FieldName) (c a : ℕ) (u : List ℕ) → up (mul f c a) (scale f c u) ≡ scale f c (up a u)
unfolding up scale
up_scale f c a [] = refl
up_scale f c a (x ∷ u) = ap (λ w. mul f c a ∷ w) (up_scale f c x u)

top_sum : (f : FieldName) (a b : ℕ) (u v : List ℕ) → length u ≡ length v → top (add f a b) (word_sum f u v) ≡ add f (top a u) (top b v)
unfolding top word_sum
top_sum f a b [] [] e = refl
top_sum f a b [] (y ∷ v) e = absurd (omega (arith, e))
top_sum f a b (x ∷ u) [] e = absurd (omega (arith, e))
top_sum f a b (x ∷ u) (y ∷ v) e = top_sum f x y u v (omega (arith, e))

top_scale : (f : FieldName) (c a : ℕ) (u : List ℕ) → top (mul f c a) (scale f c u) ≡ mul f c (top a u)
unfolding top scale
top_scale f c a [] = refl
top_scale f c a (x ∷ u) = top_scale f c x u

top_zero : (n : ℕ) → top 0 (zero_word n) ≡ 0
unfolding top
top_zero zero = refl
top_zero (suc n) = top_zero n

up_zero : (n : ℕ) → up 0 (zero_word n) ≡ zero_word n
unfolding up
up_zero zero = refl
up_zero (suc n) = ap (λ w. 0 ∷ w) (up_zero n)

up_fits : (f : FieldName) (a : ℕ) (u : List ℕ) → a < size f → Fits f u → Fits f (up a u)
unfolding up
up_fits f a [] l h = h
up_fits f a (x ∷ u) l h = fits_cons f a (up x u) l (up_fits f x u (fits_head f x u h) (fits_tail f x u h))

top_inside : (f : FieldName) (a : ℕ) (u : List ℕ) → a < size f → Fits f u → top a u < size f
unfolding top
top_inside f a [] l h = l
top_inside f a (x ∷ u) l h = top_inside f x u (fits_head f x u h) (fits_tail f x u h)

pub shift_word : (f : FieldName) (n : ℕ) (u : List ℕ) → IsWord f n u → IsWord f n (shifted u)
unfolding shifted
shift_word f n u w = record {
  long = length_up (top 0 u) u ∙ w.long;
  fits = up_fits f (top 0 u) u (top_inside f 0 u (zero_inside f) w.fits) w.fits;
}

shift_zero : (n : ℕ) → shifted (zero_word n) ≡ zero_word n
unfolding shifted
shift_zero n = ap (λ a. up a (zero_word n)) (top_zero n) ∙ up_zero n

shift_sum : (f : FieldName) (u v : List ℕ) → length u ≡ length v → shifted (word_sum f u v) ≡ word_sum f (shifted u) (shifted v)
unfolding shifted
shift_sum f u v e =
    let t : top 0 (word_sum f u v) ≡ add f (top 0 u) (top 0 v) = sym (ap (λ a. top a (word_sum f u v)) (add_zero f 0 (zero_inside f))) ∙ top_sum f 0 0 u v e in
    ap (λ a. up a (word_sum f u v)) t ∙ up_sum f (top 0 u) (top 0 v) u v

shift_scale : (f : FieldName) (c : ℕ) (u : List ℕ) → shifted (scale f c u) ≡ scale f c (shifted u)
unfolding shifted
shift_scale f c u =
    let t : top 0 (scale f c u) ≡ mul f c (top 0 u) = sym (ap (λ a. top a (scale f c u)) (mul_zero f c)) ∙ top_scale f c 0 u in
    ap (λ a. up a (scale f c u)) t ∙ up_scale f c (top 0 u) u

pub shift_linear : (f : FieldName) (n : ℕ) → IsLinear f n n shifted
shift_linear f n = record {
  word = λ u w. shift_word f n u w;
  zero = shift_zero n;
  sums = λ u v a b. shift_sum f u v (a.long ∙ sym b.long);
  multiples = λ c u a. shift_scale f c u;
}

pub mapped : (h : List ℕ → List ℕ) (P : List ℕ → Type 0) (rows : List (List ℕ)) → All (λ row. P (h row)) rows → All P (map h rows)
mapped h P [] k = λ i d l. absurd (omega (arith, l))
mapped h P (row ∷ rows) k = All-cons P (h row) (map h rows) (All-head (λ row. P (h row)) row rows k) (mapped h P rows (All-tail (λ row. P (h row)) row rows k))

pub cyclic_by_rows : (C : Matrix) (b : Bool) → AreRows C.field C.columns C.rows → IsTrue b ↔ All (λ row. InCode C (shifted row)) C.rows → IsTrue b ↔ IsCyclic C
cyclic_by_rows C b r h =
    let f = C.field in
    let n = C.columns in (
      (λ z w s. span_within f n (map shifted C.rows) C.rows (shifted w) r (mapped shifted (InCode C) C.rows (h.0 z)) (image_span f n n shifted C.rows w (shift_linear f n) r s)),
      (λ k. h.1 (λ i d l. k (slice_index_or C.rows i d) (span_row f n C.rows r i d l))),
    )

-- ---- the shift, by turning the symbols

turned_by : (a : ℕ) (w : List ℕ) → up a w ++ top a w ∷ [] ≡ a ∷ w
unfolding up top
turned_by a [] = refl
turned_by a (x ∷ w) = ap (λ u. a ∷ u) (turned_by x w)

pub turned : (w : List ℕ) → 0 < length w → slice_rotate_right w 1 ≡ shifted w
unfolding shifted up top
turned [] l = absurd (omega (arith, l))
turned (a ∷ w) l =
    let front = up a w in
    let last = top a w ∷ [] in
    let e : length (a ∷ w) - 1 ≡ length front = omega (arith, length_up a w) in
    let d : drop (length front) (a ∷ w) ≡ last = ap (drop (length front)) (sym (turned_by a w)) ∙ drop-append_seam front last in
    let t : take (length front) (a ∷ w) ≡ front = ap (take (length front)) (sym (turned_by a w)) ∙ take-append_seam front last in
    ap (λ (i : ℕ). drop i (a ∷ w) ++ take i (a ∷ w)) e ∙ ap₂ (λ (x y : List ℕ). x ++ y) d t
