-- The words of an alternant form are those that have dot 0 with the expanded checks.
--   gathered_value         the value of a combination of rows is the sum of the values of the rows
--   elements_again         elements that are made of their coordinates
--   check_elements         the entries of a check row are elements
--   coordinates_vanish     a syndrome is 0 exactly if the word has dot 0 with each coordinate row of its checks
--   expanded_to            so the word has dot 0 with the expanded checks exactly if the syndromes are 0
--   enough_checks          as many checks as points say as much as more
--   expanded_code          the code of the expanded checks is that of the form
use Rattle.std.proofs.Common.{◌≡◌, ℕ, zero, suc, ◌<◌, ◌≤◌, ◌↔◌, List, [], ◌∷◌, ◌++◌, map, length, slice_index, All, refl, sym, ap, ap₂, subst, ◌∙◌, ⊎_elim, arith}
use Rattle.std.specs.Prelude.{IsTrue}
use Rattle.std.proofs.lemmas.Bool.{cases_lt}
use Rattle.std.proofs.lemmas.List.{length-map, get_or-map, get_or_past}
use Rattle.std.proofs.lemmas.List.Elements.{All-nil, All-cons, All-append, All-head, All-tail, All-from_get_or}
use Rattle.lc_algebra.specs.declared.FieldName.{FieldName}
use Rattle.lc_algebra.specs.Field.{shape_of, size, is_symbol, add, mul, pow}
use Rattle.lc_algebra.specs.Polynomial.{value_at}
use Rattle.lc_algebra.specs.Embedding.{IsSubfield, embed}
use Rattle.lc_algebra.specs.Word.{Fits, IsWord, zero_word, scale, word_dot}
use Rattle.lc_algebra.specs.Span.{below, combine}
use Rattle.lc_algebra.specs.Matrix.{Matrix, AreRows, IsOrthogonal, column}
use Rattle.lc_algebra.proofs.ResidueLaws.{length-digits}
use Rattle.lc_algebra.proofs.FieldLaws.{mul_inside}
use Rattle.lc_algebra.proofs.WordLaws.{fits_head, fits_tail, fits_cons, length_scale, length_zero_word, zero_from_weight, weight_at_most_length, index_zero_word, same_words, dot_comm}
use Rattle.lc_algebra.proofs.SpanLaws.{length_below, combine_is_word}
use Rattle.lc_algebra.proofs.ReducedLaws.{index_combine}
use Rattle.lc_matrix.proofs.PlaceLaws.{index_below}
use Rattle.lc_constructions.specs.Code.{IsCode, CheckedBy}
use Rattle.lc_constructions.specs.Alternant.{AlternantForm, IsForm, check_row, syndrome_at, IsAlternantWord}
use Rattle.lc_constructions.proofs.AlternantLaws.{embedded_sum, embedded_scale, embedded_length, light_alternant, syndrome_of_zero}
use Rattle.lc_constructions.proofs.ClosedLaws.{value_of_sum, value_of_zeros, value_of_multiple}
use Rattle.lc_code.specs.Coordinates.{relative_degree, coordinates, element_of, IsNumbering, coordinate_row, expanded_rows, AreExpandedChecks, IsEnough}
use Rattle.lc_code.proofs.CoordinateTests.{fits_digits, zero_coordinates}
use Rattle.lc_code.proofs.CodeLaws.{same_code}

scaled_fits : (f : FieldName) (c : ℕ) (u : List ℕ) → Fits f (scale f c u)
unfolding scale
scaled_fits f c [] = λ i l. absurd (omega (arith, l))
scaled_fits f c (a ∷ u) = fits_cons f (mul f c a) (scale f c u) (mul_inside f c a) (scaled_fits f c u)

all_zero : (f : FieldName) (n : ℕ) (v : List ℕ) → IsWord f n v → ((i : ℕ) → i < n → slice_index v i ≡ 0) → v ≡ zero_word n
all_zero f n v w h =
    same_words v (zero_word n) (w.long ∙ sym (length_zero_word n)) (λ i.
    ⊎_elim
    (λ l. h i l ∙ sym (index_zero_word n i))
    (λ l. get_or_past v i 0 (omega (arith, l, w.long)) ∙ sym (index_zero_word n i))
    (cases_lt i n))

pub told_all : (P : List ℕ → Type 0) (g : ℕ → List ℕ) (n : ℕ) → ((m : ℕ) → m < n → P (g m)) → All P (map g (below n))
told_all P g n h =
    All-from_get_or P (map g (below n)) [] (λ m l.
    let k : m < n = omega (arith, l, length-map (below n) g, length_below n) in
    subst P (sym (get_or-map g (below n) m 0 [] (omega (arith, k, length_below n)) ∙ ap g (index_below n m k))) (h m k))

all_told : (P : List ℕ → Type 0) (g : ℕ → List ℕ) (n : ℕ) → All P (map g (below n)) → (m : ℕ) → m < n → P (g m)
all_told P g n h m k =
    let l : m < length (map g (below n)) = omega (arith, k, length-map (below n) g, length_below n) in
    subst P (get_or-map g (below n) m 0 [] (omega (arith, k, length_below n)) ∙ ap g (index_below n m k)) (h m [] l)

gathered_value : (f K : FieldName) (n x : ℕ) (z : List ℕ) (rows : List (List ℕ)) → IsSubfield f K → AreRows f n rows → Fits f z → value_at K (map (embed f K) (combine f n z rows)) x ≡ word_dot K (map (embed f K) z) (map (λ row. value_at K (map (embed f K) row) x) rows)
unfolding combine word_dot
gathered_value f K n x [] rows s r h = value_of_zeros f K n x s
gathered_value f K n x (c ∷ z) [] s r h = value_of_zeros f K n x s
gathered_value f K n x (c ∷ z) (g ∷ rows) s r h =
    let g_word = All-head (IsWord f n) g rows r in
    let rest = All-tail (IsWord f n) g rows r in
    let v = combine f n z rows in
    let v_word = combine_is_word f n z rows rest in
    let l = fits_head f c z h in
    let g_scaled : IsWord f n (scale f c g) = record { long = length_scale f c g ∙ g_word.long; fits = scaled_fits f c g } in
    let e : length (map (embed f K) (scale f c g)) ≡ length (map (embed f K) v) = embedded_length f K (scale f c g) ∙ g_scaled.long ∙ sym v_word.long ∙ sym (embedded_length f K v) in
    ap (λ u. value_at K u x) (embedded_sum f K (scale f c g) v s g_scaled.fits v_word.fits)
    ∙ value_of_sum K (map (embed f K) (scale f c g)) (map (embed f K) v) x e
    ∙ ap₂ (λ a b. add K a b) (ap (λ u. value_at K u x) (embedded_scale f K c g s l g_word.fits) ∙ value_of_multiple K (embed f K c) (map (embed f K) g) x) (gathered_value f K n x z rows s rest (fits_tail f c z h))

elements_again : (f K : FieldName) (ts hs : List ℕ) → IsNumbering f K ts → Fits K hs → map (λ row. value_at K (map (embed f K) row) (shape_of K).primitive) (map (λ h. coordinates f K (slice_index ts h)) hs) ≡ hs
unfolding element_of
elements_again f K ts [] t h = refl
elements_again f K ts (a ∷ hs) t h = cc (t.element a (fits_head K a hs h), elements_again f K ts hs t (fits_tail K a hs h))

pub check_elements : (K : FieldName) (xs ys : List ℕ) (j : ℕ) → Fits K (check_row K xs ys j)
unfolding check_row
check_elements K [] ys j = λ i l. absurd (omega (arith, l))
check_elements K (x ∷ xs) [] j = λ i l. absurd (omega (arith, l))
check_elements K (x ∷ xs) (y ∷ ys) j = fits_cons K (mul K y (pow K x j)) (check_row K xs ys j) (mul_inside K y (pow K x j)) (check_elements K xs ys j)

coordinate_words : (f K : FieldName) (ts hs : List ℕ) → AreRows f (relative_degree f K) (map (λ h. coordinates f K (slice_index ts h)) hs)
coordinate_words f K ts [] = All-nil (IsWord f (relative_degree f K))
coordinate_words f K ts (h ∷ hs) =
    All-cons (IsWord f (relative_degree f K)) (coordinates f K (slice_index ts h)) (map (λ h. coordinates f K (slice_index ts h)) hs) (record { long = length-digits (size f) (relative_degree f K) (slice_index ts h); fits = fits_digits f (relative_degree f K) (slice_index ts h) }) (coordinate_words f K ts hs)

coordinate_column : (f K : FieldName) (ts : List ℕ) (i : ℕ) (hs : List ℕ) → column (map (λ h. coordinates f K (slice_index ts h)) hs) i ≡ coordinate_row f (relative_degree f K) ts i hs
unfolding coordinate_row
coordinate_column f K ts i [] = refl
coordinate_column f K ts i (h ∷ hs) = cc (coordinate_column f K ts i hs)

pub coordinates_vanish : (f K : FieldName) (ts hs w : List ℕ) → IsTrue (is_symbol f) → IsSubfield f K → IsNumbering f K ts → Fits K hs → Fits f w → (word_dot K (map (embed f K) w) hs ≡ 0) ↔ ((i : ℕ) → i < relative_degree f K → word_dot f (coordinate_row f (relative_degree f K) ts i hs) w ≡ 0)
coordinates_vanish f K ts hs w s t u h k =
    let n = relative_degree f K in
    let rows = map (λ h. coordinates f K (slice_index ts h)) hs in
    let r = coordinate_words f K ts hs in
    let v = combine f n w rows in
    let vw = combine_is_word f n w rows r in
    let e : value_at K (map (embed f K) v) (shape_of K).primitive ≡ word_dot K (map (embed f K) w) hs = gathered_value f K n (shape_of K).primitive w rows t r k ∙ ap (λ u. word_dot K (map (embed f K) w) u) (elements_again f K ts hs u h) in
    let d : (i : ℕ) → slice_index v i ≡ word_dot f (coordinate_row f (relative_degree f K) ts i hs) w = λ i. index_combine f n w rows i r ∙ ap (λ u. word_dot f w u) (coordinate_column f K ts i hs) ∙ dot_comm f w (coordinate_row f (relative_degree f K) ts i hs) in (
      (λ z i l. sym (d i) ∙ ap (λ u. slice_index u i) (zero_coordinates f K v s t vw (e ∙ z)) ∙ index_zero_word n i),
      (λ z. let o : v ≡ zero_word n = all_zero f n v vw (λ i l. d i ∙ z i l) in sym e ∙ ap (λ u. value_at K (map (embed f K) u) (shape_of K).primitive) o ∙ value_of_zeros f K n (shape_of K).primitive t),
    )

all_split : (P : List ℕ → Type 0) (us vs : List (List ℕ)) → All P (us ++ vs) → All P us × All P vs
all_split P [] vs a = (All-nil P, a)
all_split P (u ∷ us) vs a =
    let t = all_split P us vs (All-tail P u (us ++ vs) a) in
    (All-cons P u us (All-head P u (us ++ vs) a) t.0, t.1)

rows_told : (P : List ℕ → Type 0) (us vs : List (List ℕ)) → All P (us ++ vs) ↔ (All P us × All P vs)
rows_told P us vs = ((λ a. all_split P us vs a), (λ b. All-append P us vs b.0 b.1))

expanded_to : (f : FieldName) (form : AlternantForm) (ts w : List ℕ) (r : ℕ) → IsForm f form → IsNumbering f form.locator ts → Fits f w → IsOrthogonal f (expanded_rows f form ts r) w ↔ ((j : ℕ) → j < r → syndrome_at f form w j ≡ 0)
unfolding expanded_rows syndrome_at
expanded_to f form ts w zero h u k = ((λ o j l. absurd (omega (arith, l))), (λ z. All-nil (λ row. word_dot f row w ≡ 0)))
expanded_to f form ts w (suc r) h u k =
    let K = form.locator in
    let s = relative_degree f K in
    let hs = check_row K form.points form.multipliers r in
    let P : List ℕ → Type 0 = λ row. word_dot f row w ≡ 0 in
    let g : ℕ → List ℕ = λ i. coordinate_row f (relative_degree f K) ts i hs in
    let before = expanded_to f form ts w r h u k in
    let last = coordinates_vanish f K ts hs w h.symbol h.subfield u (check_elements K form.points form.multipliers r) k in (
      (λ o.
          let t = (rows_told P (expanded_rows f form ts r) (map g (below s))).0 o in
          let z : word_dot K (map (embed f K) w) hs ≡ 0 = last.1 (λ i l. all_told P g s t.1 i l) in
          λ j l. ⊎_elim (λ m. before.0 t.0 j m) (λ m. let e : r ≡ j = omega (arith, l, m) in subst (λ x. word_dot K (map (embed f K) w) (check_row K form.points form.multipliers x) ≡ 0) e z) (cases_lt j r)),
      (λ z. (rows_told P (expanded_rows f form ts r) (map g (below s))).1 (before.1 (λ j l. z j (omega (arith, l))), told_all P g s (λ i l. last.0 (z r (omega arith)) i l))),
    )

form_with : AlternantForm → ℕ → AlternantForm
form_with form c = record { locator = form.locator; points = form.points; multipliers = form.multipliers; r = c }

fewer_form : (f : FieldName) (form : AlternantForm) (c : ℕ) → IsForm f form → IsForm f (form_with form c)
unfolding form_with
fewer_form f form c h = record {
  symbol = h.symbol;
  subfield = h.subfield;
  length_is = h.length_is;
  points = h.points;
  distinct = h.distinct;
  count = h.count;
  multipliers = h.multipliers;
  nonzero = h.nonzero;
}

enough_checks : (f : FieldName) (form : AlternantForm) (c : ℕ) (w : List ℕ) → IsForm f form → IsEnough form c → IsWord f (length form.points) w → ((j : ℕ) → j < c → syndrome_at f form w j ≡ 0) ↔ IsAlternantWord f form w
unfolding form_with syndrome_at
enough_checks f form c w h e k = (
  (λ z j l.
      ⊎_elim
      (λ m. z j m)
      (λ m.
      let n : length form.points ≤ c = e.1 (omega (arith, l, m)) in
      let light = light_alternant f (form_with form c) w (fewer_form f form c h) k z (omega (arith, n, weight_at_most_length w, k.long)) in
      let o : w ≡ zero_word (length form.points) = zero_from_weight (length form.points) w k.long light in
      subst (λ x. syndrome_at f form x j ≡ 0) (sym o) (syndrome_of_zero f form (length form.points) j h.subfield))
      (cases_lt j c)),
  (λ z j l. z j (omega (arith, l, e.0))),
)

pub expanded_code : (f : FieldName) (form : AlternantForm) (c : ℕ) (rows : List (List ℕ)) (C : Matrix) → IsForm f form → IsEnough form c → AreExpandedChecks f form c rows → IsCode f (length form.points) (CheckedBy f rows) C → IsCode f (length form.points) (IsAlternantWord f form) C
expanded_code f form c rows C h e a k =
    let (ts, u, q) = a.each in
    same_code f (length form.points) (CheckedBy f rows) (IsAlternantWord f form) C
    (λ w v.
    let t = expanded_to f form ts w c h u v.fits in
    let b = enough_checks f form c w h e v in
    ((λ o. b.0 (t.0 (subst (λ x. IsOrthogonal f x w) q o))), (λ z. subst (λ x. IsOrthogonal f x w) (sym q) (t.1 (b.1 z)))))
    k
