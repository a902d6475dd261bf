-- Punctured and shortened codes.
--   nothing_kept, symbol_left, symbol_kept      a word without coordinates, symbol by symbol from the left
--   deleted_linear         deleting coordinates is linear
--   punctured_words, punctured_members, punctured_code
--   dot_without            deleting coordinates at which one word is 0 keeps the dot
--   filled_from            a word, with 0 put in at the coordinates that were deleted
--   without_filled, filled_zero, filled_word
--   shortened_words, shortened_members, shortened_code
use Rattle.std.proofs.Common.{◌≡◌, ℕ, zero, suc, ◌+◌, ◌-◌, ◌<◌, ◌↔◌, Bool, true, false, cond, ◌==◌, List, [], ◌∷◌, ◌++◌, map, length, take, slice_index, slice_index_or, None, Contains, All, refl, sym, ap, subst, ◌∙◌, ⊎_elim, arith, add-one}
use Rattle.std.specs.List.{list_any}
use Rattle.std.proofs.Math.Seq.{take-suc}
use Rattle.std.proofs.lemmas.List.{length-take-le, get_or_default}
use Rattle.std.proofs.lemmas.Bool.{cases_Bool, eqb-true, eq-eqb}
use Rattle.std.proofs.lemmas.List.Elements.{All-map, All-head, All-tail, All-cons, All-contains}
use Rattle.lc_algebra.specs.declared.FieldName.{FieldName}
use Rattle.lc_algebra.specs.Field.{size, add, mul}
use Rattle.lc_algebra.specs.Word.{Fits, IsWord, zero_word, word_dot}
use Rattle.lc_algebra.specs.Span.{InSpan}
use Rattle.lc_algebra.specs.Matrix.{Matrix, AreRows, IsReduced, IsOrthogonal}
use Rattle.lc_algebra.proofs.FieldLaws.{zero_inside, zero_add, mul_zero}
use Rattle.lc_algebra.proofs.WordLaws.{fits_head, fits_tail, fits_cons, word_cons, IsWord_zero, dot_inside}
use Rattle.lc_algebra.proofs.SpanLaws.{span_word}
use Rattle.lc_algebra.proofs.SpanSearch.{any_contains, contains_any}
use Rattle.lc_constructions.specs.Code.{IsCode, CheckedBy}
use Rattle.lc_constructions.specs.Basic.{GeneratedBy}
use Rattle.lc_constructions.specs.Combined.{InDual, without_from, without, InPunctured, InShortened}
use Rattle.lc_constructions.specs.Refusal.{first_refusal}
use Rattle.lc_constructions.specs.Refusals.{deleted_refusals}
use Rattle.lc_constructions.proofs.ClosedLaws.{without_sum, without_scale, without_zero}
use Rattle.lc_constructions.proofs.WithoutLaws.{length_without, deleted_fine, deleted_length, kept, taken}
use Rattle.lc_matrix.proofs.PlaceLaws.{at_place}
use Rattle.lc_code.proofs.GeneratedLaws.{generated_by, checked_by, dual_orthogonal, shaped}
use Rattle.lc_linear_laws.proofs.LinearLaws.{IsLinear, image_rows, image_span, span_image}
use Rattle.lc_combine.specs.Rows.{punctured_rows}

is_one : (i : ℕ) (coordinates : List ℕ) → Contains coordinates i → list_any (λ p. i == p) coordinates ≡ true
is_one i coordinates c = contains_any (λ p. i == p) coordinates i c (eq-eqb i i refl)

is_none : (i : ℕ) (coordinates : List ℕ) → (Contains coordinates i → ⊥) → list_any (λ p. i == p) coordinates ≡ false
is_none i coordinates n =
    ⊎_elim
    (λ t. let (q, c, e) = any_contains (λ p. i == p) coordinates t in absurd (n (subst (Contains coordinates) (sym (eqb-true i q e)) c)))
    (λ t. t)
    (cases_Bool (list_any (λ p. i == p) coordinates))

-- ---- symbol by symbol

pub nothing_kept : (coordinates w : List ℕ) → without coordinates (take 0 w) ≡ []
unfolding without without_from
nothing_kept coordinates w = refl

last_left : (i j : ℕ) (coordinates w : List ℕ) (a : ℕ) → j ≡ i + length w → list_any (λ p. j == p) coordinates ≡ true → without_from i coordinates (w ++ a ∷ []) ≡ without_from i coordinates w
unfolding without_from
last_left i j coordinates [] a e h = let k : j ≡ i = omega (arith, e) in taken i coordinates a [] (subst (λ m. list_any (λ p. m == p) coordinates ≡ true) k h)
last_left i j coordinates (x ∷ w) a e h =
    let t = last_left (suc i) j coordinates w a (omega (arith, e)) h in
    ap (λ u. cond (list_any (λ p. i == p) coordinates) u (x ∷ u)) t

cond_append : (b : Bool) (x : ℕ) (u v : List ℕ) → cond b (u ++ v) (x ∷ u ++ v) ≡ cond b u (x ∷ u) ++ v
cond_append true x u v = refl
cond_append false x u v = refl

last_kept : (i j : ℕ) (coordinates w : List ℕ) (a : ℕ) → j ≡ i + length w → list_any (λ p. j == p) coordinates ≡ false → without_from i coordinates (w ++ a ∷ []) ≡ without_from i coordinates w ++ a ∷ []
unfolding without_from
last_kept i j coordinates [] a e h = let k : j ≡ i = omega (arith, e) in kept i coordinates a [] (subst (λ m. list_any (λ p. m == p) coordinates ≡ false) k h)
last_kept i j coordinates (x ∷ w) a e h =
    let t = last_kept (suc i) j coordinates w a (omega (arith, e)) h in
    ap (λ u. cond (list_any (λ p. i == p) coordinates) u (x ∷ u)) t ∙ cond_append (list_any (λ p. i == p) coordinates) x (without_from (suc i) coordinates w) (a ∷ [])

pub symbol_left : (coordinates w s : List ℕ) (i : ℕ) → i < length w → Contains coordinates i → s ≡ without coordinates (take i w) → s ≡ without coordinates (take (i + 1) w)
unfolding without
symbol_left coordinates w s i l c e =
    e ∙ sym (ap (without_from 0 coordinates) (ap (λ k. take k w) (add-one i) ∙ take-suc w i 0 l) ∙ last_left 0 i coordinates (take i w) (slice_index w i) (omega (arith, length-take-le i w (omega (arith, l)))) (is_one i coordinates c))

pub symbol_kept : (coordinates w s : List ℕ) (i : ℕ) → i < length w → (Contains coordinates i → ⊥) → s ≡ without coordinates (take i w) → s ++ slice_index w i ∷ [] ≡ without coordinates (take (i + 1) w)
unfolding without
symbol_kept coordinates w s i l n e =
    ap (λ t. t ++ slice_index w i ∷ []) e ∙ sym (ap (without_from 0 coordinates) (ap (λ k. take k w) (add-one i) ∙ take-suc w i 0 l) ∙ last_kept 0 i coordinates (take i w) (slice_index w i) (omega (arith, length-take-le i w (omega (arith, l)))) (is_none i coordinates n))

-- ---- punctured codes

fits_cond : (f : FieldName) (b : Bool) (a : ℕ) (u : List ℕ) → a < size f → Fits f u → Fits f (cond b u (a ∷ u))
fits_cond f true a u l h = h
fits_cond f false a u l h = fits_cons f a u l h

fits_without : (f : FieldName) (i : ℕ) (coordinates w : List ℕ) → Fits f w → Fits f (without_from i coordinates w)
unfolding without_from
fits_without f i coordinates [] h = h
fits_without f i coordinates (a ∷ w) h = fits_cond f (list_any (λ p. i == p) coordinates) a (without_from (suc i) coordinates w) (fits_head f a w h) (fits_without f (suc i) coordinates w (fits_tail f a w h))

pub deleted_linear : (C : Matrix) (coordinates : List ℕ) → first_refusal (deleted_refusals C coordinates) ≡ None → IsLinear C.field C.columns (C.columns - length coordinates) (without coordinates)
unfolding without
deleted_linear C coordinates h =
    let (rising, inside) = deleted_fine C coordinates h in
    let n = C.columns in
    record {
      word = λ u a. record { long = length_without n coordinates u a.long rising inside; fits = fits_without C.field 0 coordinates u a.fits };
      zero = without_zero coordinates n ∙ ap zero_word (deleted_length C coordinates h);
      sums = λ u v a b. sym (without_sum C.field coordinates u v (a.long ∙ sym b.long));
      multiples = λ c u a. sym (without_scale C.field c coordinates u);
    }

pub punctured_words : (C : Matrix) (coordinates : List ℕ) (g : FieldName) (k : ℕ) (rows : List (List ℕ)) → first_refusal (deleted_refusals C coordinates) ≡ None → g ≡ C.field → k ≡ C.columns - length coordinates → AreRows C.field C.columns C.rows → rows ≡ punctured_rows coordinates C.rows → AreRows g k rows
punctured_words C coordinates g k rows h a b r e =
    let m = C.columns - length coordinates in
    shaped C.field g m k (punctured_rows coordinates C.rows) rows a b e (image_rows C.field C.columns m (without coordinates) C.rows (deleted_linear C coordinates h) r)

pub punctured_members : (C : Matrix) (coordinates w : List ℕ) → first_refusal (deleted_refusals C coordinates) ≡ None → AreRows C.field C.columns C.rows → InSpan C.field (C.columns - length coordinates) (punctured_rows coordinates C.rows) w ↔ InPunctured C coordinates w
punctured_members C coordinates w h r =
    let f = C.field in
    let m = C.columns - length coordinates in
    let s = deleted_linear C coordinates h in (
      (λ p. span_image f C.columns m (without coordinates) C.rows w s r p),
      (λ p. subst (InSpan f m (punctured_rows coordinates C.rows)) (sym p.2) (image_span f C.columns m (without coordinates) C.rows p.0 s r p.1)),
    )

pub punctured_code : (C E : Matrix) (coordinates : List ℕ) (g : FieldName) (k : ℕ) (rows : List (List ℕ)) → AreRows C.field C.columns C.rows → first_refusal (deleted_refusals C coordinates) ≡ None → g ≡ C.field → k ≡ C.columns - length coordinates → rows ≡ punctured_rows coordinates C.rows → IsCode g k (GeneratedBy g k rows) E → IsCode C.field (C.columns - length coordinates) (InPunctured C coordinates) E
punctured_code C E coordinates g k rows r h a b e c = generated_by C.field g (C.columns - length coordinates) k (punctured_rows coordinates C.rows) rows (InPunctured C coordinates) E a b e (λ w _. punctured_members C coordinates w h r) c

-- ---- shortened codes

dot_cond : (f : FieldName) (t : Bool) (a b : ℕ) (h u x y : List ℕ) → (t ≡ true → b ≡ 0) → word_dot f x y ≡ word_dot f h u → word_dot f (cond t x (a ∷ x)) (cond t y (b ∷ y)) ≡ word_dot f (a ∷ h) (b ∷ u)
unfolding word_dot
dot_cond f true a b h u x y z e = e ∙ sym (ap (λ k. add f (mul f a k) (word_dot f h u)) (z refl) ∙ ap (λ k. add f k (word_dot f h u)) (mul_zero f a) ∙ zero_add f (word_dot f h u) (dot_inside f h u))
dot_cond f false a b h u x y z e = ap (add f (mul f a b)) e

dot_nothing : (f : FieldName) (u : List ℕ) → word_dot f u [] ≡ 0
unfolding word_dot
dot_nothing f [] = refl
dot_nothing f (a ∷ u) = refl

dot_without_from : (f : FieldName) (i : ℕ) (coordinates h u : List ℕ) → ((j k : ℕ) → j ≡ i + k → list_any (λ p. j == p) coordinates ≡ true → slice_index u k ≡ 0) → word_dot f (without_from i coordinates h) (without_from i coordinates u) ≡ word_dot f h u
unfolding without_from word_dot
dot_without_from f i coordinates [] u z = refl
dot_without_from f i coordinates (a ∷ h) [] z = dot_nothing f (without_from i coordinates (a ∷ h))
dot_without_from f i coordinates (a ∷ h) (b ∷ u) z =
    dot_cond f (list_any (λ p. i == p) coordinates) a b h u (without_from (suc i) coordinates h) (without_from (suc i) coordinates u) (λ t. z i 0 (omega arith) t) (dot_without_from f (suc i) coordinates h u (λ j k e t. z j (suc k) (omega (arith, e)) t))

pub dot_without : (f : FieldName) (coordinates h u : List ℕ) → All (λ p. slice_index u p ≡ 0) coordinates → word_dot f (without coordinates h) (without coordinates u) ≡ word_dot f h u
unfolding without
dot_without f coordinates h u z =
    dot_without_from f 0 coordinates h u (λ j k e t.
    let (q, c, x) = any_contains (λ p. j == p) coordinates t in
    let y : k ≡ q = omega (arith, e, eqb-true j q x) in
    ap (slice_index u) y ∙ All-contains (λ p. slice_index u p ≡ 0) coordinates q z c)

unfoldable first : List ℕ → ℕ
first [] = 0
first (a ∷ w) = a

unfoldable rest : List ℕ → List ℕ
rest [] = []
rest (a ∷ w) = w

unfoldable filled_from : ℕ → List ℕ → ℕ → List ℕ → List ℕ
filled_from i coordinates zero w = []
filled_from i coordinates (suc n) w = cond (list_any (λ p. i == p) coordinates) (0 ∷ filled_from (suc i) coordinates n w) (first w ∷ filled_from (suc i) coordinates n (rest w))

filled_taken : (i : ℕ) (coordinates : List ℕ) (n : ℕ) (w : List ℕ) → list_any (λ p. i == p) coordinates ≡ true → filled_from i coordinates (suc n) w ≡ 0 ∷ filled_from (suc i) coordinates n w
unfolding filled_from
filled_taken i coordinates n w e = rw e refl

filled_kept : (i : ℕ) (coordinates : List ℕ) (n : ℕ) (w : List ℕ) → list_any (λ p. i == p) coordinates ≡ false → filled_from i coordinates (suc n) w ≡ first w ∷ filled_from (suc i) coordinates n (rest w)
unfolding filled_from
filled_kept i coordinates n w e = rw e refl

whole : (w : List ℕ) (m : ℕ) → length w ≡ suc m → first w ∷ rest w ≡ w
unfolding first rest
whole [] m e = absurd (omega (arith, e))
whole (a ∷ w) m e = refl

rest_length : (w : List ℕ) (m : ℕ) → length w ≡ suc m → length (rest w) ≡ m
unfolding rest
rest_length [] m e = absurd (omega (arith, e))
rest_length (a ∷ w) m e = omega (arith, e)

empty : (w : List ℕ) → length w ≡ 0 → [] ≡ w
empty [] e = refl
empty (a ∷ w) e = absurd (omega (arith, e))

without_filled : (i : ℕ) (coordinates : List ℕ) (n : ℕ) (w : List ℕ) → length w ≡ length (without_from i coordinates (zero_word n)) → without_from i coordinates (filled_from i coordinates n w) ≡ w
unfolding without_from filled_from
without_filled i coordinates zero w e = empty w e
without_filled i coordinates (suc n) w e =
    ⊎_elim
    (λ t.
    ap (without_from i coordinates) (filled_taken i coordinates n w t) ∙ taken i coordinates 0 (filled_from (suc i) coordinates n w) t ∙ without_filled (suc i) coordinates n w (e ∙ ap length (taken i coordinates 0 (zero_word n) t)))
    (λ t.
    let k : length w ≡ suc (length (without_from (suc i) coordinates (zero_word n))) = e ∙ ap length (kept i coordinates 0 (zero_word n) t) in
    ap (without_from i coordinates) (filled_kept i coordinates n w t) ∙ kept i coordinates (first w) (filled_from (suc i) coordinates n (rest w)) t ∙ ap (λ u. first w ∷ u) (without_filled (suc i) coordinates n (rest w) (rest_length w (length (without_from (suc i) coordinates (zero_word n))) k)) ∙ whole w (length (without_from (suc i) coordinates (zero_word n))) k)
    (cases_Bool (list_any (λ p. i == p) coordinates))

filled_zero : (i j k : ℕ) (coordinates : List ℕ) (n : ℕ) (w : List ℕ) → j ≡ i + k → list_any (λ p. j == p) coordinates ≡ true → slice_index (filled_from i coordinates n w) k ≡ 0
unfolding filled_from
filled_zero i j k coordinates zero w e t = refl
filled_zero i j zero coordinates (suc n) w e t =
    let x : j ≡ i = omega (arith, e) in
    ap (λ u. slice_index u 0) (filled_taken i coordinates n w (subst (λ m. list_any (λ p. m == p) coordinates ≡ true) x t))
filled_zero i j (suc k) coordinates (suc n) w e t =
    let x : j ≡ suc i + k = omega (arith, e) in
    ⊎_elim
    (λ s. ap (λ u. slice_index u (suc k)) (filled_taken i coordinates n w s) ∙ filled_zero (suc i) j k coordinates n w x t)
    (λ s. ap (λ u. slice_index u (suc k)) (filled_kept i coordinates n w s) ∙ filled_zero (suc i) j k coordinates n (rest w) x t)
    (cases_Bool (list_any (λ p. i == p) coordinates))

first_fits : (f : FieldName) (w : List ℕ) → Fits f w → first w < size f
unfolding first
first_fits f [] h = zero_inside f
first_fits f (a ∷ w) h = fits_head f a w h

rest_fits : (f : FieldName) (w : List ℕ) → Fits f w → Fits f (rest w)
unfolding rest
rest_fits f [] h = h
rest_fits f (a ∷ w) h = fits_tail f a w h

filled_word : (f : FieldName) (i : ℕ) (coordinates : List ℕ) (n : ℕ) (w : List ℕ) → Fits f w → IsWord f n (filled_from i coordinates n w)
unfolding filled_from
filled_word f i coordinates zero w h = IsWord_zero f 0
filled_word f i coordinates (suc n) w h =
    ⊎_elim
    (λ s. subst (IsWord f (suc n)) (sym (filled_taken i coordinates n w s)) (word_cons f n 0 (filled_from (suc i) coordinates n w) (zero_inside f) (filled_word f (suc i) coordinates n w h)))
    (λ s. subst (IsWord f (suc n)) (sym (filled_kept i coordinates n w s)) (word_cons f n (first w) (filled_from (suc i) coordinates n (rest w)) (first_fits f w h) (filled_word f (suc i) coordinates n (rest w) (rest_fits f w h))))
    (cases_Bool (list_any (λ p. i == p) coordinates))

all_of_map : (P : List ℕ → Type 0) (h : List ℕ → List ℕ) (xs : List (List ℕ)) → All P (map h xs) → All (λ x. P (h x)) xs
all_of_map P h [] a = λ k d l. absurd (omega (arith, l))
all_of_map P h (x ∷ xs) a = All-cons (λ x. P (h x)) x xs (All-head P (h x) (map h xs) a) (all_of_map P h xs (All-tail P (h x) (map h xs) a))

pub shortened_words : (C H : Matrix) (coordinates : List ℕ) (g : FieldName) (k : ℕ) (rows : List (List ℕ)) → first_refusal (deleted_refusals C coordinates) ≡ None → IsCode C.field C.columns (InDual C) H → g ≡ C.field → k ≡ C.columns - length coordinates → rows ≡ punctured_rows coordinates H.rows → AreRows g k rows
shortened_words C H coordinates g k rows h d a b e =
    let m = C.columns - length coordinates in
    shaped C.field g m k (punctured_rows coordinates H.rows) rows a b e (image_rows C.field C.columns m (without coordinates) H.rows (deleted_linear C coordinates h) d.generator.words)

-- the dots with the punctured rows of the dual code are those of the word with zeros put in
same_dots : (f : FieldName) (coordinates w u : List ℕ) (rows : List (List ℕ)) → All (λ p. slice_index u p ≡ 0) coordinates → w ≡ without coordinates u → IsOrthogonal f (punctured_rows coordinates rows) w ↔ IsOrthogonal f rows u
same_dots f coordinates w u rows z e =
    let dot : (row : List ℕ) → word_dot f (without coordinates row) w ≡ word_dot f row u = λ row. ap (word_dot f (without coordinates row)) e ∙ dot_without f coordinates row u z in (
      (λ o. λ i d l. sym (dot (slice_index_or rows i d)) ∙ all_of_map (λ row. word_dot f row w ≡ 0) (without coordinates) rows o i d l),
      (λ o. All-map (λ row. word_dot f row w ≡ 0) (without coordinates) rows (λ i d l. dot (slice_index_or rows i d) ∙ o i d l)),
    )

pub shortened_members : (C H : Matrix) (coordinates w : List ℕ) → AreRows C.field C.columns C.rows → IsReduced C.columns C.rows → IsCode C.field C.columns (InDual C) H → first_refusal (deleted_refusals C coordinates) ≡ None → IsWord C.field (C.columns - length coordinates) w → IsOrthogonal C.field (punctured_rows coordinates H.rows) w ↔ InShortened C coordinates w
unfolding without
shortened_members C H coordinates w r reduced d h word =
    let f = C.field in
    let n = C.columns in (
      (λ o.
          let u = filled_from 0 coordinates n w in
          let x : IsWord f n u = filled_word f 0 coordinates n w word.fits in
          let e : without coordinates u ≡ w = without_filled 0 coordinates n w (word.long ∙ sym (deleted_length C coordinates h)) in
          let z : All (λ p. slice_index u p ≡ 0) coordinates = λ i d l.
          let p = slice_index_or coordinates i d in filled_zero 0 p p coordinates n w (omega arith) (is_one p coordinates (at_place coordinates i p l (get_or_default coordinates i 0 d l))) in
          (u, (dual_orthogonal C H u r reduced d x).0 ((same_dots f coordinates w u H.rows z (sym e)).0 o), z, sym e)),
      (λ p. let (u, c, z, e) = p in (same_dots f coordinates w u H.rows z e).1 ((dual_orthogonal C H u r reduced d (span_word f n C.rows u r c)).1 c)),
    )

pub shortened_code : (C H E : Matrix) (coordinates : List ℕ) (g : FieldName) (k : ℕ) (rows : List (List ℕ)) → AreRows C.field C.columns C.rows → IsReduced C.columns C.rows → IsCode C.field C.columns (InDual C) H → first_refusal (deleted_refusals C coordinates) ≡ None → g ≡ C.field → k ≡ C.columns - length coordinates → rows ≡ punctured_rows coordinates H.rows → IsCode g k (CheckedBy g rows) E → IsCode C.field (C.columns - length coordinates) (InShortened C coordinates) E
shortened_code C H E coordinates g k rows r reduced d h a b e c =
    checked_by C.field g (C.columns - length coordinates) k (punctured_rows coordinates H.rows) rows (InShortened C coordinates) E a b e (λ w word. shortened_members C H coordinates w r reduced d h word) c

pub ruleset keep_laws = (symbol_left, symbol_kept)
