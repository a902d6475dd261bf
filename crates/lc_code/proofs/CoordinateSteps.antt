-- How the coordinates of check rows are found, step by step.
--   small_size             a symbol field has at most 16 elements
--   degree_nonzero         the degree of a field is at least 1
--   degree_divided         the degree over a field, by the degrees of the two
--   form_length            a form has 1 to 255 points
--   enough_all, enough_points      all checks, or as many as points, say enough
--   entries_more           one entry of a check row more
--   row_more               one coordinate more
--   one_row, rows_more     one row of coordinates more
--   element_told           the element with as many coordinates as the degree
--   expanded_none, expanded_more, expanded_whole      the rows of one check row after another
--   entries_inside, symbols       entries and coordinates are elements
--   coordinate_first, coordinate_next      a coordinate, by the digits of the number
--   element_none, element_step, digit_inside      an element, by its coordinates
--   numbered_none, numbered_more, numbered_whole      numbers of coordinates, one after another
use Rattle.std.proofs.Common.{append_assoc, ◌≡◌, ℕ, zero, suc, ◌+◌, ◌-◌, ◌/◌, ◌%◌, ◌^◌, ◌<◌, ◌≤◌, List, [], ◌∷◌, ◌++◌, map, length, take, set, slice_index, refl, sym, ap, ap₂, subst, ◌∙◌, ⊎_elim, arith}
use Rattle.std.specs.Prelude.{IsTrue}
use Rattle.std.proofs.Math.Nat.{pow-zero, mod-lt}
use Rattle.std.proofs.Math.Seq.{take-suc}
use Rattle.std.proofs.lemmas.List.Elements.{All-nil, All-append}
use Rattle.std.proofs.lemmas.Bool.{cases_lt, cases_eq}
use Rattle.std.proofs.lemmas.List.{map-append, take_all, append-nil, length-set, get_or-set_same, get_or-set_other}
use Rattle.lc_algebra.specs.declared.FieldName.{FieldName}
use Rattle.lc_algebra.specs.Field.{shape_of, size, is_symbol, add, mul, pow}
use Rattle.lc_algebra.specs.Residue.{digits}
use Rattle.lc_algebra.specs.Embedding.{IsSubfield, embed}
use Rattle.lc_algebra.specs.Polynomial.{value_at}
use Rattle.lc_algebra.specs.Word.{IsWord}
use Rattle.lc_algebra.specs.Span.{below}
use Rattle.lc_algebra.specs.Matrix.{AreRows}
use Rattle.lc_algebra.proofs.WordLaws.{IsWord_zero, word_cons, fits_symbol}
use Rattle.lc_algebra.proofs.FieldLaws.{zero_inside, one_inside}
use Rattle.lc_constructions.specs.Code.{is_length}
use Rattle.lc_constructions.specs.Alternant.{AlternantForm, IsForm, check_row}
use Rattle.lc_code.specs.Coordinates.{relative_degree, element_of, IsNumbering, IsNumberedTo, coordinate_row, expanded_rows, AreExpandedChecks, IsEnough}
use Rattle.lc_code.proofs.CoordinateTests.{fits_digits, element_covered}
use Rattle.lc_code.proofs.CoordinateLaws.{told_all, check_elements}

pub small_size : (f : FieldName) → IsTrue (is_symbol f) → size f ≤ 16
unfolding is_symbol
small_size f h = grind (arith, h)

pub degree_nonzero : (f : FieldName) → 0 < (shape_of f).degree
unfolding size
degree_nonzero f =
    ⊎_elim (λ l. l)
    (λ l.
    let z : (shape_of f).degree ≡ 0 = omega (arith, l) in
    let e : size f ≡ 1 = ap (λ d. (shape_of f).characteristic ^ d) z ∙ pow-zero (shape_of f).characteristic in
    absurd (omega (arith, e, one_inside f)))
    (cases_lt 0 (shape_of f).degree)

pub degree_divided : (f K : FieldName) → relative_degree f K ≡ (shape_of K).degree / (shape_of f).degree
unfolding relative_degree
degree_divided f K = refl

pub length_bounds : (n : ℕ) → IsTrue (is_length n) → (1 ≤ n) × (n ≤ 255)
unfolding is_length
length_bounds n h = grind (arith, h)

pub form_length : (f : FieldName) (form : AlternantForm) → IsForm f form → (1 ≤ length form.points) × (length form.points ≤ 255)
form_length f form h = length_bounds (length form.points) h.length_is

pub enough_all : (form : AlternantForm) → IsEnough form form.r
enough_all form = (omega arith, λ k. absurd (omega (arith, k)))

pub enough_points : (form : AlternantForm) (n : ℕ) → n ≡ length form.points → n ≤ form.r → IsEnough form n
enough_points form n e l = (l, λ k. omega (arith, e))

check_last : (K : FieldName) (xs ys : List ℕ) (j x y : ℕ) → length ys ≡ length xs → check_row K (xs ++ x ∷ []) (ys ++ y ∷ []) j ≡ check_row K xs ys j ++ mul K y (pow K x j) ∷ []
unfolding check_row
check_last K [] [] j x y e = refl
check_last K [] (b ∷ ys) j x y e = absurd (omega (arith, e))
check_last K (a ∷ xs) [] j x y e = absurd (omega (arith, e))
check_last K (a ∷ xs) (b ∷ ys) j x y e = ap (λ t. mul K b (pow K a j) ∷ t) (check_last K xs ys j x y (omega (arith, e)))

length_taken : (k : ℕ) (ys xs : List ℕ) → length ys ≡ length xs → length (take k ys) ≡ length (take k xs)
length_taken zero ys xs e = refl
length_taken (suc k) [] [] e = refl
length_taken (suc k) [] (x ∷ xs) e = absurd (omega (arith, e))
length_taken (suc k) (y ∷ ys) [] e = absurd (omega (arith, e))
length_taken (suc k) (y ∷ ys) (x ∷ xs) e = ap suc (length_taken k ys xs (omega (arith, e)))

pub entries_more : (K : FieldName) (xs ys : List ℕ) (j k : ℕ) → k < length xs → length ys ≡ length xs → check_row K (take (suc k) xs) (take (suc k) ys) j ≡ check_row K (take k xs) (take k ys) j ++ mul K (slice_index ys k) (pow K (slice_index xs k) j) ∷ []
entries_more K xs ys j k l e =
    ap₂ (λ u v. check_row K u v j) (take-suc xs k 0 l) (take-suc ys k 0 (omega (arith, l, e)))
    ∙ check_last K (take k xs) (take k ys) j (slice_index xs k) (slice_index ys k) (length_taken k ys xs e)

pub row_more : (f : FieldName) (s : ℕ) (ts : List ℕ) (i : ℕ) (hs : List ℕ) (k : ℕ) → k < length hs → coordinate_row f s ts i (take (suc k) hs) ≡ coordinate_row f s ts i (take k hs) ++ slice_index (digits (size f) s (slice_index ts (slice_index hs k))) i ∷ []
unfolding coordinate_row
row_more f s ts i hs k l =
    let g : ℕ → ℕ = λ h. slice_index (digits (size f) s (slice_index ts h)) i in
    ap (λ u. map g u) (take-suc hs k 0 l) ∙ map-append g (take k hs) (slice_index hs k ∷ [])

one_row : (g : ℕ → List ℕ) (old rows : List (List ℕ)) (i : ℕ) → rows ≡ old ++ map g (below i) → rows ++ g i ∷ [] ≡ old ++ map g (below (suc i))
unfolding below
one_row g old rows i e =
    ap (λ u. u ++ g i ∷ []) e ∙ append_assoc old (map g (below i)) (g i ∷ []) ∙ ap (λ u. old ++ u) (sym (map-append g (below i) (i ∷ [])))

pub rows_more : (g : ℕ → List ℕ) (old rows new : List (List ℕ)) (row : List ℕ) (i : ℕ) → rows ≡ old ++ map g (below i) → row ≡ g i → new ≡ rows ++ row ∷ [] → new ≡ old ++ map g (below (i + 1))
rows_more g old rows new row i e r n =
    let d : suc i ≡ i + 1 = omega arith in
    n ∙ ap (λ u. rows ++ u ∷ []) r ∙ one_row g old rows i e ∙ ap (λ k. old ++ map g (below k)) d

pub numbered_none : (f K : FieldName) (ts : List ℕ) → length ts ≡ size K → IsNumberedTo f K 0 ts
numbered_none f K ts e = record { long = e; element = λ u l. absurd (omega (arith, l)) }

other_number : (f K : FieldName) (u t a : ℕ) → u < suc t → a ≡ element_of f K t → (element_of f K u ≡ a → ⊥) → u < t
other_number f K u t a m e q = ⊎_elim (λ l. l) (λ l. let x : u ≡ t = omega (arith, l, m) in absurd (q (ap (element_of f K) x ∙ sym e))) (cases_lt u t)

pub numbered_more : (f K : FieldName) (ts : List ℕ) (t a : ℕ) → a ≡ element_of f K t → a < size K → IsNumberedTo f K t ts → IsNumberedTo f K (t + 1) (set ts a t)
numbered_more f K ts t a e l h = record {
  long = length-set ts a t ∙ h.long;
  element = λ u m.
      ⊎_elim
      (λ (q : element_of f K u ≡ a).
      ap (λ b. element_of f K (slice_index (set ts a t) b)) q ∙ ap (element_of f K) (get_or-set_same ts a t 0 (omega (arith, l, h.long))) ∙ sym e ∙ sym q)
      (λ q.
      let k : u < t = other_number f K u t a (omega (arith, m)) e q in
      ap (element_of f K) (get_or-set_other ts a (element_of f K u) t 0 q) ∙ h.element u k)
      (cases_eq (element_of f K u) a);
}

pub numbered_whole : (f K : FieldName) (ts : List ℕ) (t : ℕ) → IsTrue (is_symbol f) → IsSubfield f K → t ≡ size K → IsNumberedTo f K t ts → IsNumbering f K ts
numbered_whole f K ts t s k e h = record {
  long = h.long;
  element = λ a l.
      let (u, m, q) = element_covered f K a s k l in
      subst (λ b. element_of f K (slice_index ts b) ≡ b) q (h.element u (omega (arith, m, e)));
}

pub coordinate_first : (q s t : ℕ) → 0 < s → slice_index (digits q s t) 0 ≡ t % q
unfolding digits
coordinate_first q zero t l = absurd (omega (arith, l))
coordinate_first q (suc s) t l = refl

pub coordinate_next : (q s t i : ℕ) → i < s → 0 < i → slice_index (digits q (s - 1) (t / q)) (i - 1) ≡ slice_index (digits q s t) i
unfolding digits
coordinate_next q zero t i l p = absurd (omega (arith, l))
coordinate_next q (suc s) t zero l p = absurd (omega (arith, p))
coordinate_next q (suc s) t (suc i) l p =
    let e : suc s - 1 ≡ s = omega arith in
    let d : suc i - 1 ≡ i = omega arith in
    rw (e, d) refl

pub element_none : (f K : FieldName) (t g : ℕ) → value_at K (map (embed f K) (digits (size f) 0 t)) g ≡ 0
unfolding digits value_at
element_none f K t g = refl

pub element_step : (f K : FieldName) (s t g : ℕ) → 0 < s → add K (embed f K (t % size f)) (mul K g (value_at K (map (embed f K) (digits (size f) (s - 1) (t / size f))) g)) ≡ value_at K (map (embed f K) (digits (size f) s t)) g
unfolding digits value_at
element_step f K zero t g l = absurd (omega (arith, l))
element_step f K (suc s) t g l = let e : suc s - 1 ≡ s = omega arith in rw e refl

pub digit_inside : (f : FieldName) (t : ℕ) → t % size f < size f
digit_inside f t = mod-lt t (zero_inside f)

pub entries_none : (K : FieldName) (xs ys : List ℕ) (j : ℕ) → [] ≡ check_row K (take 0 xs) (take 0 ys) j
unfolding check_row
entries_none K xs ys j = refl

pub entries_whole : (K : FieldName) (xs ys : List ℕ) (j k : ℕ) → length ys ≡ length xs → k ≡ length xs → check_row K (take k xs) (take k ys) j ≡ check_row K xs ys j
entries_whole K xs ys j k e d = ap₂ (λ u v. check_row K u v j) (take_all k xs (omega (arith, d))) (take_all k ys (omega (arith, d, e)))

pub row_none : (f : FieldName) (s : ℕ) (ts : List ℕ) (i : ℕ) (hs : List ℕ) → [] ≡ coordinate_row f s ts i (take 0 hs)
unfolding coordinate_row
row_none f s ts i hs = refl

pub row_whole : (f : FieldName) (s : ℕ) (ts : List ℕ) (i : ℕ) (hs : List ℕ) (k : ℕ) → k ≡ length hs → coordinate_row f s ts i (take k hs) ≡ coordinate_row f s ts i hs
row_whole f s ts i hs k e = ap (coordinate_row f s ts i) (take_all k hs (omega (arith, e)))

pub rows_none : (g : ℕ → List ℕ) (old : List (List ℕ)) → old ≡ old ++ map g (below 0)
unfolding below
rows_none g old = sym (append-nil old)

pub element_told : (f K : FieldName) (s t a : ℕ) → s ≡ relative_degree f K → a ≡ value_at K (map (embed f K) (digits (size f) s t)) (shape_of K).primitive → a ≡ element_of f K t
unfolding element_of
element_told f K s t a e h = h ∙ ap (λ n. value_at K (map (embed f K) (digits (size f) n t)) (shape_of K).primitive) e

pub expanded_none : (f : FieldName) (form : AlternantForm) (ts : List ℕ) → [] ≡ expanded_rows f form ts 0
unfolding expanded_rows
expanded_none f form ts = refl

pub expanded_more : (f : FieldName) (form : AlternantForm) (ts us hs : List ℕ) (s j : ℕ) (rows new : List (List ℕ)) → s ≡ relative_degree f form.locator → us ≡ ts → hs ≡ check_row form.locator form.points form.multipliers j → rows ≡ expanded_rows f form ts j → new ≡ rows ++ map (λ i. coordinate_row f s us i hs) (below s) → new ≡ expanded_rows f form ts (j + 1)
unfolding expanded_rows
expanded_more f form ts us hs s j rows new e t h r n =
    let d : suc j ≡ j + 1 = omega arith in
    n ∙ ap (λ u. u ++ map (λ i. coordinate_row f s us i hs) (below s)) r
    ∙ ap (λ u. expanded_rows f form ts j ++ map (λ i. coordinate_row f s u i hs) (below s)) t
    ∙ ap (λ u. expanded_rows f form ts j ++ map (λ i. coordinate_row f s ts i u) (below s)) h
    ∙ ap (λ m. expanded_rows f form ts j ++ map (λ i. coordinate_row f m ts i (check_row form.locator form.points form.multipliers j)) (below m)) e
    ∙ ap (expanded_rows f form ts) d

pub expanded_whole : (f : FieldName) (form : AlternantForm) (ts : List ℕ) (c : ℕ) (rows : List (List ℕ)) → IsNumbering f form.locator ts → rows ≡ expanded_rows f form ts c → AreExpandedChecks f form c rows
expanded_whole f form ts c rows t e = record { each = (ts, t, e) }

coordinate_word : (f : FieldName) (s : ℕ) (ts : List ℕ) (i : ℕ) (hs : List ℕ) → IsWord f (length hs) (coordinate_row f s ts i hs)
unfolding coordinate_row
coordinate_word f s ts i [] = IsWord_zero f 0
coordinate_word f s ts i (h ∷ hs) = word_cons f (length hs) (slice_index (digits (size f) s (slice_index ts h)) i) (coordinate_row f s ts i hs) (fits_symbol f (digits (size f) s (slice_index ts h)) (fits_digits f s (slice_index ts h)) i) (coordinate_word f s ts i hs)

length_check_row : (K : FieldName) (xs ys : List ℕ) (j : ℕ) → length ys ≡ length xs → length (check_row K xs ys j) ≡ length xs
unfolding check_row
length_check_row K [] ys j e = refl
length_check_row K (x ∷ xs) [] j e = absurd (omega (arith, e))
length_check_row K (x ∷ xs) (y ∷ ys) j e = ap suc (length_check_row K xs ys j (omega (arith, e)))

pub entries_inside : (f : FieldName) (form : AlternantForm) (ts hs : List ℕ) (j : ℕ) → IsNumbering f form.locator ts → hs ≡ check_row form.locator form.points form.multipliers j → (k : ℕ) → k < length hs → slice_index hs k < length ts
entries_inside f form ts hs j t e k l = omega (arith, subst (λ u. slice_index u k < size form.locator) (sym e) (fits_symbol form.locator (check_row form.locator form.points form.multipliers j) (check_elements form.locator form.points form.multipliers j) k), t.long)

expanded_words : (f : FieldName) (form : AlternantForm) (ts : List ℕ) (c : ℕ) → length form.multipliers ≡ length form.points → AreRows f (length form.points) (expanded_rows f form ts c)
unfolding expanded_rows
expanded_words f form ts zero e = All-nil (IsWord f (length form.points))
expanded_words f form ts (suc j) e =
    let hs = check_row form.locator form.points form.multipliers j in
    let s = relative_degree f form.locator in
    All-append (IsWord f (length form.points)) (expanded_rows f form ts j) (map (λ i. coordinate_row f s ts i hs) (below s)) (expanded_words f form ts j e)
    (told_all (IsWord f (length form.points)) (λ i. coordinate_row f s ts i hs) s (λ i l. subst (λ n. IsWord f n (coordinate_row f s ts i hs)) (length_check_row form.locator form.points form.multipliers j e) (coordinate_word f s ts i hs)))

pub symbols : (f : FieldName) (form : AlternantForm) (c : ℕ) (rows : List (List ℕ)) → length form.multipliers ≡ length form.points → AreExpandedChecks f form c rows → AreRows f (length form.points) rows
symbols f form c rows e a = let (ts, t, q) = a.each in subst (AreRows f (length form.points)) (sym q) (expanded_words f form ts c e)

pub ruleset relative_degree_laws = (degree_nonzero, degree_divided)

pub ruleset enough_checks_laws = (enough_all, enough_points)

pub ruleset expanded_checks_laws = (symbols, expanded_none, expanded_more, expanded_whole, entries_inside)

pub ruleset check_entries_laws = (entries_none, entries_more, entries_whole)

pub ruleset add_coordinates_laws = (rows_none, rows_more)

pub ruleset coordinate_row_laws = (row_none, row_more, row_whole)

pub ruleset coordinate_laws = (small_size, coordinate_first, coordinate_next, zero_inside)

pub ruleset numbers_laws = (numbered_none, numbered_more, numbered_whole, element_told)

pub ruleset element_laws = (small_size, digit_inside, element_none, element_step, zero_inside)
