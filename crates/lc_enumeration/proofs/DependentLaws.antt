-- Rows that may be dependent: there are as many independent rows with the same words as their dimension.
--   map_same                   functions that agree on the members of a list
--   greedy_step                an index that two lists of vectors both take, or both leave out
--   greedy_same                vectors that agree on the indices have the same greedy choice
--   greedy_free                the vectors that the greedy rule takes are independent
--   Spanned, greedy_spans      it takes only indices of the order, and enough to span the vectors of all of them
--   IndependentRows f n rows, independent_rows      as many independent rows as the dimension, with the same words
use Rattle.std.proofs.Common.{◌≡◌, ℕ, zero, suc, ◌<◌, ◌⊎◌, Bool, true, false, cond, List, [], ◌∷◌, ◌++◌, map, length, slice_index_or, Contains, refl, sym, ap, ap₂, subst, ◌∙◌, ⊎_elim, inl, inr, arith}
use Rattle.std.proofs.lemmas.Bool.{cases_Bool, true≢false}
use Rattle.std.proofs.lemmas.List.{length-map, map-append, get_or_default}
use Rattle.std.proofs.lemmas.List.Elements.{All-head, All-tail, Contains-get_or, Contains-append_cases, Contains-append_left, Contains-append_right}
use Rattle.lc_algebra.specs.declared.FieldName.{FieldName}
use Rattle.lc_algebra.specs.Word.{IsWord, zero_word}
use Rattle.lc_algebra.specs.Span.{below, InSpan, SameSpan, AreIndependent}
use Rattle.lc_algebra.specs.Matrix.{AreRows}
use Rattle.lc_algebra.proofs.WordLaws.{IsWord_zero}
use Rattle.lc_algebra.proofs.SpanLaws.{same_span, contains_cases, contains_head, contains_tail, contains_map, map_contains, below_contains, contains_below, span_of_member}
use Rattle.lc_algebra.proofs.DivisorLaws.{no_member}
use Rattle.lc_enumeration.specs.InformationSet.{in_span, greedy, dimension}
use Rattle.lc_enumeration.proofs.MemberLaws.{in_span_true, true_in_span}
use Rattle.lc_enumeration.proofs.GreedyLaws.{each_contained, span_wider, independent_last, AreVectors, vectors_are_rows}

pub map_same : {X Y : Type 0} (g h : X → Y) (xs : List X) → ((x : X) → Contains xs x → g x ≡ h x) → map g xs ≡ map h xs
map_same g h [] e = refl
map_same g h (x ∷ xs) e = ap₂ (λ y ys. y ∷ ys) (e x (contains_head x xs)) (map_same g h xs (λ y c. e y (contains_tail x y xs c)))

pub greedy_step : (f : FieldName) (n m : ℕ) (u v : ℕ → List ℕ) (taken order : List ℕ) (i : ℕ) → in_span f n (map u taken) (u i) ≡ in_span f m (map v taken) (v i) → greedy f n u taken order ≡ greedy f m v taken order → greedy f n u (taken ++ i ∷ []) order ≡ greedy f m v (taken ++ i ∷ []) order → greedy f n u taken (i ∷ order) ≡ greedy f m v taken (i ∷ order)
unfolding greedy
greedy_step f n m u v taken order i same one two =
    ap (λ b. cond b (greedy f n u taken order) (greedy f n u (taken ++ i ∷ []) order)) same
    ∙ ap₂ (λ x y. cond (in_span f m (map v taken) (v i)) x y) one two

pub greedy_same : (f : FieldName) (n : ℕ) (u v : ℕ → List ℕ) (taken order : List ℕ) → ((i : ℕ) → Contains taken i → u i ≡ v i) → ((i : ℕ) → Contains order i → u i ≡ v i) → greedy f n u taken order ≡ greedy f n v taken order
unfolding greedy
greedy_same f n u v taken [] t o = refl
greedy_same f n u v taken (i ∷ order) t o =
    let rest = λ (j : ℕ) (c : Contains order j). o j (contains_tail i j order c) in
    let here = o i (contains_head i order) in
    greedy_step f n n u v taken order i (ap₂ (in_span f n) (map_same u v taken t) here)
    (greedy_same f n u v taken order t rest)
    (greedy_same f n u v (taken ++ i ∷ []) order (λ j c. ⊎_elim (t j) (λ s. ⊎_elim (λ e. ap u (sym e) ∙ here ∙ ap v e) (λ a. absurd (no_member j a)) (contains_cases i j [] s)) (Contains-append_cases taken (i ∷ []) j c)) rest)

pub greedy_free : (f : FieldName) (n : ℕ) (v : ℕ → List ℕ) (taken order : List ℕ) → AreVectors f n v → AreIndependent f n (map v taken) → AreIndependent f n (map v (greedy f n v taken order))
unfolding greedy
greedy_free f n v taken [] are free = free
greedy_free f n v taken (i ∷ order) are free =
    let goal = λ (b : Bool). AreIndependent f n (map v (cond b (greedy f n v taken order) (greedy f n v (taken ++ i ∷ []) order))) in
    ⊎_elim
    (λ e. subst goal (sym e) (greedy_free f n v taken order are free))
    (λ e.
    let out : InSpan f n (map v taken) (v i) → ⊥ = λ h. true≢false (sym (true_in_span f n (map v taken) (v i) h) ∙ e) in
    subst goal (sym e) (greedy_free f n v (taken ++ i ∷ []) order are (subst (AreIndependent f n) (sym (map-append v taken (i ∷ []))) (independent_last f n (map v taken) (v i) (vectors_are_rows f n v taken are) (are i) free out))))
    (cases_Bool (in_span f n (map v taken) (v i)))

pub record Spanned (f : FieldName) (n : ℕ) (v : ℕ → List ℕ) (taken order set : List ℕ) : Type 0 where
  pub keeps : (i : ℕ) → Contains taken i → Contains set i
  pub within : (i : ℕ) → Contains set i → Contains taken i ⊎ Contains order i
  pub spans : (i : ℕ) → Contains order i → InSpan f n (map v set) (v i)

pub set_wider : (f : FieldName) (n : ℕ) (v : ℕ → List ℕ) (set others w : List ℕ) → AreVectors f n v → ((i : ℕ) → Contains set i → Contains others i) → InSpan f n (map v set) w → InSpan f n (map v others) w
set_wider f n v set others w are h s = span_wider f n (map v set) (map v others) w (vectors_are_rows f n v others are) (λ x c. let t = contains_map v set x c in subst (Contains (map v others)) (sym t.2) (map_contains v others t.0 (h t.0 t.1))) s

pub greedy_spans : (f : FieldName) (n : ℕ) (v : ℕ → List ℕ) (taken order : List ℕ) → AreVectors f n v → Spanned f n v taken order (greedy f n v taken order)
unfolding greedy
greedy_spans f n v taken [] are = record { keeps = λ i l. l; within = λ i l. inl l; spans = λ i l. absurd (no_member i l) }
greedy_spans f n v taken (i ∷ order) are =
    let goal = λ (b : Bool). Spanned f n v taken (i ∷ order) (cond b (greedy f n v taken order) (greedy f n v (taken ++ i ∷ []) order)) in
    ⊎_elim
    (λ e.
    let r = greedy_spans f n v taken order are in
    let set = greedy f n v taken order in
    subst goal (sym e) (record {
      keeps = r.keeps;
      within = λ j l. ⊎_elim (λ m. inl m) (λ m. inr (contains_tail i j order m)) (r.within j l);
      spans = λ j l. ⊎_elim
          (λ s. subst (λ k. InSpan f n (map v set) (v k)) s (set_wider f n v taken set (v i) are r.keeps (in_span_true f n (map v taken) (v i) e)))
          (λ m. r.spans j m) (contains_cases i j order l);
    }))
    (λ e.
    let more = taken ++ i ∷ [] in
    let r = greedy_spans f n v more order are in
    let set = greedy f n v more order in
    let added : Contains set i = r.keeps i (Contains-append_right taken (i ∷ []) i (contains_head i [])) in
    subst goal (sym e) (record {
      keeps = λ j l. r.keeps j (Contains-append_left taken (i ∷ []) j l);
      within = λ j l. ⊎_elim
          (λ m. ⊎_elim (λ s. inl s) (λ s. ⊎_elim (λ q. inr (subst (Contains (i ∷ order)) q (contains_head i order))) (λ q. absurd (no_member j q)) (contains_cases i j [] s)) (Contains-append_cases taken (i ∷ []) j m))
          (λ m. inr (contains_tail i j order m))
          (r.within j l);
      spans = λ j l. ⊎_elim
          (λ s. subst (λ k. InSpan f n (map v set) (v k)) s (span_of_member f n (map v set) (v i) (vectors_are_rows f n v set are) (map_contains v set i added)))
          (λ m. r.spans j m) (contains_cases i j order l);
    }))
    (cases_Bool (in_span f n (map v taken) (v i)))

no_rows_free : (f : FieldName) (n : ℕ) → AreIndependent f n []
no_rows_free f n cs w e = nil cs w.long
  where
    nil : (cs : List ℕ) → length cs ≡ 0 → cs ≡ []
    nil [] l = refl
    nil (a ∷ cs) l = absurd (omega (arith, l))

-- a row, or the zero word past the end
row_or_zero : (f : FieldName) (n : ℕ) (rows : List (List ℕ)) (i : ℕ) → AreRows f n rows → IsWord f n (slice_index_or rows i (zero_word n))
row_or_zero f n [] i r = IsWord_zero f n
row_or_zero f n (g ∷ rows) zero r = All-head (IsWord f n) g rows r
row_or_zero f n (g ∷ rows) (suc i) r = row_or_zero f n rows i (All-tail (IsWord f n) g rows r)

pub record IndependentRows (f : FieldName) (n : ℕ) (rows : List (List ℕ)) : Type 0 where
  pub others : List (List ℕ)
  pub words : AreRows f n others
  pub free : AreIndependent f n others
  pub same : SameSpan f n rows others
  pub many : length others ≡ dimension f n rows

pub independent_rows : (f : FieldName) (n : ℕ) (rows : List (List ℕ)) → AreRows f n rows → IndependentRows f n rows
unfolding dimension
independent_rows f n rows r =
    let m = length rows in
    let v : ℕ → List ℕ = λ i. slice_index_or rows i (zero_word n) in
    let are : AreVectors f n v = λ i. row_or_zero f n rows i r in
    let chosen = greedy f n v [] (below m) in
    let g = greedy_spans f n v [] (below m) are in
    let chosen_rows : AreRows f n (map v chosen) = vectors_are_rows f n v chosen are in
    let there : (i : ℕ) → i < m → InSpan f n (map v chosen) (v i) = λ i l. g.spans i (below_contains m i l) in
    record {
      others = map v chosen;
      words = chosen_rows;
      free = greedy_free f n v [] (below m) are (no_rows_free f n);
      same = same_span f n rows (map v chosen) r chosen_rows
          (λ k d l. subst (InSpan f n (map v chosen)) (get_or_default rows k (zero_word n) d l) (there k l))
          (each_contained (InSpan f n rows) (map v chosen) (λ w c.
          let t = contains_map v chosen w c in
          let inside : t.0 < m = ⊎_elim (λ a. absurd (no_member t.0 a)) (contains_below m t.0) (g.within t.0 t.1) in
          subst (InSpan f n rows) (sym t.2) (span_of_member f n rows (v t.0) r (Contains-get_or rows t.0 (zero_word n) inside))));
      many = length-map chosen v ∙ ap length (greedy_same f n v (λ i. slice_index_or rows i []) [] (below m) (λ i c. absurd (no_member i c)) (λ i c. get_or_default rows i (zero_word n) [] (contains_below m i c)));
    }
