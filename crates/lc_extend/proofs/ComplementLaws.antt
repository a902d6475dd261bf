-- The words of a code that are 0 where the rows of another one begin.
--   lead_is_word           the word that is 1 where a row begins
--   lead_dot               a word has dot 0 with it exactly if it is 0 there
--   complement_words, complement_code      the code that the dual and these words check
--   complement_parted      each word of a code is the sum of one of a subcode and one of the complement
--   complement_zero        which have the zero word in common
--   complement_dimension   so their dimensions add up to that of the code
use Rattle.std.proofs.Common.{◌≡◌, ◌≢◌, ℕ, ◌+◌, ◌<◌, ◌↔◌, not, ◌==◌, List, [], ◌∷◌, ◌++◌, length, map, set, slice_index, Option, Some, None, All, refl, sym, ap, subst, ◌∙◌, ⊎_elim, arith}
use Rattle.std.proofs.lemmas.Bool.{cases_eq}
use Rattle.std.proofs.lemmas.List.{length-set, get_or-set_same, get_or-set_other, get_or_default}
use Rattle.std.proofs.lemmas.List.Quantifiers.{position-Some}
use Rattle.std.proofs.lemmas.List.Elements.{All-head, All-tail, All-cons, All-append}
use Rattle.lc_algebra.specs.declared.FieldName.{FieldName}
use Rattle.lc_algebra.specs.Field.{size, add, neg}
use Rattle.lc_algebra.specs.Word.{IsWord, zero_word, word_sum, difference, word_dot, first_nonzero}
use Rattle.lc_algebra.specs.Span.{combine, InSpan}
use Rattle.lc_algebra.specs.Matrix.{Matrix, AreRows, IsReduced, HasPivots, IsOrthogonal}
use Rattle.lc_algebra.proofs.FieldLaws.{one_inside, zero_inside, add_neg}
use Rattle.lc_algebra.proofs.WordLaws.{IsWord_zero, length_zero_word, index_zero_word, word_symbol, index_difference, difference_back, dot_comm, zero_dot, sum_comm}
use Rattle.lc_algebra.proofs.SpanLaws.{span_word, span_zero, span_sum, span_difference, word_of_combination, combine_is_word}
use Rattle.lc_algebra.proofs.ReducedLaws.{dot_unit, symbol_of_combination, identity_on_pivots, reduced_told}
use Rattle.lc_constructions.specs.Code.{InCode, IsCode, CheckedBy}
use Rattle.lc_constructions.specs.Combined.{InDual, InIntersection}
use Rattle.lc_language.specs.Relations.{IsSubcode, InUnion}
use Rattle.lc_language.specs.ConstructionX.{InComplement}
use Rattle.lc_linear_laws.proofs.PartLaws.{all_left, all_right, rows_append}
use Rattle.lc_code.proofs.GeneratedLaws.{dual_orthogonal, checked_by, shaped}
use Rattle.lc_relations.specs.Leads.{leading_symbols}
use Rattle.lc_relations.proofs.EncodingLaws.{begins, leading_long, leading_at}
use Rattle.lc_relations.proofs.UnionLaws.{shared, shared_rows, told, union_dimension}
use Rattle.lc_extend.specs.Rows.{marked, lead_word}

-- ---- unit words

IsClear : List ℕ → List ℕ → Type 0
IsClear w row = (p : ℕ) → first_nonzero row ≡ Some p → slice_index w p ≡ 0

begin_inside : (row : List ℕ) (p : ℕ) → first_nonzero row ≡ Some p → p < length row
begin_inside row p e = (position-Some (λ a. not (a == 0)) row p 0 e).0

marked_word : (f : FieldName) (n : ℕ) (o : Option ℕ) → IsWord f n (marked o (zero_word n))
marked_word f n None = IsWord_zero f n
marked_word f n (Some p) =
    let long : length (set (zero_word n) p 1) ≡ n = length-set (zero_word n) p 1 ∙ length_zero_word n in
    record {
      long = long;
      fits = λ i l. ⊎_elim
          (λ (e : i ≡ p). subst (λ a. a < size f) (sym (ap (slice_index (set (zero_word n) p 1)) e ∙ get_or-set_same (zero_word n) p 1 0 (omega (arith, e, l, long, length_zero_word n)))) (one_inside f))
          (λ (o : i ≢ p). subst (λ a. a < size f) (sym (get_or-set_other (zero_word n) p i 1 0 o ∙ index_zero_word n i)) (zero_inside f))
          (cases_eq i p);
    }

pub lead_is_word : (f : FieldName) (n : ℕ) (row : List ℕ) → IsWord f n row → IsWord f n (lead_word row)
unfolding lead_word
lead_is_word f n row w = subst (λ m. IsWord f n (marked (first_nonzero row) (zero_word m))) (sym w.long) (marked_word f n (first_nonzero row))

unit_dot : (f : FieldName) (n p : ℕ) (w : List ℕ) → IsWord f n w → p < n → word_dot f (set (zero_word n) p 1) w ≡ slice_index w p
unit_dot f n p w word l =
    let unit = set (zero_word n) p 1 in
    let long : length unit ≡ n = length-set (zero_word n) p 1 ∙ length_zero_word n in
    dot_comm f unit w ∙ dot_unit f w unit p word.fits (long ∙ sym word.long) (omega (arith, l, long))
    (get_or-set_same (zero_word n) p 1 0 (omega (arith, l, length_zero_word n)))
    (λ i m o. get_or-set_other (zero_word n) p i 1 0 o ∙ index_zero_word n i)

marked_dot : (f : FieldName) (n : ℕ) (row w : List ℕ) (o : Option ℕ) → IsWord f n row → IsWord f n w → first_nonzero row ≡ o → (word_dot f (marked o (zero_word n)) w ≡ 0) ↔ IsClear w row
unfolding IsClear
marked_dot f n row w None r word e = ((λ z p k. let t : None ≡ Some p = sym e ∙ k in cc t), (λ h. zero_dot f n w))
marked_dot f n row w (Some q) r word e =
    let l : q < n = omega (arith, begin_inside row q e, r.long) in
    let d = unit_dot f n q w word l in (
      (λ z p k.
          let t : Some q ≡ Some p = sym e ∙ k in
          let same : q ≡ p = cc t in
          ap (slice_index w) (sym same) ∙ sym d ∙ z),
      (λ h. d ∙ h q e),
    )

pub lead_dot : (f : FieldName) (n : ℕ) (row w : List ℕ) → IsWord f n row → IsWord f n w → (word_dot f (lead_word row) w ≡ 0) ↔ ((p : ℕ) → first_nonzero row ≡ Some p → slice_index w p ≡ 0)
unfolding lead_word IsClear
lead_dot f n row w r word = subst (λ m. (word_dot f (marked (first_nonzero row) (zero_word m)) w ≡ 0) ↔ IsClear w row) (sym r.long) (marked_dot f n row w (first_nonzero row) r word refl)

leads_clear : (f : FieldName) (n : ℕ) (rows : List (List ℕ)) (w : List ℕ) → AreRows f n rows → IsWord f n w → IsOrthogonal f (map lead_word rows) w ↔ All (λ row. (p : ℕ) → first_nonzero row ≡ Some p → slice_index w p ≡ 0) rows
leads_clear f n [] w r word = ((λ h i d l. absurd (omega (arith, l))), (λ h i d l. absurd (omega (arith, l))))
leads_clear f n (row ∷ rows) w r word =
    let P : List ℕ → Type 0 = λ row. word_dot f row w ≡ 0 in
    let Q : List ℕ → Type 0 = λ row. (p : ℕ) → first_nonzero row ≡ Some p → slice_index w p ≡ 0 in
    let head = lead_dot f n row w (All-head (IsWord f n) row rows r) word in
    let tail = leads_clear f n rows w (All-tail (IsWord f n) row rows r) word in (
      (λ h. All-cons Q row rows (head.0 (All-head P (lead_word row) (map lead_word rows) h)) (tail.0 (All-tail P (lead_word row) (map lead_word rows) h))),
      (λ h. All-cons P (lead_word row) (map lead_word rows) (head.1 (All-head Q row rows h)) (tail.1 (All-tail Q row rows h))),
    )

lead_rows : (f : FieldName) (n : ℕ) (rows : List (List ℕ)) → AreRows f n rows → AreRows f n (map lead_word rows)
lead_rows f n [] r = λ i d l. absurd (omega (arith, l))
lead_rows f n (row ∷ rows) r =
    All-cons (IsWord f n) (lead_word row) (map lead_word rows) (lead_is_word f n row (All-head (IsWord f n) row rows r)) (lead_rows f n rows (All-tail (IsWord f n) row rows r))

-- ---- the code that they check

pub complement_words : (C D H : Matrix) (g : FieldName) (k : ℕ) (checks : List (List ℕ)) → C.field ≡ D.field → C.columns ≡ D.columns → AreRows D.field D.columns D.rows → IsCode C.field C.columns (InDual C) H → g ≡ C.field → k ≡ C.columns → checks ≡ H.rows ++ map lead_word D.rows → AreRows g k checks
complement_words C D H g k checks x y s d a b e =
    let f = C.field in
    let n = C.columns in
    shaped f g n k (H.rows ++ map lead_word D.rows) checks a b e (rows_append f n H.rows (map lead_word D.rows) d.generator.words (lead_rows f n D.rows (shared_rows C D x y s)))

pub complement_code : (C D H B : Matrix) (g : FieldName) (k : ℕ) (checks : List (List ℕ)) → C.field ≡ D.field → C.columns ≡ D.columns → AreRows C.field C.columns C.rows → IsReduced C.columns C.rows → AreRows D.field D.columns D.rows → IsCode C.field C.columns (InDual C) H → g ≡ C.field → k ≡ C.columns → checks ≡ H.rows ++ map lead_word D.rows → IsCode g k (CheckedBy g checks) B → IsCode C.field C.columns (InComplement C D) B
complement_code C D H B g k checks x y r p s d a b e c =
    let f = C.field in
    let n = C.columns in
    checked_by f g n k (H.rows ++ map lead_word D.rows) checks (InComplement C D) B a b e
    (λ w word.
    let P : List ℕ → Type 0 = λ row. word_dot f row w ≡ 0 in
    let dual = dual_orthogonal C H w r p d word in
    let leads = leads_clear f n D.rows w (shared_rows C D x y s) word in (
      (λ h. (dual.0 (all_left P H.rows (map lead_word D.rows) h), leads.0 (all_right P H.rows (map lead_word D.rows) h))),
      (λ h. All-append P H.rows (map lead_word D.rows) (dual.1 h.0) (leads.1 h.1)),
    ))
    c

-- ---- the words of the code

pub complement_parted : (C D : Matrix) (w : List ℕ) → C.field ≡ D.field → C.columns ≡ D.columns → AreRows C.field C.columns C.rows → AreRows D.field D.columns D.rows → IsReduced D.columns D.rows → IsSubcode D C → InCode C w → (u : List ℕ) × ((v : List ℕ) × InCode D u × InComplement C D v × (w ≡ word_sum C.field u v))
complement_parted C D w x y r s q sub i =
    let f = C.field in
    let n = C.columns in
    let rows = D.rows in
    let words : AreRows f n rows = shared_rows C D x y s in
    let reduced : IsReduced n rows = subst (λ m. IsReduced m rows) (sym y) q in
    let ps = reduced.pivots.0 in
    let h : HasPivots n ps rows = reduced.pivots.1 in
    let word : IsWord f n w = span_word f n C.rows w r i in
    let cs = leading_symbols rows w in
    let long : length cs ≡ length rows = leading_long rows w in
    let coefficients : IsWord f (length rows) cs = record {
      long = long;
      fits = λ k l. subst (λ a. a < size f) (sym (leading_at f n ps rows w k words h (omega (arith, l, long)))) (word_symbol f n w word (slice_index ps k));
    } in
    let u = combine f n cs rows in
    let in_part : InSpan f n rows u = word_of_combination f n rows cs coefficients in
    let word_u : IsWord f n u = combine_is_word f n cs rows words in
    let v = difference f w u in
    let u_in : InCode D u = (shared C D u x y).1 in_part in
    let v_in : InCode C v = span_difference f n C.rows w u i (sub u u_in) in
    let clear : (k : ℕ) → k < length rows → slice_index v (slice_index ps k) ≡ 0 = λ k l.
    let at : slice_index u (slice_index ps k) ≡ slice_index w (slice_index ps k) = symbol_of_combination f n ps rows cs k words (sym h.count) (identity_on_pivots n ps rows h) coefficients (omega (arith, l, h.count)) ∙ leading_at f n ps rows w k words h l in
    index_difference f w u (slice_index ps k) (word.long ∙ sym word_u.long) ∙ ap (λ a. add f (slice_index w (slice_index ps k)) (neg f a)) at ∙ add_neg f (slice_index w (slice_index ps k)) in
    let zero : All (λ row. (p : ℕ) → first_nonzero row ≡ Some p → slice_index v p ≡ 0) rows = λ k d l p e.
    let t : Some p ≡ Some (slice_index ps k) = sym e ∙ ap first_nonzero (get_or_default rows k d [] l) ∙ begins f n ps rows k words h l in
    let same : p ≡ slice_index ps k = cc t in
    ap (slice_index v) same ∙ clear k l in
    (u, (v, u_in, (v_in, zero), sym (difference_back f n w u word word_u.long) ∙ sum_comm f v u))

pub complement_zero : (C D : Matrix) (w : List ℕ) → C.field ≡ D.field → C.columns ≡ D.columns → AreRows D.field D.columns D.rows → IsReduced D.columns D.rows → InCode D w → InComplement C D w → w ≡ zero_word C.columns
complement_zero C D w x y s q i c =
    let f = C.field in
    let n = C.columns in
    let rows = D.rows in
    let words : AreRows f n rows = shared_rows C D x y s in
    let reduced : IsReduced n rows = subst (λ m. IsReduced m rows) (sym y) q in
    let ps = reduced.pivots.0 in
    let h : HasPivots n ps rows = reduced.pivots.1 in
    reduced_told f n ps rows w (zero_word n) words h ((shared C D w x y).0 i) (span_zero f n rows words)
    (λ k l.
    let m : k < length rows = omega (arith, l, h.count) in
    c.1 k [] m (slice_index ps k) (begins f n ps rows k words h m) ∙ sym (index_zero_word n (slice_index ps k)))

-- ---- the dimension

abbrev nothing : FieldName → ℕ → Matrix
nothing f n = record { field = f; columns = n; rows = [] }

no_pivots : (n : ℕ) → IsReduced n []
no_pivots n = record {
  pivots = (
    [],
    record {
      count = refl;
      inside = λ i l. absurd (omega (arith, l));
      rises = λ i j a l. absurd (omega (arith, l));
      before = λ i c l. absurd (omega (arith, l));
      leads = λ i l. absurd (omega (arith, l));
      clears = λ i j l. absurd (omega (arith, l));
    },
  );
}

zero_of_both : (C D : Matrix) (w : List ℕ) → AreRows C.field C.columns C.rows → w ≡ zero_word C.columns → InComplement C D w
zero_of_both C D w r e =
    (subst (InCode C) (sym e) (span_zero C.field C.columns C.rows r), (λ k d l p t. ap (λ v. slice_index v p) e ∙ index_zero_word C.columns p))

pub complement_dimension : (C D B : Matrix) → C.field ≡ D.field → C.columns ≡ D.columns → AreRows C.field C.columns C.rows → IsReduced C.columns C.rows → AreRows D.field D.columns D.rows → IsReduced D.columns D.rows → IsSubcode D C → IsCode C.field C.columns (InComplement C D) B → length D.rows + length B.rows ≡ length C.rows
complement_dimension C D B x y r p s q sub b =
    let f = D.field in
    let n = D.columns in
    let words_c : AreRows f n C.rows = subst (λ m. AreRows f m C.rows) y (subst (λ g. AreRows g C.columns C.rows) x r) in
    let reduced_c : IsReduced n C.rows = subst (λ m. IsReduced m C.rows) y p in
    let into : (w : List ℕ) → InSpan f n C.rows w → InCode C w = λ w i. subst (λ g. InSpan g C.columns C.rows w) (sym x) (subst (λ m. InSpan f m C.rows w) (sym y) i) in
    let out : (w : List ℕ) → InCode C w → InSpan f n C.rows w = λ w i. subst (λ m. InSpan f m C.rows w) y (subst (λ g. InSpan g C.columns C.rows w) x i) in
    let in_b : (w : List ℕ) → InComplement C D w → InCode B w = λ w c. (told C.field C.columns (InComplement C D) B w b).1 (span_word C.field C.columns C.rows w r c.0, c) in
    let of_b : (w : List ℕ) → InCode B w → InComplement C D w = λ w i. ((told C.field C.columns (InComplement C D) B w b).0 i).1 in
    let union : IsCode f n (InUnion D B) C = record {
      over = x;
      length_is = y;
      generator = record {
        members = λ w. (
          (λ i.
              let (u, (v, a, c, e)) = complement_parted C D w x y r s q sub (into w i) in
              (span_word f n C.rows w words_c i, (u, (v, a, in_b v c, e ∙ ap (λ g. word_sum g u v) x)))),
          (λ (word, (u, (v, a, c, e))). subst (InSpan f n C.rows) (sym e) (span_sum f n C.rows u v (out u (sub u a)) (out v (of_b v c).0))),
        );
        reduced = reduced_c;
        words = words_c;
      };
    } in
    let common : IsCode f n (InIntersection D B) (nothing f n) = record {
      over = refl;
      length_is = refl;
      generator = record {
        members = λ w. (
          (λ e. (subst (IsWord f n) (sym e) (IsWord_zero f n), (subst (InSpan f n D.rows) (sym e) (span_zero f n D.rows s), in_b w (zero_of_both C D w r (e ∙ ap (λ m. zero_word m) (sym y)))))),
          (λ (word, (a, c)). complement_zero C D w x y s q a (of_b w c) ∙ ap (λ m. zero_word m) y),
        );
        reduced = no_pivots n;
        words = λ i d l. absurd (omega (arith, l));
      };
    } in
    let sum = union_dimension D B C (nothing f n) (sym x ∙ sym b.over) (sym y ∙ sym b.length_is) s q (subst (λ m. AreRows B.field m B.rows) (sym b.length_is) (subst (λ g. AreRows g C.columns B.rows) (sym b.over) b.generator.words)) (subst (λ m. IsReduced m B.rows) (sym b.length_is) b.generator.reduced) union common in
    omega (arith, sum)
