-- When one code lies in another, and when two are the same.
--   subcode_by_rows      a code lies in another exactly if its rows do
--   same_by_rows         two codes are the same exactly if their reduced generator matrices are
--   rows_differ, rows_agree      matrices with another number of rows, or with one row that differs, and equal ones
use Rattle.std.proofs.Common.{◌≡◌, ◌≢◌, ℕ, ◌<◌, ◌↔◌, Bool, IsTrue, List, [], length, slice_index_or, All, sym, ap, subst}
use Rattle.std.proofs.lemmas.List.{ext_get_or}
use Rattle.lc_algebra.specs.declared.FieldName.{FieldName}
use Rattle.lc_algebra.specs.Span.{InSpan}
use Rattle.lc_algebra.specs.Matrix.{Matrix, AreRows, IsReduced}
use Rattle.lc_algebra.proofs.SpanLaws.{span_row, span_within}
use Rattle.lc_algebra.proofs.ReducedLaws.{reduced_unique}
use Rattle.lc_constructions.specs.Code.{InCode}
use Rattle.lc_language.specs.Relations.{IsSubcode, IsSameCode}

abbrev matrix : FieldName → ℕ → List (List ℕ) → Matrix
matrix f n rows = record { field = f; columns = n; rows = rows }

pub subcode_by_rows : (C D : Matrix) (b : Bool) → C.field ≡ D.field → C.columns ≡ D.columns → AreRows C.field C.columns C.rows → AreRows D.field D.columns D.rows → IsTrue b ↔ All (InCode D) C.rows → IsTrue b ↔ IsSubcode C D
subcode_by_rows C D b x y r s h =
    let f = D.field in
    let n = D.columns in
    let t : AreRows f n C.rows = subst (λ m. AreRows f m C.rows) y (subst (λ g. AreRows g C.columns C.rows) x r) in
    let over : (w : List ℕ) → InCode C w → InSpan f n C.rows w = λ w i. subst (λ m. InSpan f m C.rows w) y (subst (λ g. InSpan g C.columns C.rows w) x i) in
    let back : (w : List ℕ) → InSpan f n C.rows w → InCode C w = λ w i. subst (λ m. InSpan C.field m C.rows w) (sym y) (subst (λ g. InSpan g n C.rows w) (sym x) i) in (
      (λ z w i. span_within f n C.rows D.rows w s (h.0 z) (over w i)),
      (λ k. h.1 (λ i d l. k (slice_index_or C.rows i d) (back (slice_index_or C.rows i d) (span_row f n C.rows t i d l)))),
    )

pub same_by_rows : (C D : Matrix) (b : Bool) → C.field ≡ D.field → C.columns ≡ D.columns → AreRows C.field C.columns C.rows → IsReduced C.columns C.rows → AreRows D.field D.columns D.rows → IsReduced D.columns D.rows → IsTrue b ↔ (C.rows ≡ D.rows) → IsTrue b ↔ IsSameCode C D
same_by_rows C D b x y r p s q h =
    let f = C.field in
    let n = C.columns in
    let t : AreRows f n D.rows = subst (λ m. AreRows f m D.rows) (sym y) (subst (λ g. AreRows g D.columns D.rows) (sym x) s) in
    let o : IsReduced n D.rows = subst (λ m. IsReduced m D.rows) (sym y) q in
    let over : (w : List ℕ) → InCode D w → InSpan f n D.rows w = λ w i. subst (λ m. InSpan f m D.rows w) (sym y) (subst (λ g. InSpan g D.columns D.rows w) (sym x) i) in
    let back : (w : List ℕ) → InSpan f n D.rows w → InCode D w = λ w i. subst (λ m. InSpan D.field m D.rows w) y (subst (λ g. InSpan g n D.rows w) x i) in (
      (λ z w. ((λ i. back w (subst (λ rows. InSpan f n rows w) (h.0 z) i)), (λ i. subst (λ rows. InSpan f n rows w) (sym (h.0 z)) (over w i)))),
      (λ k. h.1 (reduced_unique f n C.rows D.rows r t p o (λ w. ((λ i. over w ((k w).0 i)), (λ i. (k w).1 (back w i)))))),
    )

pub rows_differ : (rows others : List (List ℕ)) → length rows ≢ length others → rows ≢ others
rows_differ rows others h e = h (ap (λ (x : List (List ℕ)). length x) e)

pub rows_agree : (rows others : List (List ℕ)) → length rows ≡ length others → ((i : ℕ) → i < length rows → slice_index_or rows i [] ≡ slice_index_or others i []) → rows ≡ others
rows_agree rows others h k = ext_get_or [] rows others h k

pub ruleset same_rows_laws = (rows_differ, rows_agree)
