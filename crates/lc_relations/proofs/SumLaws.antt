-- Sums of codes.
--   augmented_members      the words of the rows of a code and of further rows
--   augmented_code         so the code of all these rows is the code with the further rows
--   union_is               with the rows of another code it is the sum of the two
use Rattle.std.proofs.Common.{◌≡◌, ℕ, ◌↔◌, List, ◌++◌, sym, subst}
use Rattle.lc_algebra.specs.declared.FieldName.{FieldName}
use Rattle.lc_algebra.specs.Span.{InSpan}
use Rattle.lc_algebra.specs.Matrix.{Matrix, AreRows}
use Rattle.lc_algebra.proofs.SpanLaws.{span_word}
use Rattle.lc_constructions.specs.Code.{InCode, IsCode}
use Rattle.lc_constructions.specs.Basic.{GeneratedBy}
use Rattle.lc_constructions.proofs.ClosedLaws.{span_of_both}
use Rattle.lc_language.specs.Relations.{InAugmented, InUnion}
use Rattle.lc_linear_laws.proofs.PartLaws.{span_parted, rows_append}
use Rattle.lc_code.proofs.CodeLaws.{same_code}
use Rattle.lc_code.proofs.GeneratedLaws.{generated_by, shaped}

pub augmented_members : (C : Matrix) (rows : List (List ℕ)) (w : List ℕ) → AreRows C.field C.columns rows → InSpan C.field C.columns (C.rows ++ rows) w ↔ InAugmented C rows w
augmented_members C rows w r =
    let f = C.field in
    let n = C.columns in (
      (λ s. span_parted f n C.rows rows w r s),
      (λ (u, (v, a, b, e)). subst (InSpan f n (C.rows ++ rows)) (sym e) (span_of_both f n C.rows rows u v a b (span_word f n rows v r b))),
    )

pub augmented_words : (C : Matrix) (g : FieldName) (k : ℕ) (more rows : List (List ℕ)) → AreRows C.field C.columns C.rows → AreRows C.field C.columns more → g ≡ C.field → k ≡ C.columns → rows ≡ C.rows ++ more → AreRows g k rows
augmented_words C g k more rows r s a b e = shaped C.field g C.columns k (C.rows ++ more) rows a b e (rows_append C.field C.columns C.rows more r s)

pub augmented_code : (C E : Matrix) (g : FieldName) (k : ℕ) (more rows : List (List ℕ)) → AreRows C.field C.columns more → g ≡ C.field → k ≡ C.columns → rows ≡ C.rows ++ more → IsCode g k (GeneratedBy g k rows) E → IsCode C.field C.columns (InAugmented C more) E
augmented_code C E g k more rows s a b e c = generated_by C.field g C.columns k (C.rows ++ more) rows (InAugmented C more) E a b e (λ w _. augmented_members C more w s) c

pub union_words : (C D : Matrix) (rows : List (List ℕ)) → C.field ≡ D.field → C.columns ≡ D.columns → AreRows D.field D.columns D.rows → rows ≡ D.rows → AreRows C.field C.columns rows
union_words C D rows x y s e = shaped D.field C.field D.columns C.columns D.rows rows x y e s

pub union_is : (C D E : Matrix) (rows : List (List ℕ)) → C.field ≡ D.field → C.columns ≡ D.columns → rows ≡ D.rows → IsCode C.field C.columns (InAugmented C rows) E → IsCode C.field C.columns (InUnion C D) E
union_is C D E rows x y e c =
    let f = C.field in
    let n = C.columns in
    let to : (v : List ℕ) → InSpan f n rows v → InCode D v = λ v s. subst (λ r. InSpan D.field D.columns r v) e (subst (λ m. InSpan D.field m rows v) y (subst (λ g. InSpan g n rows v) x s)) in
    let back : (v : List ℕ) → InCode D v → InSpan f n rows v = λ v s. subst (λ g. InSpan g n rows v) (sym x) (subst (λ m. InSpan D.field m rows v) (sym y) (subst (λ r. InSpan D.field D.columns r v) (sym e) s)) in
    same_code f n (InAugmented C rows) (InUnion C D) E (λ w _. (
      (λ (u, (v, a, b, k)). (u, (v, a, to v b, k))),
      (λ (u, (v, a, b, k)). (u, (v, a, back v b, k))),
    )) c

pub ruleset code_with_rows_laws = (augmented_words, augmented_code)

pub ruleset code_of_union_laws = (union_words, union_is)
