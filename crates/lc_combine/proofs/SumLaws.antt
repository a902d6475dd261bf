-- Direct sums and the words u followed by u + v.
--   direct_sum_words, uuv_words        the rows are words over the field
--   direct_sum_members, uuv_members    the words of these rows are those of the direct sum, and those u followed by u + v
--   direct_sum_code, uuv_code          so the code of the rows is the one that was asked for
use Rattle.std.proofs.Common.{◌≡◌, ℕ, ◌+◌, ◌↔◌, List, ◌++◌, sym, ap, ap₂, subst, ◌∙◌, arith}
use Rattle.lc_algebra.specs.declared.FieldName.{FieldName}
use Rattle.lc_algebra.specs.Word.{IsWord, zero_word, word_sum}
use Rattle.lc_algebra.specs.Span.{InSpan}
use Rattle.lc_algebra.specs.Matrix.{Matrix, AreRows}
use Rattle.lc_algebra.proofs.WordLaws.{length_zero_word, zero_sum, sum_zero}
use Rattle.lc_algebra.proofs.SpanLaws.{span_word}
use Rattle.lc_constructions.specs.Code.{IsCode, InCode}
use Rattle.lc_constructions.specs.Basic.{GeneratedBy}
use Rattle.lc_constructions.specs.Combined.{InDirectSum, InUuv}
use Rattle.lc_constructions.proofs.ClosedLaws.{sum_parts, span_of_both}
use Rattle.lc_linear_laws.proofs.LinearLaws.{image_rows, image_span, span_image}
use Rattle.lc_linear_laws.proofs.PartLaws.{span_parted, rows_append, left_linear, right_linear, twice_linear}
use Rattle.lc_code.specs.Rows.{left_rows}
use Rattle.lc_code.proofs.GeneratedLaws.{generated_by, over, shaped}
use Rattle.lc_combine.specs.Rows.{right_rows, twice_rows, direct_sum_rows, uuv_rows}

-- ---- words in two parts

-- ---- direct sums

pub both : (f : FieldName) (n m : ℕ) (u v : List ℕ) → IsWord f n u → IsWord f m v → word_sum f (u ++ zero_word m) (zero_word n ++ v) ≡ u ++ v
both f n m u v a b =
    sum_parts f u (zero_word n) (zero_word m) v (a.long ∙ sym (length_zero_word n)) ∙ ap₂ (λ x y. x ++ y) (sum_zero f n u a) (zero_sum f m v b)

pub direct_sum_words : (C D : Matrix) (g : FieldName) (k : ℕ) (rows : List (List ℕ)) → g ≡ C.field → k ≡ C.columns + D.columns → C.field ≡ D.field → AreRows C.field C.columns C.rows → AreRows D.field D.columns D.rows → rows ≡ direct_sum_rows C D → AreRows g k rows
direct_sum_words C D g x rows gf xl k r s e =
    let f = C.field in
    let n = C.columns in
    let m = D.columns in
    shaped f g (n + m) x (direct_sum_rows C D) rows gf xl e (rows_append f (n + m) (left_rows m C.rows) (right_rows n D.rows) (image_rows f n (n + m) (λ u. u ++ zero_word m) C.rows (left_linear f n m) r) (image_rows f m (n + m) (λ v. zero_word n ++ v) D.rows (right_linear f n m) (over f D.field m D.rows k s)))

pub direct_sum_members : (C D : Matrix) (w : List ℕ) → C.field ≡ D.field → AreRows C.field C.columns C.rows → AreRows D.field D.columns D.rows → InSpan C.field (C.columns + D.columns) (direct_sum_rows C D) w ↔ InDirectSum C D w
direct_sum_members C D w k r s =
    let f = C.field in
    let n = C.columns in
    let m = D.columns in
    let t : AreRows f m D.rows = over f D.field m D.rows k s in
    let left : List ℕ → List ℕ = λ u. u ++ zero_word m in
    let right : List ℕ → List ℕ = λ v. zero_word n ++ v in
    let rights : AreRows f (n + m) (right_rows n D.rows) = image_rows f m (n + m) right D.rows (right_linear f n m) t in (
      (λ p.
          let (x, (y, a, b, e)) = span_parted f (n + m) (left_rows m C.rows) (right_rows n D.rows) w rights p in
          let (u, cu, ex) = span_image f n (n + m) left C.rows x (left_linear f n m) r a in
          let (v, dv, ey) = span_image f m (n + m) right D.rows y (right_linear f n m) t b in
          (u, (v, cu, subst (λ g. InSpan g m D.rows v) k dv, e ∙ ap₂ (word_sum f) ex ey ∙ both f n m u v (span_word f n C.rows u r cu) (span_word f m D.rows v t dv)))),
      (λ p.
          let (u, (v, cu, dw, e)) = p in
          let dv : InSpan f m D.rows v = subst (λ g. InSpan g m D.rows v) (sym k) dw in
          let wu = span_word f n C.rows u r cu in
          let wv = span_word f m D.rows v t dv in
          subst (InSpan f (n + m) (direct_sum_rows C D)) (both f n m u v wu wv ∙ sym e)
          (span_of_both f (n + m) (left_rows m C.rows) (right_rows n D.rows) (left u) (right v) (image_span f n (n + m) left C.rows u (left_linear f n m) r cu) (image_span f m (n + m) right D.rows v (right_linear f n m) t dv) ((right_linear f n m).word v wv))),
    )

pub direct_sum_code : (C D E : Matrix) (g : FieldName) (n : ℕ) (rows : List (List ℕ)) → C.field ≡ D.field → AreRows C.field C.columns C.rows → AreRows D.field D.columns D.rows → g ≡ C.field → n ≡ C.columns + D.columns → rows ≡ direct_sum_rows C D → IsCode g n (GeneratedBy g n rows) E → IsCode C.field (C.columns + D.columns) (InDirectSum C D) E
direct_sum_code C D E g n rows k r s a b e c = generated_by C.field g (C.columns + D.columns) n (direct_sum_rows C D) rows (InDirectSum C D) E a b e (λ w _. direct_sum_members C D w k r s) c

-- ---- u followed by u + v

pub added : (f : FieldName) (n : ℕ) (u v : List ℕ) → IsWord f n u → IsWord f n v → word_sum f (u ++ u) (zero_word n ++ v) ≡ u ++ word_sum f u v
added f n u v a b = sum_parts f u (zero_word n) u v (a.long ∙ sym (length_zero_word n)) ∙ ap (λ t. t ++ word_sum f u v) (sum_zero f n u a)

pub uuv_words : (C D : Matrix) (g : FieldName) (k : ℕ) (rows : List (List ℕ)) → g ≡ C.field → k ≡ C.columns + D.columns → C.field ≡ D.field → C.columns ≡ D.columns → AreRows C.field C.columns C.rows → AreRows D.field D.columns D.rows → rows ≡ uuv_rows C D → AreRows g k rows
uuv_words C D g x rows gf xl k h r s e =
    let f = C.field in
    let n = C.columns in
    let t : AreRows f n D.rows = subst (λ m. AreRows f m D.rows) (sym h) (over f D.field D.columns D.rows k s) in
    shaped f g (n + n) x (uuv_rows C D) rows gf (omega (arith, h, xl)) e
    (rows_append f (n + n) (twice_rows C.rows) (right_rows n D.rows) (image_rows f n (n + n) (λ u. u ++ u) C.rows (twice_linear f n) r) (image_rows f n (n + n) (λ v. zero_word n ++ v) D.rows (right_linear f n n) t))

pub uuv_members : (C D : Matrix) (w : List ℕ) → C.field ≡ D.field → C.columns ≡ D.columns → AreRows C.field C.columns C.rows → AreRows D.field D.columns D.rows → InSpan C.field (C.columns + C.columns) (uuv_rows C D) w ↔ InUuv C D w
uuv_members C D w k h r s =
    let f = C.field in
    let n = C.columns in
    let t : AreRows f n D.rows = subst (λ m. AreRows f m D.rows) (sym h) (over f D.field D.columns D.rows k s) in
    let twice : List ℕ → List ℕ = λ u. u ++ u in
    let right : List ℕ → List ℕ = λ v. zero_word n ++ v in
    let rights : AreRows f (n + n) (right_rows n D.rows) = image_rows f n (n + n) right D.rows (right_linear f n n) t in (
      (λ p.
          let (x, (y, a, b, e)) = span_parted f (n + n) (twice_rows C.rows) (right_rows n D.rows) w rights p in
          let (u, cu, ex) = span_image f n (n + n) twice C.rows x (twice_linear f n) r a in
          let (v, dv, ey) = span_image f n (n + n) right D.rows y (right_linear f n n) t b in
          let dw : InCode D v = subst (λ g. InSpan g D.columns D.rows v) k (subst (λ m. InSpan f m D.rows v) h dv) in
          (u, (v, cu, dw, e ∙ ap₂ (word_sum f) ex ey ∙ added f n u v (span_word f n C.rows u r cu) (span_word f n D.rows v t dv)))),
      (λ p.
          let (u, (v, cu, dw, e)) = p in
          let dv : InSpan f n D.rows v = subst (λ m. InSpan f m D.rows v) (sym h) (subst (λ g. InSpan g D.columns D.rows v) (sym k) dw) in
          let wu = span_word f n C.rows u r cu in
          let wv = span_word f n D.rows v t dv in
          subst (InSpan f (n + n) (uuv_rows C D)) (added f n u v wu wv ∙ sym e)
          (span_of_both f (n + n) (twice_rows C.rows) (right_rows n D.rows) (twice u) (right v) (image_span f n (n + n) twice C.rows u (twice_linear f n) r cu) (image_span f n (n + n) right D.rows v (right_linear f n n) t dv) ((right_linear f n n).word v wv))),
    )

pub uuv_code : (C D E : Matrix) (g : FieldName) (n : ℕ) (rows : List (List ℕ)) → C.field ≡ D.field → C.columns ≡ D.columns → AreRows C.field C.columns C.rows → AreRows D.field D.columns D.rows → g ≡ C.field → n ≡ C.columns + D.columns → rows ≡ uuv_rows C D → IsCode g n (GeneratedBy g n rows) E → IsCode C.field (C.columns + D.columns) (InUuv C D) E
uuv_code C D E g n rows k h r s a b e c =
    let l : n ≡ C.columns + C.columns = omega (arith, h, b) in
    subst (λ m. IsCode C.field (C.columns + m) (InUuv C D) E) h (generated_by C.field g (C.columns + C.columns) n (uuv_rows C D) rows (InUuv C D) E a l e (λ w _. uuv_members C D w k h r s) c)

pub ruleset code_of_sum_laws = (direct_sum_words, direct_sum_code)
