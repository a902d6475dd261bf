-- The dimensions of direct sums and of the words u followed by u + v.
--   sum_dimension, uuv_dimension
use Rattle.std.proofs.Common.{◌≡◌, ℕ, ◌+◌, List, ◌++◌, length, refl, sym, ap, ap₂, subst, ◌∙◌}
use Rattle.std.proofs.lemmas.List.{length-append, length-map}
use Rattle.lc_algebra.specs.Word.{IsWord, zero_word, word_sum}
use Rattle.lc_algebra.specs.Span.{combine, AreIndependent}
use Rattle.lc_algebra.specs.Matrix.{Matrix, AreRows, IsReduced}
use Rattle.lc_algebra.proofs.WordLaws.{IsWord_sum, zero_sum}
use Rattle.lc_algebra.proofs.SpanLaws.{combine_is_word}
use Rattle.lc_algebra.proofs.ReducedLaws.{reduced_independent}
use Rattle.lc_algebra.proofs.DimensionLaws.{dimension_unique}
use Rattle.lc_constructions.specs.Code.{IsCode}
use Rattle.lc_constructions.specs.Combined.{InDirectSum, InUuv}
use Rattle.lc_linear_laws.proofs.PartLaws.{left_linear, right_linear, twice_linear, all_right, zero_parted, independent_parts}
use Rattle.lc_code.specs.Rows.{left_rows}
use Rattle.lc_code.proofs.GeneratedLaws.{over}
use Rattle.lc_linear_laws.proofs.LinearLaws.{combine_image, same_rows}
use Rattle.lc_combine.specs.Rows.{right_rows, twice_rows, direct_sum_rows, uuv_rows}
use Rattle.lc_combine.proofs.SumLaws.{both, added, direct_sum_words, direct_sum_members, uuv_words, uuv_members}

pub sum_dimension : (C D E : Matrix) → C.field ≡ D.field → AreRows C.field C.columns C.rows → IsReduced C.columns C.rows → AreRows D.field D.columns D.rows → IsReduced D.columns D.rows → IsCode C.field (C.columns + D.columns) (InDirectSum C D) E → length E.rows ≡ length C.rows + length D.rows
sum_dimension C D E k r p s q c =
    let f = C.field in
    let n = C.columns in
    let m = D.columns in
    let t : AreRows f m D.rows = over f D.field m D.rows k s in
    let left : List ℕ → List ℕ = λ u. u ++ zero_word m in
    let right : List ℕ → List ℕ = λ v. zero_word n ++ v in
    let words : AreRows f (n + m) (direct_sum_rows C D) = direct_sum_words C D f (n + m) (direct_sum_rows C D) refl refl k r s refl in
    let a : length (left_rows m C.rows) ≡ length C.rows = length-map C.rows left in
    let b : length (right_rows n D.rows) ≡ length D.rows = length-map D.rows right in
    let free : AreIndependent f (n + m) (direct_sum_rows C D) = independent_parts f (n + m) (left_rows m C.rows) (right_rows n D.rows) (all_right (IsWord f (n + m)) (left_rows m C.rows) (right_rows n D.rows) words) (λ cs bs wa wb z.
    let u = combine f n cs C.rows in
    let v = combine f m bs D.rows in
    let wu = combine_is_word f n cs C.rows r in
    let wv = combine_is_word f m bs D.rows t in
    let both_zero = zero_parted n m u v wu.long wv.long (sym (both f n m u v wu wv) ∙ sym (ap₂ (word_sum f) (combine_image f n (n + m) left cs C.rows (left_linear f n m) r) (combine_image f m (n + m) right bs D.rows (right_linear f n m) t)) ∙ z) in
    let x = reduced_independent f n C.rows r p cs (subst (λ i. IsWord f i cs) a wa) both_zero.0 in
    let y = reduced_independent f m D.rows t q bs (subst (λ i. IsWord f i bs) b wb) both_zero.1 in
    (x ∙ ap (λ i. zero_word i) (sym a), y ∙ ap (λ i. zero_word i) (sym b))) in
    sym (dimension_unique f (n + m) (direct_sum_rows C D) E.rows words c.generator.words free (reduced_independent f (n + m) E.rows c.generator.words c.generator.reduced) (same_rows f (n + m) (InDirectSum C D) (direct_sum_rows C D) E c words (λ w. direct_sum_members C D w k r s))) ∙ length-append (left_rows m C.rows) (right_rows n D.rows) ∙ ap₂ (λ i j. i + j) a b

pub uuv_dimension : (C D E : Matrix) → C.field ≡ D.field → C.columns ≡ D.columns → AreRows C.field C.columns C.rows → IsReduced C.columns C.rows → AreRows D.field D.columns D.rows → IsReduced D.columns D.rows → IsCode C.field (C.columns + D.columns) (InUuv C D) E → length E.rows ≡ length C.rows + length D.rows
uuv_dimension C D E k h r p s q c0 =
    let f = C.field in
    let n = C.columns in
    let c : IsCode f (n + n) (InUuv C D) E = subst (λ m. IsCode f (n + m) (InUuv C D) E) (sym h) c0 in
    let t : AreRows f n D.rows = subst (λ m. AreRows f m D.rows) (sym h) (over f D.field D.columns D.rows k s) in
    let o : IsReduced n D.rows = subst (λ m. IsReduced m D.rows) (sym h) q in
    let twice : List ℕ → List ℕ = λ u. u ++ u in
    let right : List ℕ → List ℕ = λ v. zero_word n ++ v in
    let words : AreRows f (n + n) (uuv_rows C D) = uuv_words C D f (n + n) (uuv_rows C D) refl (ap (λ m. n + m) h) k h r s refl in
    let a : length (twice_rows C.rows) ≡ length C.rows = length-map C.rows twice in
    let b : length (right_rows n D.rows) ≡ length D.rows = length-map D.rows right in
    let free : AreIndependent f (n + n) (uuv_rows C D) = independent_parts f (n + n) (twice_rows C.rows) (right_rows n D.rows) (all_right (IsWord f (n + n)) (twice_rows C.rows) (right_rows n D.rows) words) (λ cs bs wa wb z.
    let u = combine f n cs C.rows in
    let v = combine f n bs D.rows in
    let wu = combine_is_word f n cs C.rows r in
    let wv = combine_is_word f n bs D.rows t in
    let long : length (word_sum f u v) ≡ n = (IsWord_sum f n u v wu.long wv.long).long in
    let both_zero = zero_parted n n u (word_sum f u v) wu.long long (sym (added f n u v wu wv) ∙ sym (ap₂ (word_sum f) (combine_image f n (n + n) twice cs C.rows (twice_linear f n) r) (combine_image f n (n + n) right bs D.rows (right_linear f n n) t)) ∙ z) in
    let zero_v : v ≡ zero_word n = sym (ap (λ x. word_sum f x v) both_zero.0 ∙ zero_sum f n v wv) ∙ both_zero.1 in
    let x = reduced_independent f n C.rows r p cs (subst (λ i. IsWord f i cs) a wa) both_zero.0 in
    let y = reduced_independent f n D.rows t o bs (subst (λ i. IsWord f i bs) b wb) zero_v in
    (x ∙ ap (λ i. zero_word i) (sym a), y ∙ ap (λ i. zero_word i) (sym b))) in
    sym (dimension_unique f (n + n) (uuv_rows C D) E.rows words c.generator.words free (reduced_independent f (n + n) E.rows c.generator.words c.generator.reduced) (same_rows f (n + n) (InUuv C D) (uuv_rows C D) E c words (λ w. uuv_members C D w k h r s))) ∙ length-append (twice_rows C.rows) (right_rows n D.rows) ∙ ap₂ (λ i j. i + j) a b
