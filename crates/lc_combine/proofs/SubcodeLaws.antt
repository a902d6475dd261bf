-- Words of even weight, and words of two codes.
--   even_dot               over two elements, the dot with the word of ones is the weight modulo 2
--   even_checks, even_members, even_code
--   common_checks, common_members, common_code
use Rattle.std.proofs.Common.{◌≡◌, ℕ, zero, suc, ◌+◌, ◌%◌, ◌<◌, ◌↔◌, List, [], ◌∷◌, ◌++◌, length, replicate, refl, sym, ap, subst, ◌∙◌, arith}
use Rattle.std.proofs.lemmas.List.Elements.{All-append, All-head, All-cons}
use Rattle.lc_algebra.specs.declared.FieldName.{FieldName}
use Rattle.lc_algebra.specs.declared.FieldName.TheVariants.{Gf2}
use Rattle.lc_algebra.specs.Field.{add}
use Rattle.lc_algebra.specs.Word.{Fits, IsWord, weight, word_dot}
use Rattle.lc_algebra.specs.Matrix.{Matrix, AreRows, IsReduced, IsOrthogonal}
use Rattle.lc_algebra.proofs.FieldLaws.{one_mul}
use Rattle.lc_algebra.proofs.EmbeddingTests.{size_two}
use Rattle.lc_algebra.proofs.WordLaws.{fits_head, fits_tail, weight_zero_head, weight_other_head, ones_word}
use Rattle.lc_constructions.specs.Code.{IsCode, CheckedBy}
use Rattle.lc_constructions.specs.Combined.{InDual, InEvenWeight, InIntersection}
use Rattle.lc_constructions.proofs.ClosedLaws.{sum_of_bits}
use Rattle.lc_code.proofs.GeneratedLaws.{checked_by, dual_orthogonal, shaped}
use Rattle.lc_linear_laws.proofs.PartLaws.{rows_append, all_left, all_right}

-- ---- words of even weight

abbrev ones : ℕ → List ℕ
ones n = replicate n 1

bit_added : (a m : ℕ) → m < 2 → add Gf2 1 m ≡ (1 + m) % 2
bit_added a zero l = sum_of_bits.2
bit_added a (suc zero) l = sum_of_bits.3
bit_added a (suc (suc m)) l = absurd (omega (arith, l))

bit_kept : (m : ℕ) → m < 2 → add Gf2 0 m ≡ m
bit_kept zero l = sum_of_bits.0
bit_kept (suc zero) l = sum_of_bits.1
bit_kept (suc (suc m)) l = absurd (omega (arith, l))

even_dot : (n : ℕ) (w : List ℕ) → length w ≡ n → Fits Gf2 w → word_dot Gf2 (ones n) w ≡ weight w % 2
unfolding word_dot
even_dot zero [] e h = refl
even_dot zero (a ∷ w) e h = absurd (omega (arith, e))
even_dot (suc n) [] e h = absurd (omega (arith, e))
even_dot (suc n) (zero ∷ w) e h =
    let t = even_dot n w (omega (arith, e)) (fits_tail Gf2 0 w h) in
    cc (one_mul Gf2 0 (omega (arith, size_two)), t, bit_kept (weight w % 2) (omega arith), weight_zero_head w)
even_dot (suc n) (suc zero ∷ w) e h =
    let t = even_dot n w (omega (arith, e)) (fits_tail Gf2 1 w h) in
    let s : (1 + weight w % 2) % 2 ≡ suc (weight w) % 2 = omega arith in
    cc (one_mul Gf2 1 (omega (arith, size_two)), t, bit_added 0 (weight w % 2) (omega arith), s, weight_other_head 1 w (omega arith))
even_dot (suc n) (suc (suc a) ∷ w) e h = absurd (omega (arith, fits_head Gf2 (suc (suc a)) w h, size_two))

shorter : (C H : Matrix) (rows : List (List ℕ)) → IsCode C.field C.columns (InDual C) H → rows ≡ H.rows ++ replicate H.columns 1 ∷ [] → rows ≡ H.rows ++ ones C.columns ∷ []
shorter C H rows d e = e ∙ ap (λ m. H.rows ++ replicate m 1 ∷ []) d.length_is

pub even_checks : (C H : Matrix) (g : FieldName) (k : ℕ) (rows : List (List ℕ)) → IsCode C.field C.columns (InDual C) H → g ≡ C.field → k ≡ C.columns → rows ≡ H.rows ++ replicate H.columns 1 ∷ [] → AreRows g k rows
even_checks C H g k rows d a b e =
    let f = C.field in
    let n = C.columns in
    shaped f g n k (H.rows ++ ones n ∷ []) rows a b (shorter C H rows d e) (rows_append f n H.rows (ones n ∷ []) d.generator.words (All-cons (IsWord f n) (ones n) [] (ones_word f n) (λ i x l. absurd (omega (arith, l)))))

even_members : (C H : Matrix) (w : List ℕ) → C.field ≡ Gf2 → AreRows C.field C.columns C.rows → IsReduced C.columns C.rows → IsCode C.field C.columns (InDual C) H → IsWord C.field C.columns w → IsOrthogonal C.field (H.rows ++ ones C.columns ∷ []) w ↔ InEvenWeight C w
even_members C H w k r reduced d word =
    let f = C.field in
    let n = C.columns in
    let P : List ℕ → Type 0 = λ row. word_dot f row w ≡ 0 in
    let dot : word_dot f (ones n) w ≡ weight w % 2 = ap (λ g. word_dot g (ones n) w) k ∙ even_dot n w word.long (subst (λ g. Fits g w) k word.fits) in (
      (λ o. ((dual_orthogonal C H w r reduced d word).0 (all_left P H.rows (ones n ∷ []) o), sym dot ∙ All-head P (ones n) [] (all_right P H.rows (ones n ∷ []) o))),
      (λ p. All-append P H.rows (ones n ∷ []) ((dual_orthogonal C H w r reduced d word).1 p.0) (All-cons P (ones n) [] (dot ∙ p.1) (λ i x l. absurd (omega (arith, l))))),
    )

pub even_code : (C H E : Matrix) (g : FieldName) (k : ℕ) (rows : List (List ℕ)) → C.field ≡ Gf2 → AreRows C.field C.columns C.rows → IsReduced C.columns C.rows → IsCode C.field C.columns (InDual C) H → g ≡ C.field → k ≡ C.columns → rows ≡ H.rows ++ replicate H.columns 1 ∷ [] → IsCode g k (CheckedBy g rows) E → IsCode C.field C.columns (InEvenWeight C) E
even_code C H E g k rows q r reduced d a b e c =
    checked_by C.field g C.columns k (H.rows ++ ones C.columns ∷ []) rows (InEvenWeight C) E a b (shorter C H rows d e) (λ w word. even_members C H w q r reduced d word) c

-- ---- words of both codes

dual_over : (C D H : Matrix) → C.field ≡ D.field → C.columns ≡ D.columns → IsCode D.field D.columns (InDual D) H → AreRows C.field C.columns H.rows
dual_over C D H k h d = subst (λ x. AreRows x C.columns H.rows) (sym k) (subst (λ m. AreRows D.field m H.rows) (sym h) d.generator.words)

pub common_checks : (C D H K : Matrix) (g : FieldName) (k : ℕ) (rows : List (List ℕ)) → C.field ≡ D.field → C.columns ≡ D.columns → IsCode C.field C.columns (InDual C) H → IsCode D.field D.columns (InDual D) K → g ≡ C.field → k ≡ C.columns → rows ≡ H.rows ++ K.rows → AreRows g k rows
common_checks C D H K g k rows x y d e a b h =
    shaped C.field g C.columns k (H.rows ++ K.rows) rows a b h (rows_append C.field C.columns H.rows K.rows d.generator.words (dual_over C D K x y e))

common_members : (C D H K : Matrix) (w : List ℕ) → C.field ≡ D.field → C.columns ≡ D.columns → AreRows C.field C.columns C.rows → IsReduced C.columns C.rows → AreRows D.field D.columns D.rows → IsReduced D.columns D.rows → IsCode C.field C.columns (InDual C) H → IsCode D.field D.columns (InDual D) K → IsWord C.field C.columns w → IsOrthogonal C.field (H.rows ++ K.rows) w ↔ InIntersection C D w
common_members C D H K w x y r p s q d e word =
    let P : List ℕ → Type 0 = λ row. word_dot C.field row w ≡ 0 in
    let other : IsWord D.field D.columns w = subst (λ g. IsWord g D.columns w) x (subst (λ m. IsWord C.field m w) y word) in (
      (λ o. ((dual_orthogonal C H w r p d word).0 (all_left P H.rows K.rows o), (dual_orthogonal D K w s q e other).0 (subst (λ g. IsOrthogonal g K.rows w) x (all_right P H.rows K.rows o)))),
      (λ t. All-append P H.rows K.rows ((dual_orthogonal C H w r p d word).1 t.0) (subst (λ g. IsOrthogonal g K.rows w) (sym x) ((dual_orthogonal D K w s q e other).1 t.1))),
    )

pub common_code : (C D H K E : Matrix) (g : FieldName) (k : ℕ) (rows : List (List ℕ)) → C.field ≡ D.field → C.columns ≡ D.columns → AreRows C.field C.columns C.rows → IsReduced C.columns C.rows → AreRows D.field D.columns D.rows → IsReduced D.columns D.rows → IsCode C.field C.columns (InDual C) H → IsCode D.field D.columns (InDual D) K → g ≡ C.field → k ≡ C.columns → rows ≡ H.rows ++ K.rows → IsCode g k (CheckedBy g rows) E → IsCode C.field C.columns (InIntersection C D) E
common_code C D H K E g k rows x y r p s q d e a b h c =
    checked_by C.field g C.columns k (H.rows ++ K.rows) rows (InIntersection C D) E a b h (λ w word. common_members C D H K w x y r p s q d e word) c
