-- The dimensions of punctured and of extended codes, whose words are images of the words of a code.
--   light_word             a word that is zero without some coordinates is as light as these are few
--   punctured_dimension, extended_dimension
use Rattle.std.proofs.Common.{◌≡◌, ℕ, ◌+◌, ◌-◌, ◌<◌, ◌≤◌, List, [], ◌∷◌, ◌++◌, length, None, refl, ap, ⊎_elim, arith}
use Rattle.std.proofs.lemmas.Bool.{cases_lt}
use Rattle.lc_algebra.specs.Field.{neg}
use Rattle.lc_algebra.specs.Word.{IsWord, zero_word, weight}
use Rattle.lc_algebra.specs.Span.{IsWeightBound}
use Rattle.lc_algebra.specs.Matrix.{Matrix, AreRows, IsReduced}
use Rattle.lc_algebra.proofs.WordLaws.{weight_zero_word, zero_from_weight}
use Rattle.lc_algebra.proofs.SpanLaws.{span_word}
use Rattle.lc_constructions.specs.Code.{IsCode}
use Rattle.lc_constructions.specs.Combined.{symbol_sum, without_from, without, InExtended, InPunctured}
use Rattle.lc_constructions.specs.Refusal.{first_refusal}
use Rattle.lc_constructions.specs.Refusals.{deleted_refusals}
use Rattle.lc_constructions.proofs.WithoutLaws.{length_without, deleted_fine, weight_removed}
use Rattle.lc_linear_laws.proofs.PartLaws.{zero_parted}
use Rattle.lc_linear_laws.proofs.LinearLaws.{image_dimension}
use Rattle.lc_combine.proofs.DeletedLaws.{deleted_linear, punctured_members}
use Rattle.lc_combine.proofs.ExtendedLaws.{extended_linear, extended_members}

light_word : (C : Matrix) (coordinates u : List ℕ) → first_refusal (deleted_refusals C coordinates) ≡ None → IsWord C.field C.columns u → without coordinates u ≡ zero_word (C.columns - length coordinates) → weight u ≤ length coordinates
unfolding without
light_word C coordinates u h word e =
    let fine = deleted_fine C coordinates h in
    let long : length (without_from 0 coordinates u) ≡ C.columns - length coordinates = length_without C.columns coordinates u word.long fine.0 fine.1 in
    omega (arith, weight_removed 0 coordinates u, long, word.long, ap (λ x. weight x) e, weight_zero_word (C.columns - length coordinates))

pub punctured_dimension : (C P : Matrix) (coordinates : List ℕ) (d : ℕ) → AreRows C.field C.columns C.rows → IsReduced C.columns C.rows → first_refusal (deleted_refusals C coordinates) ≡ None → IsWeightBound C.field C.columns C.rows d → length coordinates < d → IsCode C.field (C.columns - length coordinates) (InPunctured C coordinates) P → length P.rows ≡ length C.rows
punctured_dimension C P coordinates d r o h heavy l c =
    let f = C.field in
    let n = C.columns in
    image_dimension f n (n - length coordinates) (without coordinates) C.rows (InPunctured C coordinates) P (deleted_linear C coordinates h) r o
    (λ u s e.
    let word = span_word f n C.rows u r s in
    ⊎_elim
    (λ b. absurd (omega (arith, heavy u s b, light_word C coordinates u h word e, l)))
    (λ b. zero_from_weight n u word.long (omega (arith, b)))
    (cases_lt 0 (weight u)))
    (λ w. punctured_members C coordinates w h r) c

pub extended_dimension : (C E : Matrix) → AreRows C.field C.columns C.rows → IsReduced C.columns C.rows → IsCode C.field (C.columns + 1) (InExtended C) E → length E.rows ≡ length C.rows
extended_dimension C E r o c =
    let f = C.field in
    let n = C.columns in
    let h : List ℕ → List ℕ = λ u. u ++ neg f (symbol_sum f u) ∷ [] in
    image_dimension f n (n + 1) h C.rows (InExtended C) E (extended_linear f n) r o
    (λ u s e. (zero_parted n 1 u (neg f (symbol_sum f u) ∷ []) (span_word f n C.rows u r s).long refl e).0)
    (λ w. extended_members C w r) c
