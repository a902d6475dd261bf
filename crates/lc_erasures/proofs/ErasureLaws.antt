-- How many codewords agree with a word off its erasures.
--   several_differ, several_from       there are several exactly if there is one and a nonzero codeword is 0 off the erasures
--   weight_erased          a word that is 0 off the erasures is no heavier than there are erasures
--   several_far            so there aren't several for fewer erasures than the minimum distance
--   corrected              and a codeword that was changed at them is the answer
use Rattle.std.proofs.Common.{◌≡◌, ◌≢◌, ℕ, suc, ◌+◌, ◌-◌, ◌<◌, ◌≤◌, Bool, true, false, cond, not, nat_le, ◌==◌, List, [], ◌∷◌, length, slice_index, Contains, None, is_some, refl, sym, ap, subst, ◌∙◌, true≢false, arith}
use Rattle.std.specs.List.{list_any}
use Rattle.std.proofs.lemmas.Bool.{eq-eqb, or_parts}
use Rattle.lc_algebra.specs.Field.{add, neg}
use Rattle.lc_algebra.specs.Word.{IsWord, zero_word, word_sum, difference, weight}
use Rattle.lc_algebra.specs.Span.{IsDistance}
use Rattle.lc_algebra.specs.Matrix.{Matrix, AreRows}
use Rattle.lc_algebra.proofs.FieldLaws.{zero_add, add_neg}
use Rattle.lc_algebra.proofs.WordLaws.{index_zero_word, length_zero_word, length_difference, index_difference, index_word_sum, length_word_sum, word_symbol, weight_zero_head, positive_weight, same_from_difference}
use Rattle.lc_algebra.proofs.SpanLaws.{span_word, span_sum, span_difference}
use Rattle.lc_algebra.proofs.SpanSearch.{contains_any}
use Rattle.lc_constructions.specs.declared.refusal.CodeRefusal.TheVariants.{BadPositions}
use Rattle.lc_constructions.specs.Code.{InCode}
use Rattle.lc_constructions.specs.Combined.{without_from, without}
use Rattle.lc_constructions.specs.Refusal.{refuse_if, first_refusal}
use Rattle.lc_constructions.specs.Refusals.{is_rising}
use Rattle.lc_constructions.proofs.WithoutLaws.{length_without, not_not, weight_removed}
use Rattle.lc_language.specs.Erasures.{AgreesOff, Fills, Filling, filled, unfilled, ambiguous, IsFilling, erased_refusals}
use Rattle.lc_erasures.proofs.FillingLaws.{sum_differs}

differs_off : (C : Matrix) (x erased v w : List ℕ) → AreRows C.field C.columns C.rows → IsWord C.field C.columns x → Fills C x erased v → Fills C x erased w → Fills C (zero_word C.columns) erased (difference C.field v w)
differs_off C x erased v w r word fv fw =
    let f = C.field in
    let n = C.columns in
    let l : length v ≡ length w = fv.1.long ∙ sym fw.1.long in (
      span_difference f n C.rows v w fv.0 fw.0,
      record {
        long = length_difference f v w l ∙ fv.1.long ∙ word.long ∙ sym (length_zero_word n);
        agrees = λ i m o.
            let k : i < length x = omega (arith, m, length_zero_word n, word.long) in
            index_difference f v w i l ∙ ap (λ a. add f a (neg f (slice_index w i))) (fv.1.agrees i k o ∙ sym (fw.1.agrees i k o)) ∙ add_neg f (slice_index w i) ∙ sym (index_zero_word n i);
      },
    )

other_zero : (C : Matrix) (x erased v w : List ℕ) → AreRows C.field C.columns C.rows → Fills C x erased v → Fills C x erased w → v ≢ w → difference C.field v w ≢ zero_word C.columns
other_zero C x erased v w r fv fw ne z =
    ne (same_from_difference C.field C.columns v w (span_word C.field C.columns C.rows v r fv.0) (span_word C.field C.columns C.rows w r fw.0) z)

pub several_differ : (C : Matrix) (x erased : List ℕ) → AreRows C.field C.columns C.rows → IsWord C.field C.columns x → IsFilling C x erased ambiguous
    → ((v : List ℕ) × Fills C x erased v) × ((w : List ℕ) × (w ≢ zero_word C.columns) × Fills C (zero_word C.columns) erased w)
several_differ C x erased r word (v, (w, fv, fw, ne)) = ((v, fv), (difference C.field v w, other_zero C x erased v w r fv fw ne, differs_off C x erased v w r word fv fw))

pub several_from : (C : Matrix) (x erased : List ℕ) → AreRows C.field C.columns C.rows → IsWord C.field C.columns x
    → ((v : List ℕ) × Fills C x erased v) × ((w : List ℕ) × (w ≢ zero_word C.columns) × Fills C (zero_word C.columns) erased w) → IsFilling C x erased ambiguous
several_from C x erased r word ((v, fv), (w, ne, fw)) =
    let f = C.field in
    let n = C.columns in
    let a : IsWord f n w = span_word f n C.rows w r fw.0 in
    let b : IsWord f n v = span_word f n C.rows v r fv.0 in
    let l : length w ≡ length v = a.long ∙ sym b.long in
    let sum : Fills C x erased (word_sum f w v) = (
      span_sum f n C.rows w v fw.0 fv.0,
      record {
        long = length_word_sum f w v l ∙ fv.1.long;
        agrees = λ i m o.
            let k : i < length (zero_word n) = omega (arith, m, length_zero_word n, word.long) in
            index_word_sum f w v i l ∙ ap (λ c. add f c (slice_index v i)) (fw.1.agrees i k o ∙ index_zero_word n i) ∙ zero_add f (slice_index v i) (word_symbol f n v b i) ∙ fv.1.agrees i m o;
      },
    ) in
    (word_sum f w v, (v, sum, fv, λ same. ne (sum_differs f n w v a b same)))

-- ---- the weight of a word that is 0 off the erasures

weight_kept : (t : Bool) (a : ℕ) (u : List ℕ) → (t ≡ false → a ≡ 0) → weight u ≡ 0 → weight (cond t u (a ∷ u)) ≡ 0
weight_kept true a u h e = e
weight_kept false a u h e = ap (λ (b : ℕ). weight (b ∷ u)) (h refl) ∙ weight_zero_head u ∙ e

nothing_left : (i : ℕ) (erased w : List ℕ) → ((k : ℕ) → k < length w → list_any (λ p. i + k == p) erased ≡ false → slice_index w k ≡ 0) → weight (without_from i erased w) ≡ 0
unfolding without_from
nothing_left i erased [] h = refl
nothing_left i erased (a ∷ w) h =
    let here : list_any (λ p. i == p) erased ≡ false → a ≡ 0 = λ e. h 0 (omega arith) (let z : i + 0 ≡ i = omega arith in subst (λ j. list_any (λ p. j == p) erased ≡ false) (sym z) e) in
    let later : (k : ℕ) → k < length w → list_any (λ p. suc i + k == p) erased ≡ false → slice_index w k ≡ 0 = λ k l e.
    h (suc k) (omega (arith, l)) (let z : suc i + k ≡ i + suc k = omega arith in subst (λ j. list_any (λ p. j == p) erased ≡ false) z e) in
    weight_kept (list_any (λ p. i == p) erased) a (without_from (suc i) erased w) here (nothing_left (suc i) erased w later)

not_among : (erased : List ℕ) (k : ℕ) → list_any (λ p. k == p) erased ≡ false → ¬ Contains erased k
not_among erased k e c = absurd (true≢false (sym (contains_any (λ p. k == p) erased k c (eq-eqb k k refl)) ∙ e))

not_refused : (b : Bool) → first_refusal (refuse_if b BadPositions ∷ []) ≡ None → b ≡ false
unfolding first_refusal refuse_if
not_refused true h = absurd (true≢false (ap is_some h))
not_refused false h = refl

erased_kept : (C : Matrix) (erased : List ℕ) → first_refusal (erased_refusals C erased) ≡ None → (is_rising erased ≡ true) × (list_any (nat_le C.columns) erased ≡ false)
unfolding erased_refusals
erased_kept C erased h =
    let t = or_parts (not (is_rising erased)) (list_any (nat_le C.columns) erased) (not_refused _ h) in
    (not_not (is_rising erased) t.0, t.1)

pub weight_erased : (C : Matrix) (erased w : List ℕ) → first_refusal (erased_refusals C erased) ≡ None → IsWord C.field C.columns w → AgreesOff erased (zero_word C.columns) w → weight w ≤ length erased
unfolding without
weight_erased C erased w fine word off =
    let n = C.columns in
    let t = erased_kept C erased fine in
    let none : weight (without_from 0 erased w) ≡ 0 = nothing_left 0 erased w (λ k l e.
    let z : 0 + k ≡ k = omega arith in
    off.agrees k (omega (arith, l, word.long, length_zero_word n)) (not_among erased k (subst (λ j. list_any (λ p. j == p) erased ≡ false) z e)) ∙ index_zero_word n k) in
    let long : length (without_from 0 erased w) ≡ n - length erased = length_without n erased w word.long t.0 t.1 in
    omega (arith, none, long, word.long, weight_removed 0 erased w)

-- ---- fewer erasures than the minimum distance

pub several_far : (C : Matrix) (x erased : List ℕ) (d : ℕ) → AreRows C.field C.columns C.rows → IsWord C.field C.columns x → IsDistance C.field C.columns C.rows d
    → first_refusal (erased_refusals C erased) ≡ None → length erased < d → IsFilling C x erased ambiguous → ⊥
several_far C x erased d r word distance fine few t =
    let (w, ne, fw) = (several_differ C x erased r word t).1 in
    let a : IsWord C.field C.columns w = span_word C.field C.columns C.rows w r fw.0 in
    let some : 0 < weight w = positive_weight C.columns w a.long ne in
    absurd (omega (arith, few, some, distance.least w fw.0 some, weight_erased C erased w fine a fw.1))

pub corrected : (C : Matrix) (x c erased : List ℕ) (d : ℕ) (a : Filling) → AreRows C.field C.columns C.rows → IsWord C.field C.columns x → IsDistance C.field C.columns C.rows d
    → first_refusal (erased_refusals C erased) ≡ None → length erased < d → InCode C c → AgreesOff erased c x → IsFilling C x erased a → a ≡ filled c
corrected C x c erased d a r word distance fine few inside off h = told a h
  where
    back : AgreesOff erased x c
    back = record { long = sym off.long; agrees = λ i l n. sym (off.agrees i (omega (arith, l, off.long)) n) }

    told : (a : Filling) → IsFilling C x erased a → a ≡ filled c
    told (filled w) t = ap (λ (u : List ℕ). filled u) (sym (t.1 c (inside, back)))
    told unfilled t = absurd (t c (inside, back))
    told ambiguous t = absurd (several_far C x erased d r word distance fine few t)
