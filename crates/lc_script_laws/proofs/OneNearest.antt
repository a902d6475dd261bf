-- A list that is a word has at most one nearest word in a code, whatever its rows are.
--   span_fits, span_short    they have symbols of the field, and are no longer than the code
--   nearest_one              so two nearest words are one, if decoding isn't refused
use Rattle.std.proofs.Common.{◌≡◌, ℕ, ⊎_elim, true≢false, is_some, ◌<◌, ◌≤◌, ◌==◌, true, false, List, [], ◌∷◌, length, take, None, refl, sym, ap, subst, ◌∙◌, arith}
use Rattle.std.proofs.lemmas.Bool.{cases_Bool, eqb-true}
use Rattle.std.proofs.lemmas.List.{get_or-take, length-take-le}
use Rattle.lc_constructions.specs.Refusal.{refuse_if}
use Rattle.lc_constructions.specs.Refusals.{are_elements}
use Rattle.lc_algebra.specs.declared.FieldName.{FieldName}
use Rattle.lc_algebra.specs.Field.{size, add, neg}
use Rattle.lc_algebra.specs.Word.{Fits, IsWord, word_sum, scale, difference}
use Rattle.lc_algebra.specs.Span.{InSpan}
use Rattle.lc_algebra.specs.Matrix.{Matrix}
use Rattle.lc_algebra.proofs.WordLaws.{length_scale, no_later_antisymmetric, length_zero_word, length_difference, IsWord_zero, fits_symbol, sum_fits}
use Rattle.lc_algebra.proofs.SpanLaws.{span_lengths}
use Rattle.lc_constructions.specs.Nearest.{IsNearest}
use Rattle.lc_constructions.proofs.NearestLaws.{same_error}
use Rattle.lc_constructions.proofs.RefusalLaws.{elements_fit}
use Rattle.lc_language.specs.Calls.{decode, refusal_of, refusals_of}
use Rattle.lc_language.specs.Refusal.{word_refusals, from_codes, first_of}
use Rattle.lc_script_laws.proofs.AtMostOne.{One}

-- ---- the words of a span

pub span_fits : (f : FieldName) (n : ℕ) (rows : List (List ℕ)) (w : List ℕ) → InSpan f n rows w → Fits f w
span_fits f n [] w h = subst (Fits f) (sym h) (IsWord_zero f n).fits
span_fits f n (g ∷ rows) w h = subst (Fits f) (sym h.2.2) (sum_fits f (scale f h.0 g) h.2.0)

short_sum : (f : FieldName) (u v : List ℕ) → length (word_sum f u v) ≤ length v
unfolding word_sum
short_sum f [] v = omega arith
short_sum f (a ∷ u) [] = omega arith
short_sum f (a ∷ u) (b ∷ v) = omega (arith, short_sum f u v)

pub span_short : (f : FieldName) (n : ℕ) (rows : List (List ℕ)) (w : List ℕ) → InSpan f n rows w → length w ≤ n
span_short f n [] w h = omega (arith, ap length h, length_zero_word n)
span_short f n (g ∷ rows) w h = omega (arith, ap length h.2.2, short_sum f (scale f h.0 g) h.2.0, span_short f n rows h.2.0 h.2.1)

-- ---- errors

sum_front : (f : FieldName) (x v : List ℕ) → length v ≤ length x → word_sum f x v ≡ word_sum f (take (length v) x) v
unfolding word_sum
sum_front f [] [] l = refl
sum_front f [] (b ∷ v) l = absurd (omega (arith, l))
sum_front f (a ∷ x) [] l = refl
sum_front f (a ∷ x) (b ∷ v) l = ap (λ (w : List ℕ). add f a b ∷ w) (sum_front f x v (omega (arith, l)))

front : (f : FieldName) (x u : List ℕ) (n : ℕ) → length u ≡ n → n ≤ length x → difference f x u ≡ difference f (take n x) u
unfolding difference
front f x u n e l =
    let long : length (scale f (neg f 1) u) ≡ n = length_scale f (neg f 1) u ∙ e in
    subst (λ m. word_sum f x (scale f (neg f 1) u) ≡ word_sum f (take m x) (scale f (neg f 1) u)) long (sum_front f x (scale f (neg f 1) u) (omega (arith, long, l)))

take_word : (f : FieldName) (n : ℕ) (x : List ℕ) → n ≤ length x → Fits f x → IsWord f n (take n x)
take_word f n x l h =
    let long : length (take n x) ≡ n = length-take-le n x l in
    record { long = long; fits = λ k m. subst (λ a. a < size f) (sym (get_or-take n x k 0 (omega (arith, m, long)))) (fits_symbol f x h k) }

-- ---- the nearest word

uneven_refused : (C : Matrix) (x : List ℕ) → refusal_of (decode C x) ≡ None → (length x == C.columns) ≡ false → ⊥
unfolding refusal_of refusals_of word_refusals from_codes first_of refuse_if
uneven_refused C x h t = true≢false (ap is_some (rw t at h))

high_refused : (C : Matrix) (x : List ℕ) → refusal_of (decode C x) ≡ None → (length x == C.columns) ≡ true → are_elements C.field x ≡ false → ⊥
unfolding refusal_of refusals_of word_refusals from_codes first_of refuse_if
high_refused C x h e t = true≢false (ap is_some (rw (e, t) at h))

decoded_word : (C : Matrix) (x : List ℕ) → refusal_of (decode C x) ≡ None → IsWord C.field C.columns x
decoded_word C x h =
    let even : (length x == C.columns) ≡ true = ⊎_elim (λ (t : (length x == C.columns) ≡ true). t) (λ (t : (length x == C.columns) ≡ false). absurd (uneven_refused C x h t)) (cases_Bool (length x == C.columns)) in
    let low : are_elements C.field x ≡ true = ⊎_elim (λ (t : are_elements C.field x ≡ true). t) (λ (t : are_elements C.field x ≡ false). absurd (high_refused C x h even t)) (cases_Bool (are_elements C.field x)) in
    record { long = eqb-true (length x) C.columns even; fits = elements_fit C.field x low }

pub nearest_one : (C : Matrix) (x : List ℕ) → refusal_of (decode C x) ≡ None → One (IsNearest C x)
nearest_one C x r u v p q =
    let f = C.field in
    let a : IsWord f C.columns x = decoded_word C x r in
    let n = length u in
    let fewer : n ≤ length x = omega (arith, a.long, span_short f C.columns C.rows u p.inside) in
    let same : length v ≡ n = span_lengths f C.columns C.rows v u q.inside p.inside in
    let y = take n x in
    let wy : IsWord f n y = take_word f n x fewer a.fits in
    let wu : IsWord f n u = record { long = refl; fits = span_fits f C.columns C.rows u p.inside } in
    let wv : IsWord f n v = record { long = same; fits = span_fits f C.columns C.rows v q.inside } in
    let eu : difference f x u ≡ difference f y u = front f x u n refl fewer in
    let ev : difference f x v ≡ difference f y v = front f x v n same fewer in
    let long : length (difference f x u) ≡ length (difference f x v) =
    ap length eu ∙ length_difference f y u wy.long ∙ sym (length_difference f y v (wy.long ∙ sym same)) ∙ sym (ap length ev) in
    let errors : difference f x u ≡ difference f x v = no_later_antisymmetric (difference f x u) (difference f x v) long (p.first v q.inside) (q.first u p.inside) in
    same_error f n y u v wy wu wv (sym eu ∙ errors ∙ ev)
