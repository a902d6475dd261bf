-- The support of a word, and puncturing there.
--   on_support             a coordinate is in the support exactly if the word is not 0 there
--   length_support         the support has as many coordinates as the word has nonzero symbols
--   rising_push, rising_filter      numbers that are picked from those below n rise
--   support_below, support_fine     so a word with a symbol 0 has a support at which a code may be punctured
--   left_none, left_fine      whether a coordinate is left
--   residual_code, residual_refused, residual_first      the code that is punctured there
use Rattle.std.proofs.Common.{◌≡◌, ℕ, zero, suc, ◌+◌, ◌-◌, ◌<◌, ◌≤◌, Bool, true, false, not, nat_le, nat_lt, cond, ◌==◌, List, [], ◌∷◌, ◌++◌, length, filter, count_by, slice_index, Some, None, is_some, Result, IfOk, Contains, refl, sym, ap, subst, ◌∙◌, ⊎_elim, arith, true≢false}
use Rattle.std.specs.List.{list_any}
use Rattle.std.proofs.lemmas.Bool.{cases_Bool, cases_lt, and_parts, and_from, lt-ltb, leb-true, eqb-true, eq-eqb, ne_eqb}
use Rattle.std.proofs.lemmas.List.{append-nil}
use Rattle.std.proofs.lemmas.List.Elements.{filter-append}
use Rattle.std.proofs.lemmas.List.Sums.{length-filter}
use Rattle.lc_algebra.specs.Word.{weight}
use Rattle.lc_algebra.specs.Span.{below}
use Rattle.lc_algebra.specs.Matrix.{Matrix, AreRows}
use Rattle.lc_algebra.proofs.CommonLaws.{same_test}
use Rattle.lc_algebra.proofs.WordLaws.{weight_cons}
use Rattle.lc_algebra.proofs.SpanLaws.{span_word, contains_head, contains_tail, contains_below, below_contains}
use Rattle.lc_algebra.proofs.SpanSearch.{any_contains, contains_any}
use Rattle.lc_constructions.specs.declared.refusal.CodeRefusal.{CodeRefusal}
use Rattle.lc_constructions.specs.declared.refusal.CodeRefusal.TheVariants.{BadLength}
use Rattle.lc_constructions.specs.Code.{is_length, InCode, IsCode}
use Rattle.lc_constructions.specs.Combined.{InPunctured}
use Rattle.lc_constructions.specs.Refusal.{refuse_if, first_refusal, IsRefusedAs, RefusesFirst}
use Rattle.lc_constructions.specs.Refusals.{is_rising, bad_length, deleted_refusals}
use Rattle.lc_constructions.proofs.RefusalLaws.{short_length}
use Rattle.lc_infoset.proofs.SetLaws.{filter_passes}
use Rattle.lc_infoset.proofs.AnswerLaws.{filter_keeps}
use Rattle.lc_infoset.proofs.NextLaws.{filter_first, filter_more, filter_same}
use Rattle.lc_language.specs.Residual.{support, InResidual, no_coordinate}
use Rattle.lc_macwilliams.proofs.CountLaws.{sum_first}

-- ---- the coordinates of the support

abbrev at : List ℕ → ℕ → Bool
at w i = not (slice_index w i == 0)

nothing_past : (w : List ℕ) (i : ℕ) → length w ≤ i → slice_index w i ≡ 0
nothing_past [] i l = refl
nothing_past (a ∷ w) zero l = absurd (omega (arith, l))
nothing_past (a ∷ w) (suc i) l = nothing_past w i (omega (arith, l))

at_inside : (w : List ℕ) (i : ℕ) → at w i ≡ true → i < length w
at_inside w i t = ⊎_elim (λ l. l) (λ l. absurd (true≢false (sym t ∙ ap (λ a. not (a == 0)) (nothing_past w i (omega (arith, l)))))) (cases_lt i (length w))

pub on_support : (w : List ℕ) (i : ℕ) → list_any (λ p. i == p) (support w) ≡ at w i
unfolding support
on_support w i =
    same_test (list_any (λ p. i == p) (support w)) (at w i)
    (λ t.
    let (q, c, e) = any_contains (λ p. i == p) (filter (at w) (below (length w))) t in
    ap (at w) (eqb-true i q e) ∙ (filter_passes (at w) (below (length w)) q c).passes)
    (λ t. contains_any (λ p. i == p) (filter (at w) (below (length w))) i (filter_keeps (at w) (below (length w)) i (below_contains (length w) i (at_inside w i t)) t) (eq-eqb i i refl))

counted_at : (w : List ℕ) → count_by (at w) (below (length w)) ≡ weight w
unfolding below
counted_at [] = refl
counted_at (a ∷ w) = sum_first (λ i. cond (at (a ∷ w) i) 1 0) (length w) ∙ ap (λ m. cond (not (a == 0)) 1 0 + m) (counted_at w) ∙ sym (weight_cons a w)

pub length_support : (w : List ℕ) → length (support w) ≡ weight w
unfolding support
length_support w = length-filter (at w) (below (length w)) ∙ counted_at w

-- ---- it rises

pub rising_push : (xs : List ℕ) (c : ℕ) → is_rising xs ≡ true → ((x : ℕ) → Contains xs x → x < c) → is_rising (xs ++ c ∷ []) ≡ true
unfolding is_rising
rising_push [] c r h = refl
rising_push (a ∷ []) c r h = and_from (nat_lt a c) true (lt-ltb a c (h a (contains_head a []))) refl
rising_push (a ∷ b ∷ xs) c r h =
    let t = and_parts (nat_lt a b) (is_rising (b ∷ xs)) r in
    and_from (nat_lt a b) (is_rising ((b ∷ xs) ++ c ∷ [])) t.0 (rising_push (b ∷ xs) c t.1 (λ x m. h x (contains_tail a x (b ∷ xs) m)))

pub rising_filter : (p : ℕ → Bool) (n : ℕ) → is_rising (filter p (below n)) ≡ true
unfolding below is_rising
rising_filter p zero = refl
rising_filter p (suc n) =
    let goal : Bool → Type 0 = λ b. is_rising (filter p (below n) ++ cond b (n ∷ []) []) ≡ true in
    let rest = rising_filter p n in
    let more : is_rising (filter p (below n) ++ n ∷ []) ≡ true = rising_push (filter p (below n)) n rest (λ x m. contains_below n x (filter_passes p (below n) x m).member) in
    let none : is_rising (filter p (below n) ++ []) ≡ true = ap is_rising (append-nil (filter p (below n))) ∙ rest in
    let each : goal (p n) = ⊎_elim (λ t. subst goal (sym t) more) (λ t. subst goal (sym t) none) (cases_Bool (p n)) in
    ap is_rising (filter-append p (below n) (n ∷ [])) ∙ each

support_below : (n : ℕ) (w : List ℕ) → length w ≤ n → list_any (nat_le n) (support w) ≡ false
unfolding support
support_below n w l =
    ⊎_elim
    (λ t.
    let (q, c, e) = any_contains (nat_le n) (filter (at w) (below (length w))) t in
    absurd (omega (arith, l, leb-true n q e, contains_below (length w) q (filter_passes (at w) (below (length w)) q c).member)))
    (λ t. t)
    (cases_Bool (list_any (nat_le n) (support w)))

support_rises : (w : List ℕ) → is_rising (support w) ≡ true
unfolding support
support_rises w = rising_filter (at w) (length w)

pub support_fine : (C : Matrix) (w : List ℕ) → length w ≡ C.columns → weight w < C.columns → first_refusal (deleted_refusals C (support w)) ≡ None
unfolding first_refusal refuse_if deleted_refusals
support_fine C w long some =
    rw (support_rises w, support_below C.columns w (omega (arith, long)), ne_eqb (length (support w)) C.columns (λ e. omega (arith, e, some, length_support w))) refl

-- ---- what is left

pub left_none : (C : Matrix) (w : List ℕ) → C.columns ≤ weight w → first_refusal (no_coordinate C w) ≡ Some BadLength
unfolding first_refusal refuse_if bad_length no_coordinate is_length
left_none C w l = let e : C.columns - weight w ≡ 0 = omega (arith, l) in rw e refl

pub left_fine : (C : Matrix) (w : List ℕ) → weight w < C.columns → C.columns ≤ 255 → first_refusal (no_coordinate C w) ≡ None
unfolding first_refusal refuse_if bad_length no_coordinate
left_fine C w l m = rw (short_length (C.columns - weight w) (omega (arith, l)) (omega (arith, m))) refl

-- ---- the code

pub residual_code : (C : Matrix) (w coordinates : List ℕ) (result : Result Matrix CodeRefusal) → coordinates ≡ support w → IfOk result (λ r. IsCode C.field (C.columns - length coordinates) (InPunctured C coordinates) r) → IfOk result (λ r. IsCode C.field (C.columns - weight w) (InResidual C w) r)
residual_code C w coordinates result e h =
    let at_support : IfOk result (λ r. IsCode C.field (C.columns - length (support w)) (InResidual C w) r) = subst (λ (ps : List ℕ). IfOk result (λ r. IsCode C.field (C.columns - length ps) (InPunctured C ps) r)) e h in
    subst (λ m. IfOk result (λ r. IsCode C.field (C.columns - m) (InResidual C w) r)) (length_support w) at_support

word_long : (C : Matrix) (w : List ℕ) → AreRows C.field C.columns C.rows → InCode C w → length w ≡ C.columns
word_long C w r i = (span_word C.field C.columns C.rows w r i).long

pub residual_refused : (C : Matrix) (w coordinates : List ℕ) (result : Result Matrix CodeRefusal) → AreRows C.field C.columns C.rows → InCode C w → weight w < C.columns → first_refusal (no_coordinate C w) ≡ None → coordinates ≡ support w → IsRefusedAs result (first_refusal (deleted_refusals C coordinates)) → IsRefusedAs result (first_refusal (no_coordinate C w))
residual_refused C w coordinates result r i some none e h =
    let fine : first_refusal (deleted_refusals C coordinates) ≡ None = ap (λ (ps : List ℕ). first_refusal (deleted_refusals C ps)) e ∙ support_fine C w (word_long C w r i) some in
    subst (IsRefusedAs result) (fine ∙ sym none) h

pub residual_first : (C : Matrix) (w : List ℕ) (result : Result Matrix CodeRefusal) → first_refusal (no_coordinate C w) ≡ None → RefusesFirst result (first_refusal (no_coordinate C w))
residual_first C w result none e h = absurd (true≢false (ap is_some (sym h ∙ none)))

pub ruleset residual_laws = (residual_code, residual_refused, residual_first)

pub ruleset check_left_laws = (left_none, left_fine)

pub ruleset support_laws = (filter_first, filter_more, filter_same)
