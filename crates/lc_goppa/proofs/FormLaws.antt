-- Parts of which none is refused are an alternant form.
--   none_before            a list without a refusal begins with none, and its rest has none
--   passes                 a test that refuses nothing fails
--   none_found             nothing of a list passes a test that finds nothing in it
--   least_found            a search stops no later than at a number that passes
--   distinct_points        points among which none repeats an earlier one are distinct
--   form_from_refusals     parts of which none is refused are a form
use Rattle.std.proofs.Common.{◌≡◌, ◌≢◌, ℕ, zero, suc, ◌+◌, ◌<◌, ◌≤◌, Bool, true, false, not, nat_lt, ◌==◌, ◌||◌, List, [], ◌∷◌, length, find, slice_index, AllPairs, Contains, Option, Some, None, is_none, option_map, refl, sym, ap, subst, ◌∙◌, ⊎_elim, true≢false, arith}
use Rattle.std.specs.List.{list_any}
use Rattle.std.proofs.lemmas.Bool.{cases_Bool, cases_eq, eqb-true, eq-eqb, ltb-false, or_parts, not_from_true}
use Rattle.std.proofs.lemmas.List.{get_or_default}
use Rattle.std.proofs.lemmas.Option.{none-some}
use Rattle.lc_algebra.specs.declared.FieldName.{FieldName}
use Rattle.lc_algebra.specs.Field.{size, is_symbol}
use Rattle.lc_algebra.specs.Embedding.{IsSubfield, is_subfield, first_from, first_that}
use Rattle.lc_algebra.specs.Word.{Fits}
use Rattle.lc_algebra.specs.Span.{below}
use Rattle.lc_algebra.proofs.CommonLaws.{find_here, find_later}
use Rattle.lc_algebra.proofs.EmbeddingLaws.{decides_subfield}
use Rattle.lc_algebra.proofs.SpanLaws.{contains_cases, below_contains}
use Rattle.lc_constructions.specs.declared.refusal.CodeRefusal.{CodeRefusal}
use Rattle.lc_constructions.specs.declared.refusal.CodeRefusal.TheVariants.{BadLength, BadArgument, RepeatedPoint, NotASubfield, LengthsDiffer, FieldTooLarge}
use Rattle.lc_constructions.specs.Code.{is_length}
use Rattle.lc_constructions.specs.Alternant.{IsForm}
use Rattle.lc_constructions.specs.Refusal.{refuse_if, first_refusal}
use Rattle.lc_constructions.specs.Refusals.{are_elements, too_large, bad_length, bad_argument, not_subfield, first_index, repeated_point, form_refusals}
use Rattle.lc_constructions.proofs.InverseLaws.{goes_on, stops}
use Rattle.lc_constructions.proofs.RefusalLaws.{elements_fit}
use Rattle.lc_constructions.proofs.WithoutLaws.{not_not}
use Rattle.lc_goppa.specs.Form.{alternant_form}
use Rattle.lc_goppa.proofs.PointLaws.{all_apart}
use Rattle.lc_goppa.proofs.RefusalLaws.{form_fine}

pub none_before : (o : Option CodeRefusal) (rs : List (Option CodeRefusal)) → first_refusal (o ∷ rs) ≡ None → (o ≡ None) × (first_refusal rs ≡ None)
unfolding first_refusal
none_before None rs e = (refl, e)
none_before (Some r) rs e = absurd (none-some r (sym e))

pub passes : (b : Bool) (r : CodeRefusal) → refuse_if b r ≡ None → b ≡ false
unfolding refuse_if
passes true r e = absurd (none-some r (sym e))
passes false r e = refl

pub none_found : {X : Type 0} (p : X → Bool) (xs : List X) (x : X) → find p xs ≡ None → Contains xs x → p x ≡ false
none_found p [] x e c = absurd (omega (arith, c.1))
none_found p (y ∷ xs) x e c =
    ⊎_elim
    (λ t. absurd (none-some y (sym e ∙ find_here p y xs t)))
    (λ t.
    ⊎_elim
    (λ s. ap p (sym s) ∙ t)
    (λ rest. none_found p xs x (sym (find_later p y xs t) ∙ e) rest)
    (contains_cases y x xs c))
    (cases_Bool (p y))

pub least_found : (test : ℕ → Bool) (start count i : ℕ) → start ≤ i → i < start + count → test i ≡ true → first_from test start count ≤ i
least_found test start zero i l m t = absurd (omega (arith, l, m))
least_found test start (suc count) i l m t =
    ⊎_elim
    (λ e. omega (arith, stops test start count e, l))
    (λ e.
    let later : suc start ≤ i = ⊎_elim (λ s. absurd (true≢false (sym (subst (λ k. test k ≡ true) s t) ∙ e))) (λ n. omega (arith, l, n)) (cases_eq i start) in
    omega (arith, goes_on test start count e, least_found test (suc start) count i later (omega (arith, m)) t))
    (cases_Bool (test start))

no_repeat : (o : Option ℕ) (g : ℕ → CodeRefusal) → option_map g o ≡ None → o ≡ None
no_repeat None g e = refl
no_repeat (Some j) g e = absurd (none-some (g j) (sym e))

pub distinct_points : (xs : List ℕ) → repeated_point xs ≡ None → AllPairs (λ a b. a ≢ b) xs
unfolding repeated_point first_index first_that
distinct_points xs e =
    all_apart xs (λ k i l m same.
    let none = no_repeat (find (λ j. nat_lt (first_index xs j) j) (below (length xs))) (λ j. RepeatedPoint (first_index xs j) j) e in
    let first : k ≤ first_index xs k = ltb-false (first_index xs k) k (none_found (λ j. nat_lt (first_index xs j) j) (below (length xs)) k none (below_contains (length xs) k l)) in
    let earlier : first_index xs k ≤ i = least_found (λ j. slice_index xs j == slice_index xs k) 0 (length xs) i (omega arith) (omega (arith, l, m)) (eq-eqb (slice_index xs i) (slice_index xs k) same) in
    omega (arith, first, earlier, m))

pub form_from_refusals : (f K : FieldName) (bad : Bool) (points multipliers : List ℕ) (r : ℕ) → first_refusal (form_refusals f K bad points multipliers) ≡ None → IsForm f (alternant_form K points multipliers r)
unfolding form_refusals too_large not_subfield bad_length bad_argument
form_from_refusals f K bad points multipliers r e =
    let (one, later) = none_before _ _ e in
    let (two, after) = none_before _ _ later in
    let (three, third) = none_before _ _ after in
    let (four, fourth) = none_before _ _ third in
    let (five, fifth) = none_before _ _ fourth in
    let (six, sixth) = none_before _ _ fifth in
    let (seven, seventh) = none_before _ _ sixth in
    let (eight, last) = none_before _ _ seventh in
    let multiplied = or_parts (not (are_elements K multipliers)) (list_any (λ y. y == 0) multipliers) (passes _ _ seven) in
    form_fine f K points multipliers r
    (not_not (is_symbol f) (passes _ _ one))
    ((decides_subfield f K).0 (not_not (is_subfield f K) (passes _ _ two)))
    (not_not (is_length (length points)) (passes _ _ three))
    (eqb-true (length points) (length multipliers) (not_not (length points == length multipliers) (passes _ _ four)))
    (elements_fit K points (not_not (are_elements K points) (passes _ _ six)))
    (elements_fit K multipliers (not_not (are_elements K multipliers) multiplied.0))
    multiplied.1
    (distinct_points points eight)
