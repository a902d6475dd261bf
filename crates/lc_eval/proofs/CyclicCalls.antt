-- Cyclic codes by a polynomial are what the definitions say, and Golay codes.
--   cyclic_same              a list is refused by its numbers as by its symbols
--   cyclic_fine_same         a list that isn't refused before the division holds elements alone
--   generator_pol_applies, check_pol_applies      a cyclic code, or its refusal
--   extended_binary_applies, extended_ternary_applies      an extended Golay code: it isn't refused
use Rattle.std.proofs.Common.{◌≡◌, ◌≢◌, ℕ, ◌+◌, ◌↔◌, ◌⊎◌, inl, inr, Bool, true, false, not, ◌==◌, ◌||◌, List, [], ◌∷◌, length, Option, Some, None, is_none, option_map, Result, Ok, Err, IfOk, IsTrue, refl, sym, ap, ap₂, subst, ◌∙◌, ⊎_elim, true≢false, arith}
use Rattle.std.proofs.lemmas.Bool.{cases_Bool, cases_eq}
use Rattle.std.proofs.lemmas.Option.{none-some}
use Rattle.lc_algebra.specs.declared.FieldName.{FieldName}
use Rattle.lc_algebra.specs.declared.FieldName.TheVariants.{Gf2, Gf3}
use Rattle.lc_algebra.specs.Field.{size, is_symbol}
use Rattle.lc_algebra.specs.Polynomial.{trimmed, x_power_minus_one, Divides}
use Rattle.lc_algebra.specs.Matrix.{Matrix}
use Rattle.lc_constructions.specs.Code.{is_length, IsCode}
use Rattle.lc_constructions.specs.Cyclic.{IsMultipleOf, IsCheckedBy, binary_golay_generator, ternary_golay_generator}
use Rattle.lc_constructions.specs.Combined.{InExtended}
use Rattle.lc_constructions.specs.declared.refusal.CodeRefusal.{CodeRefusal}
use Rattle.lc_constructions.specs.declared.refusal.CodeRefusal.TheVariants.{BadLength, BadArgument, FieldTooLarge, NotADivisor, NoMemory}
use Rattle.lc_constructions.specs.Refusal.{refusal_number, refusal_values, refuse_if, first_refusal, IsRefusedAs}
use Rattle.lc_constructions.specs.Refusals.{are_elements, too_large, bad_length, bad_argument, DividesPowerLess, cyclic_refusals, extended_refusals}
use Rattle.lc_language.specs.Calls.{BoundCall, generator_pol_code, check_pol_code, extended_binary_golay_code, extended_ternary_golay_code, refusals_of, refusal_of, Gives, IsNotDivisor}
use Rattle.lc_language.specs.Value as language
use Rattle.lc_language.specs.Value.{code}
use Rattle.lc_language.specs.Refusal.{Refusal, refuse, refusal_from, from_codes}
use Rattle.lc_language.specs.Meaning.{IsExtendedGolay}
use Rattle.lc_language.specs.Evaluation.{Outcome, gives, refused, refuse_at, refuse_call, AppliesTo}
use Rattle.lc_code.proofs.CoordinateSteps.{small_size}
use Rattle.lc_calls.specs.declared.values.Value.{Value}
use Rattle.lc_calls.specs.declared.refusals.Stop.{Stop}
use Rattle.lc_calls.specs.declared.refusals.Stop.TheVariants as stop
use Rattle.lc_calls.specs.Value.{value_of, refused_of}
use Rattle.lc_calls.specs.Applied.{Answers}
use Rattle.lc_calls.specs.Made.{IsMade}
use Rattle.lc_eval.specs.Rows.{clamped}
use Rattle.lc_eval.proofs.AnswerLaws.{Applying, first_as, given, always}
use Rattle.lc_eval.proofs.RowLaws.{elements_same, row_kept, none_here}
use Rattle.lc_cyclic.proofs.CyclicRefusals.{cyclic_large}

-- ---- numbers as symbols

not_elements : (f : FieldName) (x y : List ℕ) (n : ℕ) (d : Bool) → are_elements f x ≡ false → are_elements f y ≡ false → first_refusal (cyclic_refusals f x n d) ≡ first_refusal (cyclic_refusals f y n d)
unfolding cyclic_refusals bad_argument
not_elements f x y n d e h = rw (e, h) refl

kept : (f : FieldName) (x : List ℕ) → IsTrue (is_symbol f) → are_elements f x ≡ true → clamped x ≡ x
unfolding are_elements
kept f x s h = row_kept (size f) x (small_size f s) (elements_same f x (small_size f s) ∙ h)

pub cyclic_same : (f : FieldName) (x : List ℕ) (n : ℕ) (d : Bool) → first_refusal (cyclic_refusals f (clamped x) n d) ≡ first_refusal (cyclic_refusals f x n d)
cyclic_same f x n d =
    ⊎_elim
    (λ (s : is_symbol f ≡ true). ⊎_elim
    (λ (e : are_elements f x ≡ true). ap (λ (u : List ℕ). first_refusal (cyclic_refusals f u n d)) (kept f x s e))
    (λ (e : are_elements f x ≡ false). not_elements f (clamped x) x n d (elements_same f x (small_size f s) ∙ e) e)
    (cases_Bool (are_elements f x)))
    (λ (s : is_symbol f ≡ false). cyclic_large f (clamped x) n d s ∙ sym (cyclic_large f x n d s))
    (cases_Bool (is_symbol f))

or_first : (a b : Bool) → not (not a || b) ≡ true → a ≡ true
or_first true b h = refl
or_first false b h = absurd (true≢false (sym h))

passed : (b : Bool) (r : CodeRefusal) (rs : List (Option CodeRefusal)) → first_refusal (refuse_if b r ∷ rs) ≡ None → not b ≡ true
unfolding first_refusal refuse_if
passed true r rs h = absurd (true≢false (ap is_none (sym h)))
passed false r rs h = refl

pub cyclic_fine_same : (f : FieldName) (x : List ℕ) (n : ℕ) (d : Bool) → first_refusal (cyclic_refusals f x n d) ≡ None → clamped x ≡ x
unfolding cyclic_refusals too_large bad_length bad_argument
cyclic_fine_same f x n d h =
    let a = none_here (is_symbol f) FieldTooLarge _ h in
    let b = none_here (is_length n) BadLength _ a.1 in
    let c = passed (not (are_elements f x) || (length (trimmed x) == 0)) (BadArgument 1) _ b.1 in
    kept f x a.0 (or_first (are_elements f x) (length (trimmed x) == 0) c)

-- ---- the refusals before the division, and the last one

abbrev Refusing : (Option CodeRefusal) → (Option CodeRefusal) → (Option CodeRefusal) → Bool → Option CodeRefusal
Refusing a b c d = first_refusal (a ∷ b ∷ c ∷ refuse_if (not d) NotADivisor ∷ [])

abbrev Before : (Bool → Option CodeRefusal) → Type 0
Before F = (e : CodeRefusal) × ((d : Bool) → F d ≡ Some e)

abbrev Last : (Bool → Option CodeRefusal) → Type 0
Last F = (d : Bool) → F d ≡ first_refusal (refuse_if (not d) NotADivisor ∷ [])

before_or_last : (a b c : Option CodeRefusal) → Before (Refusing a b c) ⊎ Last (Refusing a b c)
unfolding first_refusal
before_or_last (Some e) b c = inl (e, λ d. refl)
before_or_last None (Some e) c = inl (e, λ d. refl)
before_or_last None None (Some e) = inl (e, λ d. refl)
before_or_last None None None = inr (λ d. refl)

refusing : (f : FieldName) (x : List ℕ) (n : ℕ) → Before (λ d. first_refusal (cyclic_refusals f x n d)) ⊎ Last (λ d. first_refusal (cyclic_refusals f x n d))
unfolding cyclic_refusals
refusing f x n = before_or_last (too_large f) (bad_length n) (bad_argument (not (are_elements f x) || (length (trimmed x) == 0)) 1)

-- ---- a test that says whether D holds exists, unless a contradiction is at hand

abbrev Refused : {T : Type 0} → Result T CodeRefusal → (Bool → Option CodeRefusal) → Type 0 → Type 0
Refused {T = T} made F D = (d : Bool) → (IsTrue d ↔ D) → IsRefusedAs made (F d)

either_way : {T : Type 0} (made : Result T CodeRefusal) (F : Bool → Option CodeRefusal) (D : Type 0) → Refused made F D → ((d : Bool) → IsRefusedAs made (F d) → ⊥) → ⊥
either_way made F D h k =
    let no : D → ⊥ = λ y. k true (h true ((λ t. y), (λ z. refl))) in
    k false (h false ((λ t. absurd (true≢false (sym t))), (λ y. absurd (no y))))

same_list : (u v : List ℕ) → (u ≡ v) ⊎ (u ≢ v)
same_list [] [] = inl refl
same_list [] (b ∷ v) = inr (λ e. let t : length {A = ℕ} [] ≡ length (b ∷ v) = ap (λ (w : List ℕ). length w) e in omega (arith, t))
same_list (a ∷ u) [] = inr (λ e. let t : length (a ∷ u) ≡ length {A = ℕ} [] = ap (λ (w : List ℕ). length w) e in omega (arith, t))
same_list (a ∷ u) (b ∷ v) =
    ⊎_elim
    (λ (e : a ≡ b). ⊎_elim (λ (h : u ≡ v). inl (ap₂ (λ (c : ℕ) (w : List ℕ). c ∷ w) e h)) (λ (h : u ≢ v). inr (λ t. h (cc t))) (same_list u v))
    (λ (e : a ≢ b). inr (λ t. e (cc t)))
    (cases_eq a b)

record_of : ℕ → List ℕ → Refusal
record_of n u = record { number = n; values = u }

same_refusal : (r s : Refusal) → (r ≢ s → ⊥) → r ≡ s
unfolding record_of
same_refusal r s k =
    let told : (n m : ℕ) (u v : List ℕ) → n ≡ m → u ≡ v → record_of n u ≡ record_of m v = λ n m u v e h. ap₂ record_of e h in
    ⊎_elim
    (λ (e : r.number ≡ s.number). ⊎_elim (λ (h : r.values ≡ s.values). told r.number s.number r.values s.values e h) (λ (h : r.values ≢ s.values). absurd (k (λ t. h (ap (λ (x : Refusal). x.values) t)))) (same_list r.values s.values))
    (λ (e : r.number ≢ s.number). absurd (k (λ t. e (ap (λ (x : Refusal). x.number) t))))
    (cases_eq r.number s.number)

-- ---- the codes

-- what a call that the refusals F are of, and D, gives or is refused with
record IsCyclicCall (b : BoundCall) (F : Bool → Option CodeRefusal) (D : Type 0) : Type 0 where
  first : refusal_of b ≡ option_map refusal_from (F true)
  split : Before F ⊎ Last F
  divides : F true ≡ None → IsNotDivisor b ↔ ¬ D

cyclic_given : (offset : ℕ) (b : BoundCall) (F : Bool → Option CodeRefusal) (D : Type 0) (C : Matrix) (result : Result Value Stop) → IsCyclicCall b F D → Refused {T = Matrix} (Ok C) F D → (F true ≡ None → Gives b (code C None)) → Answers result (λ o. o ≡ gives (code C None)) → Answers result (AppliesTo offset b)
unfolding first_refusal refuse_if
cyclic_given offset b F D C result s h g k =
    let last : Last F = ⊎_elim (λ (x : Before F). absurd (either_way {T = Matrix} (Ok C) F D h (λ d y. none-some x.0 (sym y ∙ x.1 d)))) (λ (l : Last F). l) s.split in
    let fine : F true ≡ None = last true in
    let divides : IsNotDivisor b → ⊥ = λ m. let no = (s.divides fine).0 m in none-some NotADivisor (sym (h false ((λ t. absurd (true≢false (sym t))), (λ y. absurd (no y)))) ∙ last false) in
    always offset b result (code C None) (s.first ∙ ap (option_map refusal_from) fine) divides (g fine) k

applies_as : (offset : ℕ) (b : BoundCall) (r : Option Refusal) (o : Outcome) → refusal_of b ≡ r → Applying offset b r o → AppliesTo offset b o
applies_as offset b r o e h = subst (λ t. Applying offset b t o) (sym e) h

some_same : (x y : CodeRefusal) → Some x ≡ Some y → x ≡ y
some_same x y e = cc e

refused_before : (offset : ℕ) (b : BoundCall) (F : Bool → Option CodeRefusal) (D : Type 0) (x e : CodeRefusal) (o : Outcome) → IsCyclicCall b F D → ((d : Bool) → F d ≡ Some e) → Refused {T = Matrix} (Err x) F D → x ≢ NoMemory → o ≡ refuse_call offset (refusal_from x) → AppliesTo offset b o
refused_before offset b F D x e o s t h m k =
    let same : refusal_from x ≡ refusal_from e = same_refusal (refusal_from x) (refusal_from e) (λ q. either_way {T = Matrix} (Err x) F D h (λ d y. q (ap refusal_from (some_same x e (sym (y m) ∙ t d))))) in
    applies_as offset b (Some (refusal_from e)) o (s.first ∙ ap (option_map refusal_from) (t true)) (k ∙ ap (refuse_call offset) same)

last_number : (offset : ℕ) → refuse_call offset (refusal_from NotADivisor) ≡ refuse_at 4 offset
unfolding refuse_call refusal_from refuse refusal_number refusal_values refuse_at
last_number offset = refl

refused_last : (offset : ℕ) (b : BoundCall) (F : Bool → Option CodeRefusal) (D : Type 0) (x : CodeRefusal) (o : Outcome) → IsCyclicCall b F D → Last F → Refused {T = Matrix} (Err x) F D → x ≢ NoMemory → o ≡ refuse_call offset (refusal_from x) → AppliesTo offset b o
unfolding first_refusal refuse_if
refused_last offset b F D x o s last h m k =
    let fine : F true ≡ None = last true in
    let no : D → ⊥ = λ y. none-some x (sym fine ∙ h true ((λ t. y), (λ z. refl)) m) in
    let refused : F false ≡ Some x = h false ((λ t. absurd (true≢false (sym t))), (λ y. absurd (no y))) m in
    let same : x ≡ NotADivisor = some_same x NotADivisor (sym refused ∙ last false) in
    let told : o ≡ refuse_at 4 offset = k ∙ ap (λ y. refuse_call offset (refusal_from y)) same ∙ last_number offset in
    applies_as offset b None o (s.first ∙ ap (option_map refusal_from) fine) (inl ((s.divides fine).1 no, told))

cyclic_answers : (offset : ℕ) (b : BoundCall) (F : Bool → Option CodeRefusal) (D : Type 0) (made : Result Matrix CodeRefusal) (result : Result Value Stop) → IsCyclicCall b F D → Refused made F D → ((C : Matrix) → made ≡ Ok C → F true ≡ None → Gives b (code C None)) → IsMade made offset result → Answers result (AppliesTo offset b)
cyclic_answers offset b F D (Ok C) result s h g k = cyclic_given offset b F D C result s h (g C refl) k
cyclic_answers offset b F D (Err x) (Ok v) s h g k = absurd (given (value_of v) offset (refusal_from x) k.1)
cyclic_answers offset b F D (Err x) (Err stop.NoMemory) s h g k = tt
cyclic_answers offset b F D (Err x) (Err (stop.Refused r)) s h g k =
    ⊎_elim
    (λ (e : Before F). refused_before offset b F D x e.0 (refused (refused_of r)) s e.1 h k.0 k.1)
    (λ (l : Last F). refused_last offset b F D x (refused (refused_of r)) s l h k.0 k.1)
    s.split

divides_same : (f : FieldName) (x : List ℕ) (n : ℕ) → clamped x ≡ x → (¬ Divides f (trimmed x) (x_power_minus_one f n)) ↔ (¬ Divides f (trimmed (clamped x)) (x_power_minus_one f n))
divides_same f x n e = ((λ h. subst (λ (u : List ℕ). ¬ Divides f (trimmed u) (x_power_minus_one f n)) (sym e) h), (λ h. subst (λ (u : List ℕ). ¬ Divides f (trimmed u) (x_power_minus_one f n)) e h))

is_cyclic_call : (b : BoundCall) (x : List ℕ) (n : ℕ) (f : FieldName) → refusals_of b ≡ from_codes (cyclic_refusals f x n true) → (IsNotDivisor b ↔ ¬ Divides f (trimmed x) (x_power_minus_one f n)) → IsCyclicCall b (λ d. first_refusal (cyclic_refusals f x n d)) (Divides f (trimmed (clamped x)) (x_power_minus_one f n))
is_cyclic_call b x n f e d = record {
  first = first_as b (cyclic_refusals f x n true) (first_refusal (cyclic_refusals f x n true)) e refl;
  split = refusing f x n;
  divides = λ h. let same = divides_same f x n (cyclic_fine_same f x n true h) in ((λ y. same.0 (d.0 y)), (λ y. d.1 (same.1 y)));
}

cyclic_applies : (offset : ℕ) (b : BoundCall) (x w : List ℕ) (n : ℕ) (f : FieldName) (P : List ℕ → List ℕ → Type 0) (made : Result Matrix CodeRefusal) (result : Result Value Stop)
    → refusals_of b ≡ from_codes (cyclic_refusals f x n true) → (IsNotDivisor b ↔ ¬ Divides f (trimmed x) (x_power_minus_one f n))
    → ((C : Matrix) → IsCode f n (P x) C → Gives b (code C None))
    → w ≡ clamped x → IfOk made (λ C. IsCode f n (P w) C) → ((d : Bool) → DividesPowerLess f w n d → IsRefusedAs made (first_refusal (cyclic_refusals f w n d)))
    → IsMade made offset result → Answers result (AppliesTo offset b)
cyclic_applies offset b x w n f P made result e d g c h r k =
    cyclic_answers offset b (λ d. first_refusal (cyclic_refusals f x n d)) (Divides f (trimmed (clamped x)) (x_power_minus_one f n)) made result
    (is_cyclic_call b x n f e d)
    (λ t says. subst (λ o. IsRefusedAs made o) (ap (λ (u : List ℕ). first_refusal (cyclic_refusals f u n t)) c ∙ cyclic_same f x n t) (r t (subst (λ (u : List ℕ). DividesPowerLess f u n t) (sym c) says)))
    (λ C m o.
    let is : IsCode f n (P w) C = rw m at h in
    g C (subst (λ (u : List ℕ). IsCode f n (P u) C) (c ∙ cyclic_fine_same f x n true o) is))
    k

pub generator_pol_applies : (offset : ℕ) (x w : List ℕ) (n : ℕ) (f : FieldName) (made : Result Matrix CodeRefusal) (result : Result Value Stop)
    → w ≡ clamped x → IfOk made (λ C. IsCode f n (IsMultipleOf f n (trimmed w)) C) → ((d : Bool) → DividesPowerLess f w n d → IsRefusedAs made (first_refusal (cyclic_refusals f w n d)))
    → IsMade made offset result → Answers result (AppliesTo offset (generator_pol_code x n f))
unfolding refusals_of
generator_pol_applies offset x w n f made result c h r k =
    cyclic_applies offset (generator_pol_code x n f) x w n f (λ u. IsMultipleOf f n (trimmed u)) made result refl ((λ y. y), (λ y. y)) (λ C is. record { code_is = (C, is, refl) }) c h r k

pub check_pol_applies : (offset : ℕ) (x w : List ℕ) (n : ℕ) (f : FieldName) (made : Result Matrix CodeRefusal) (result : Result Value Stop)
    → w ≡ clamped x → IfOk made (λ C. IsCode f n (IsCheckedBy f n (trimmed w)) C) → ((d : Bool) → DividesPowerLess f w n d → IsRefusedAs made (first_refusal (cyclic_refusals f w n d)))
    → IsMade made offset result → Answers result (AppliesTo offset (check_pol_code x n f))
unfolding refusals_of
check_pol_applies offset x w n f made result c h r k =
    cyclic_applies offset (check_pol_code x n f) x w n f (λ u. IsCheckedBy f n (trimmed u)) made result refl ((λ y. y), (λ y. y)) (λ C is. record { code_is = (C, is, refl) }) c h r k

-- ---- extended Golay codes

extended_fine : (C : Matrix) → is_length (C.columns + 1) ≡ true → first_refusal (extended_refusals C) ≡ None
unfolding extended_refusals bad_length refuse_if first_refusal
extended_fine C h = rw h refl

extended_golay_applies : (offset : ℕ) (b : BoundCall) (f : FieldName) (n : ℕ) (g : List ℕ) (C : Matrix) (made : Result Matrix CodeRefusal) (result : Result Value Stop)
    → refusals_of b ≡ [] → ¬ IsNotDivisor b → ((v : language.Value) → IsExtendedGolay f n g v → Gives b v) → is_length (n + 1) ≡ true
    → IsCode f n (IsMultipleOf f n g) C → IfOk made (λ D. IsCode C.field (C.columns + 1) (InExtended C) D) → IsRefusedAs made (first_refusal (extended_refusals C))
    → IsMade made offset result → Answers result (AppliesTo offset b)
unfolding from_codes first_refusal
extended_golay_applies offset b f n g C (Ok D) result e d give l c x r k =
    let is : IsCode f (n + 1) (InExtended C) D = subst (λ (m : ℕ). IsCode f (m + 1) (InExtended C) D) c.length_is (subst (λ (h : FieldName). IsCode h (C.columns + 1) (InExtended C) D) c.over x) in
    always offset b result (code D None) (first_as b [] None e refl) d (give (code D None) (C, c, record { code_is = (D, is, refl) })) k
extended_golay_applies offset b f n g C (Err x) (Ok v) e d give l c y r k = absurd (given (value_of v) offset (refusal_from x) k.1)
extended_golay_applies offset b f n g C (Err x) (Err stop.NoMemory) e d give l c y r k = tt
extended_golay_applies offset b f n g C (Err x) (Err (stop.Refused w)) e d give l c y r k =
    let long : is_length (C.columns + 1) ≡ true = rw c.length_is l in
    absurd (none-some x (sym (extended_fine C long) ∙ r k.0))

pub extended_binary_applies : (offset : ℕ) (C : Matrix) (made : Result Matrix CodeRefusal) (result : Result Value Stop)
    → IsCode Gf2 23 (IsMultipleOf Gf2 23 binary_golay_generator) C → IfOk made (λ D. IsCode C.field (C.columns + 1) (InExtended C) D) → IsRefusedAs made (first_refusal (extended_refusals C))
    → IsMade made offset result → Answers result (AppliesTo offset extended_binary_golay_code)
unfolding refusals_of is_length
extended_binary_applies offset C made result c x r k = extended_golay_applies offset extended_binary_golay_code Gf2 23 binary_golay_generator C made result refl (λ n. n) (λ v h. h) refl c x r k

pub extended_ternary_applies : (offset : ℕ) (C : Matrix) (made : Result Matrix CodeRefusal) (result : Result Value Stop)
    → IsCode Gf3 11 (IsMultipleOf Gf3 11 ternary_golay_generator) C → IfOk made (λ D. IsCode C.field (C.columns + 1) (InExtended C) D) → IsRefusedAs made (first_refusal (extended_refusals C))
    → IsMade made offset result → Answers result (AppliesTo offset extended_ternary_golay_code)
unfolding refusals_of is_length
extended_ternary_applies offset C made result c x r k = extended_golay_applies offset extended_ternary_golay_code Gf3 11 ternary_golay_generator C made result refl (λ n. n) (λ v h. h) refl c x r k
