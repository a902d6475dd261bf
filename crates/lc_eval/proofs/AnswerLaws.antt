-- The answer of a call at its offset.
--   Applying                      what a call with a known refusal, or without one, answers
--   given                         a value is no refusal
--   always                        a call that isn't refused
--   given_by, refused_by          a value, and the refusal of a constructor of codes
--   first_as                      so is the first refusal of a call
--   applied_as, applied           what was made, or its refusal
--   made_applies                  a code of the words that meet P
--   never_refused                 a call without refusals
use Rattle.std.proofs.Common.{◌≡◌, ℕ, ◌⊎◌, List, [], Option, Some, None, option_map, MatchOption, Result, Ok, Err, IfOk, refl, sym, ap, subst, ◌∙◌, inr}
use Rattle.lc_algebra.specs.Matrix.{Matrix}
use Rattle.lc_algebra.specs.declared.FieldName.{FieldName}
use Rattle.lc_constructions.specs.Code.{IsCode}
use Rattle.lc_constructions.specs.declared.refusal.CodeRefusal.{CodeRefusal}
use Rattle.lc_constructions.specs.Refusal.{first_refusal, IsRefusedAs}
use Rattle.lc_language.specs.Calls.{BoundCall, refusals_of, refusal_of, Gives, IsNotDivisor}
use Rattle.lc_language.specs.Value as language
use Rattle.lc_language.specs.Value.{code}
use Rattle.lc_language.specs.Refusal.{Refusal, first_of, refusal_from, from_codes}
use Rattle.lc_language.specs.Meaning.{Made}
use Rattle.lc_language.proofs.RefusalLaws.{first_from_codes}
use Rattle.lc_language.specs.Evaluation.{Outcome, gives, refused, refuse_at, refuse_call, AppliesTo}
use Rattle.lc_calls.specs.declared.values.Value.{Value}
use Rattle.lc_calls.specs.declared.refusals.Stop.{Stop}
use Rattle.lc_calls.specs.declared.refusals.Stop.TheVariants as stop
use Rattle.lc_calls.specs.Value.{value_of, refused_of}
use Rattle.lc_calls.specs.Applied.{Answers}
use Rattle.lc_calls.specs.Made.{IsMade, IsMadeAs, plain_value}

abbrev pub Applying : ℕ → BoundCall → Option Refusal → Outcome → Type 0
Applying offset b r o =
    MatchOption r
    ((IsNotDivisor b × (o ≡ refuse_at 4 offset)) ⊎ (¬ IsNotDivisor b × ((v : language.Value) × Gives b v × (o ≡ gives v))))
    (λ r. o ≡ refuse_call offset r)

pub applying : (offset : ℕ) (b : BoundCall) (r : Option Refusal) (result : Result Value Stop) → refusal_of b ≡ r → Answers result (Applying offset b r) → Answers result (AppliesTo offset b)
applying offset b r result e h = subst (λ t. Answers result (Applying offset b t)) (sym e) h

pub given : (v : language.Value) (offset : ℕ) (r : Refusal) → gives v ≡ refuse_call offset r → ⊥
unfolding refuse_call
given v offset r e = cc

-- a call that is never refused
pub always : (offset : ℕ) (b : BoundCall) (result : Result Value Stop) (v : language.Value) → refusal_of b ≡ None → ¬ IsNotDivisor b → Gives b v → Answers result (λ o. o ≡ gives v) → Answers result (AppliesTo offset b)
always offset b (Ok x) v e n g h = applying offset b None (Ok x) e (inr (n, (v, g, h)))
always offset b (Err (stop.Refused r)) v e n g h = absurd (let t : refused (refused_of r) ≡ gives v = h in cc)
always offset b (Err stop.NoMemory) v e n g h = tt

pub given_by : (offset : ℕ) (b : BoundCall) (v : language.Value) → refusal_of b ≡ None → ¬ IsNotDivisor b → Gives b v → AppliesTo offset b (gives v)
given_by offset b v e n g = let h : Applying offset b None (gives v) = inr (n, (v, g, refl)) in subst (λ t. Applying offset b t (gives v)) (sym e) h

pub refused_by : (offset : ℕ) (b : BoundCall) (e : CodeRefusal) (s : Stop) → refusal_of b ≡ Some (refusal_from e) → IsMade (Err e) offset (Err s) → Answers (Err s) (AppliesTo offset b)
refused_by offset b e (stop.Refused r) h m = applying offset b (Some (refusal_from e)) (Err (stop.Refused r)) h m.1
refused_by offset b e stop.NoMemory h m = tt

pub first_as : (b : BoundCall) (rs : List (Option CodeRefusal)) (r : Option CodeRefusal) → refusals_of b ≡ from_codes rs → first_refusal rs ≡ r → refusal_of b ≡ option_map refusal_from r
unfolding refusal_of
first_as b rs r e h = ap first_of e ∙ first_from_codes rs ∙ ap (option_map refusal_from) h

pub applied_as : {T : Type 0} (offset : ℕ) (b : BoundCall) (first : Option CodeRefusal) (value : T → language.Value) (made : Result T CodeRefusal) (result : Result Value Stop)
    → refusal_of b ≡ option_map refusal_from first → ¬ IsNotDivisor b
    → ((x : T) → made ≡ Ok x → first ≡ None → Gives b (value x))
    → IsRefusedAs made first → IsMadeAs value made offset result → Answers result (AppliesTo offset b)
applied_as offset b first value (Ok x) result e n g h s = always offset b result (value x) (e ∙ ap (option_map refusal_from) h) n (g x refl h) s
applied_as offset b first value (Err x) (Ok v) e n g h s = absurd (given (value_of v) offset (refusal_from x) s.1)
applied_as offset b first value (Err x) (Err (stop.Refused r)) e n g h s = applying offset b (Some (refusal_from x)) (Err (stop.Refused r)) (e ∙ ap (option_map refusal_from) (h s.0)) s.1
applied_as offset b first value (Err x) (Err stop.NoMemory) e n g h s = tt

pub applied : {T : Type 0} (offset : ℕ) (b : BoundCall) (rs : List (Option CodeRefusal)) (value : T → language.Value) (made : Result T CodeRefusal) (result : Result Value Stop)
    → refusals_of b ≡ from_codes rs → ¬ IsNotDivisor b
    → ((x : T) → made ≡ Ok x → first_refusal rs ≡ None → Gives b (value x))
    → IsRefusedAs made (first_refusal rs) → IsMadeAs value made offset result → Answers result (AppliesTo offset b)
applied offset b rs value made result e n g h s = applied_as offset b (first_refusal rs) value made result (first_as b rs (first_refusal rs) e refl) n g h s

pub made_applies : (offset : ℕ) (b : BoundCall) (rs : List (Option CodeRefusal)) (f : FieldName) (n : ℕ) (P : List ℕ → Type 0) (made : Result Matrix CodeRefusal) (result : Result Value Stop)
    → refusals_of b ≡ from_codes rs → ¬ IsNotDivisor b → ((v : language.Value) → Made f n P v → Gives b v)
    → IfOk made (λ C. IsCode f n P C) → IsRefusedAs made (first_refusal rs) → IsMade made offset result → Answers result (AppliesTo offset b)
made_applies offset b rs f n P made result e fine g c h s =
    applied offset b rs plain_value made result e fine
    (λ C m o. let is : IsCode f n P C = rw m at c in g (code C None) (record { code_is = (C, is, refl) }))
    h s

pub never_refused : (offset : ℕ) (b : BoundCall) (v : language.Value) → refusals_of b ≡ [] → ¬ IsNotDivisor b → Gives b v → AppliesTo offset b (gives v)
unfolding refusal_of first_of
never_refused offset b v e n g = given_by offset b v (ap first_of e) n g
