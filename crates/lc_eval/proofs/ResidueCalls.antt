-- What a quadratic residue code, as a call, gives.
--   residue_fault          the refusal of the field or the length
--   residue_behind         without one, the first refusal is that of the residues
--   residue_none           there is no such code
--   residue_made           the code
use Rattle.std.proofs.Common.{◌≡◌, ◌≢◌, ℕ, ◌↔◌, true, false, [], ◌∷◌, Option, Some, None, option_map, Err, IfSome, IsSome, is_some, IsTrue, refl, sym, ap, ◌∙◌, true≢false}
use Rattle.std.proofs.lemmas.Bool.{false_from_ne_true}
use Rattle.lc_algebra.specs.declared.FieldName.{FieldName}
use Rattle.lc_algebra.specs.Field.{size}
use Rattle.lc_algebra.specs.Matrix.{Matrix}
use Rattle.lc_constructions.specs.Code.{IsCode}
use Rattle.lc_constructions.specs.declared.refusal.CodeRefusal.{CodeRefusal}
use Rattle.lc_constructions.specs.declared.refusal.CodeRefusal.TheVariants.{NoMemory}
use Rattle.lc_constructions.specs.Refusal.{first_refusal}
use Rattle.lc_constructions.specs.Refusals.{length_refusals}
use Rattle.lc_language.specs.Calls.{qr_code, refusals_of, refusal_of}
use Rattle.lc_language.specs.Value as language
use Rattle.lc_language.specs.Value.{code}
use Rattle.lc_language.specs.Refusal.{refuse, when, first_of, refusal_from, from_codes}
use Rattle.lc_language.specs.QuadraticResidues.{is_residue_length, period, InResidueCode, not_residue_length}
use Rattle.lc_language.specs.Evaluation.{gives, refused, refuse_at, refuse_call, AppliesTo}
use Rattle.lc_calls.specs.declared.refusals.Refused.{Refused}
use Rattle.lc_calls.specs.declared.refusals.Stop.{Stop}
use Rattle.lc_calls.specs.declared.refusals.Stop.TheVariants as stop
use Rattle.lc_calls.specs.Value.{refused_of}
use Rattle.lc_calls.specs.Applied.{Answers}
use Rattle.lc_calls.specs.Made.{IsMade}
use Rattle.lc_language.proofs.RefusalLaws.{first_from_codes}
use Rattle.lc_eval.proofs.AnswerLaws.{applying, given_by}
use Rattle.lc_eval.proofs.QueryLaws.{first_stays, first_behind}

pub residue_fault : (offset n : ℕ) (f : FieldName) (e : CodeRefusal) (s : Stop) → (e ≢ NoMemory → first_refusal (length_refusals f n) ≡ Some e) → IsMade (Err e) offset (Err s) → Answers (Err s) (AppliesTo offset (qr_code n f))
unfolding refusal_of refusals_of
residue_fault offset n f e (stop.Refused r) h m =
    let first : first_of (from_codes (length_refusals f n)) ≡ Some (refusal_from e) = first_from_codes (length_refusals f n) ∙ ap (option_map refusal_from) (h m.0) in
    applying offset (qr_code n f) (Some (refusal_from e)) (Err (stop.Refused r)) (first_stays (from_codes (length_refusals f n)) _ (refusal_from e) first) m.1
residue_fault offset n f e stop.NoMemory h m = tt

residue_behind : (n : ℕ) (f : FieldName) → first_refusal (length_refusals f n) ≡ None → refusal_of (qr_code n f) ≡ first_of (not_residue_length f n ∷ [])
unfolding refusal_of refusals_of
residue_behind n f h = first_behind (from_codes (length_refusals f n)) _ (first_from_codes (length_refusals f n) ∙ ap (option_map refusal_from) h)

pub residue_none : (offset n : ℕ) (f : FieldName) (o : Option Matrix) (r : Refused) → first_refusal (length_refusals f n) ≡ None → IsSome o ↔ IsTrue (is_residue_length (size f) n) → o ≡ None → refused (refused_of r) ≡ refuse_at 53 offset → AppliesTo offset (qr_code n f) (refused (refused_of r))
unfolding refuse_call refuse refuse_at not_residue_length when first_of
residue_none offset n f (Some C) r h t e m = absurd (true≢false (ap is_some e))
residue_none offset n f None r h t e m =
    let no : is_residue_length (size f) n ≡ false = false_from_ne_true (is_residue_length (size f) n) (λ i. true≢false (sym (t.1 i))) in
    applying offset (qr_code n f) (Some (refuse 53 [])) (Err (stop.Refused r)) (residue_behind n f h ∙ rw no refl) m

pub residue_made : (offset n : ℕ) (f : FieldName) (o : Option Matrix) (C : Matrix) (v : language.Value) → first_refusal (length_refusals f n) ≡ None → IfSome o (λ c. IsCode f n (InResidueCode f n (period f n)) c) → IsSome o ↔ IsTrue (is_residue_length (size f) n) → o ≡ Some C → v ≡ code C None → AppliesTo offset (qr_code n f) (gives v)
unfolding not_residue_length when first_of
residue_made offset n f None C v h is t e m = absurd (true≢false (sym (ap is_some e)))
residue_made offset n f (Some D) C v h is t e m =
    let yes : is_residue_length (size f) n ≡ true = t.0 refl in
    let same : D ≡ C = cc e in
    given_by offset (qr_code n f) v (residue_behind n f h ∙ rw yes refl) (λ n. n) (record { code_is = (D, is, m ∙ ap (λ c. code c None) (sym same)) })
