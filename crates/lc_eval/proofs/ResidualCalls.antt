-- A residual code, as a call, is what the definitions say.
--   residue_fault          the refusal of the list as a word of the code's length
--   residue_behind         without one, the first refusal is whether it is in the code, and then whether a coordinate is left
--   residue_outside        it isn't in the code
--   residue_applies        the code, or the refusal that no coordinate is left
use Rattle.std.proofs.Common.{◌≡◌, ℕ, ◌-◌, ◌↔◌, not, true, false, List, [], ◌∷◌, Some, None, option_map, Result, Err, IfOk, Bool, refl, sym, ap, subst, ◌∙◌, IsTrue, true≢false}
use Rattle.lc_algebra.specs.Word.{weight}
use Rattle.lc_algebra.specs.Matrix.{Matrix}
use Rattle.lc_constructions.specs.Code.{InCode, IsCode}
use Rattle.lc_constructions.specs.declared.refusal.CodeRefusal.{CodeRefusal}
use Rattle.lc_constructions.specs.Refusal.{first_refusal, IsRefusedAs}
use Rattle.lc_enumeration.specs.InformationSet.{in_span}
use Rattle.lc_enumeration.proofs.MemberLaws.{true_in_span}
use Rattle.lc_language.specs.Calls.{residue_code, refusals_of, refusal_of}
use Rattle.lc_language.specs.Refusal.{refuse, refusal_from, when, first_of, from_codes, word_refusals}
use Rattle.lc_language.specs.Evaluation.{refused, refuse_at, refuse_call, AppliesTo}
use Rattle.lc_language.specs.Relations.{not_codeword}
use Rattle.lc_language.specs.Residual.{InResidual, no_coordinate, residual_refusals}
use Rattle.lc_language.proofs.RefusalLaws.{first_from_codes, first_stays, first_behind}
use Rattle.lc_calls.specs.declared.values.Value.{Value}
use Rattle.lc_calls.specs.declared.refusals.Refused.{Refused}
use Rattle.lc_calls.specs.declared.refusals.Stop.{Stop}
use Rattle.lc_calls.specs.declared.refusals.Stop.TheVariants as stop
use Rattle.lc_calls.specs.Value.{refused_of}
use Rattle.lc_calls.specs.Applied.{Answers}
use Rattle.lc_calls.specs.Made.{IsMade, plain_value}
use Rattle.lc_eval.specs.Checked.{IsRight, IsChecked}
use Rattle.lc_eval.proofs.AnswerLaws.{applying, applied_as}
use Rattle.lc_eval.proofs.RelationLaws.{left_out}

pub residue_fault : (offset : ℕ) (C : Matrix) (x : List ℕ) (s : Stop) → IsChecked C x offset (Err s) → Answers (Err s) (AppliesTo offset (residue_code C x))
unfolding refusal_of refusals_of residual_refusals
residue_fault offset C x (stop.Refused r) (e, h, m) = applying offset (residue_code C x) (Some e) (Err (stop.Refused r)) (first_stays (from_codes (word_refusals C x)) _ e h) m
residue_fault offset C x stop.NoMemory h = tt

residue_behind : (C : Matrix) (x : List ℕ) (b : Bool) → first_of (from_codes (word_refusals C x)) ≡ None → in_span C.field C.columns C.rows x ≡ b → refusal_of (residue_code C x) ≡ first_of (when (not b) (refuse 50 []) ∷ from_codes (no_coordinate C x))
unfolding refusal_of refusals_of residual_refusals not_codeword
residue_behind C x b h e = first_behind (from_codes (word_refusals C x)) _ h ∙ ap (λ t. first_of (when (not t) (refuse 50 []) ∷ from_codes (no_coordinate C x))) e

pub residue_outside : (offset : ℕ) (C : Matrix) (x w : List ℕ) (b : Bool) (r : Refused) → IsRight C x w → IsTrue b ↔ InCode C w → b ≡ false → refused (refused_of r) ≡ refuse_at 50 offset → AppliesTo offset (residue_code C x) (refused (refused_of r))
unfolding refuse_call refuse refuse_at when first_of
residue_outside offset C x w true r h t e m = cc
residue_outside offset C x w false r h t e m =
    applying offset (residue_code C x) (Some (refuse 50 [])) (Err (stop.Refused r)) (residue_behind C x false h.unrefused (left_out C x w h (λ i. true≢false (sym (t.1 i))))) m

pub residue_applies : (offset : ℕ) (C : Matrix) (x w : List ℕ) (made : Result Matrix CodeRefusal) (result : Result Value Stop) → IsRight C x w → InCode C w → IfOk made (λ R. IsCode C.field (C.columns - weight w) (InResidual C w) R) → IsRefusedAs made (first_refusal (no_coordinate C w)) → IsMade made offset result → Answers result (AppliesTo offset (residue_code C x))
unfolding when first_of
residue_applies offset C x w made result h i c r s =
    let inside : in_span C.field C.columns C.rows x ≡ true = true_in_span C.field C.columns C.rows x (subst (InCode C) h.same i) in
    let known : refusal_of (residue_code C x) ≡ option_map refusal_from (first_refusal (no_coordinate C w)) =
    residue_behind C x true h.unrefused inside ∙ first_from_codes (no_coordinate C x) ∙ ap (λ (u : List ℕ). option_map refusal_from (first_refusal (no_coordinate C u))) (sym h.same) in
    applied_as offset (residue_code C x) (first_refusal (no_coordinate C w)) plain_value made result known (λ n. n)
    (λ R m o.
    let is : IsCode C.field (C.columns - weight w) (InResidual C w) R = rw m at c in
    record { code_is = (R, subst (λ (u : List ℕ). IsCode C.field (C.columns - weight u) (InResidual C u) R) h.same is, refl) })
    r s
