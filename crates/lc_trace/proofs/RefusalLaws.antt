-- The first refusal of each function.
--   subfield_large, subfield_other, subfield_fine      a field that should be a symbol field in that of a code
use Rattle.std.proofs.Common.{◌≡◌, ◌↔◌, Bool, true, false, Some, None, refl, sym, subst, ◌∙◌, ⊎_elim, true≢false}
use Rattle.std.specs.Prelude.{IsTrue}
use Rattle.std.proofs.lemmas.Bool.{cases_Bool}
use Rattle.lc_algebra.specs.declared.FieldName.{FieldName}
use Rattle.lc_algebra.specs.Field.{is_symbol}
use Rattle.lc_algebra.specs.Embedding.{IsSubfield, is_subfield}
use Rattle.lc_algebra.specs.Matrix.{Matrix}
use Rattle.lc_algebra.proofs.EmbeddingLaws.{decides_subfield}
use Rattle.lc_constructions.specs.declared.refusal.CodeRefusal.TheVariants.{FieldTooLarge, NotASubfield}
use Rattle.lc_constructions.specs.Refusal.{refuse_if, first_refusal}
use Rattle.lc_constructions.specs.Refusals.{too_large, not_subfield}
use Rattle.lc_language.specs.Trace.{subfield_refusals}

decided : (F K : FieldName) (b : Bool) → IsTrue b ↔ IsSubfield F K → is_subfield F K ≡ b
decided F K true h = (decides_subfield F K).1 (h.0 refl)
decided F K false h = ⊎_elim (λ (t : is_subfield F K ≡ true). absurd (true≢false (sym (h.1 ((decides_subfield F K).0 t))))) (λ (t : is_subfield F K ≡ false). t) (cases_Bool (is_subfield F K))

pub subfield_large : (C : Matrix) (F : FieldName) → is_symbol F ≡ false → first_refusal (subfield_refusals C F) ≡ Some FieldTooLarge
unfolding first_refusal refuse_if too_large not_subfield subfield_refusals
subfield_large C F a = rw a refl

pub subfield_other : (C : Matrix) (F K : FieldName) (b : Bool) → is_symbol F ≡ true → K ≡ C.field → IsTrue b ↔ IsSubfield F K → b ≡ false → first_refusal (subfield_refusals C F) ≡ Some NotASubfield
unfolding first_refusal refuse_if too_large not_subfield subfield_refusals
subfield_other C F K b a k h e = let t : is_subfield F C.field ≡ false = subst (λ g. is_subfield F g ≡ false) k (decided F K b h ∙ e) in rw (a, t) refl

pub subfield_fine : (C : Matrix) (F K : FieldName) (b : Bool) → is_symbol F ≡ true → K ≡ C.field → IsTrue b ↔ IsSubfield F K → b ≡ true → first_refusal (subfield_refusals C F) ≡ None
unfolding first_refusal refuse_if too_large not_subfield subfield_refusals
subfield_fine C F K b a k h e = let t : is_subfield F C.field ≡ true = subst (λ g. is_subfield F g ≡ true) k (decided F K b h ∙ e) in rw (a, t) refl

pub ruleset check_subfield_laws = (subfield_large, subfield_other, subfield_fine)
