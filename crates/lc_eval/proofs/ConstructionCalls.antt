-- Codes by circulant matrices, and those of construction X, are what the definitions say.
--   circulant_applies, quasi_applies      codes by circulant matrices
--   x_made, x_outside, x_refused          codes of construction X
use Rattle.std.proofs.Common.{◌≡◌, ℕ, ◌+◌, ◌*◌, ◌==◌, true, false, List, [], length, map, Vec, Global, Some, None, Result, Ok, Err, MatchResult, IfOk, refl, sym, ap, subst, ◌∙◌, ⊎_elim}
use Rattle.std.specs.List.{list_all}
use Rattle.std.proofs.lemmas.List.{length-map}
use Rattle.std.proofs.lemmas.Bool.{cases_Bool}
use Rattle.lc_algebra.specs.declared.FieldName.{FieldName}
use Rattle.lc_algebra.specs.Field.{size, is_symbol}
use Rattle.lc_algebra.specs.Matrix.{Matrix}
use Rattle.lc_constructions.specs.Code.{is_length, IsCode}
use Rattle.lc_constructions.specs.Basic.{GeneratedBy}
use Rattle.lc_constructions.specs.declared.refusal.CodeRefusal.{CodeRefusal}
use Rattle.lc_constructions.specs.declared.refusal.CodeRefusal.TheVariants.{BadLength, LengthsDiffer, BadArgument, FieldTooLarge, NoMemory}
use Rattle.lc_constructions.specs.Refusal.{refuse_if, first_refusal, IsRefusedAs}
use Rattle.lc_constructions.specs.Refusals.{are_elements, have_elements, too_large, bad_length, bad_argument}
use Rattle.lc_language.specs.Calls.{circulant_code, quasi_cyclic_code, construction_x_code, refusals_of, refusal_of}
use Rattle.lc_language.specs.Value.{Value as Value_, code}
use Rattle.lc_language.specs.Refusal.{refuse, first_of}
use Rattle.lc_language.specs.Evaluation.{gives, refused, refuse_at, refuse_call, AppliesTo}
use Rattle.lc_language.specs.Circulant.{circulant, circulants, circulant_refusals, quasi_cyclic_refusals}
use Rattle.lc_language.specs.ConstructionX.{InConstructionX, construction_x_refusals}
use Rattle.lc_formats.proofs.CertificateBack.{symbol_size}
use Rattle.lc_extend.specs.Told.{told, IsRefusedWith}
use Rattle.lc_extend.specs.declared.refusal.ExtensionRefusal.{ExtensionRefusal}
use Rattle.lc_extend.specs.declared.refusal.ExtensionRefusal.TheVariants.{Codes, NotASubcode}
use Rattle.lc_calls.specs.declared.values.Value.{Value}
use Rattle.lc_calls.specs.declared.refusals.Refused.{Refused}
use Rattle.lc_calls.specs.declared.refusals.Stop.{Stop}
use Rattle.lc_calls.specs.declared.refusals.Stop.TheVariants as stop
use Rattle.lc_calls.specs.Value.{rows_of, refused_of}
use Rattle.lc_calls.specs.Applied.{Answers}
use Rattle.lc_calls.specs.Made.{IsMade, plain_value}
use Rattle.lc_eval.specs.Rows.{clamped, clamped_rows}
use Rattle.lc_eval.proofs.AnswerLaws.{applying, applied, given_by, refused_by}
use Rattle.lc_eval.proofs.RowLaws.{clamped_each, elements_same, none_here, lengths_same, entries_same, rows_kept}
use Rattle.lc_eval.proofs.RelationLaws.{elements_kept, long_same}

-- ---- one word

circulant_large : (f : FieldName) (x u : List ℕ) (n : ℕ) → is_symbol f ≡ false → first_refusal (circulant_refusals f u n) ≡ first_refusal (circulant_refusals f x n)
unfolding first_refusal refuse_if too_large circulant_refusals
circulant_large f x u n h = rw h refl

circulant_small : (f : FieldName) (x : List ℕ) (n : ℕ) → is_symbol f ≡ true → first_refusal (circulant_refusals f (clamped x) n) ≡ first_refusal (circulant_refusals f x n)
unfolding circulant_refusals
circulant_small f x n h = rw (long_same x, elements_same f x (symbol_size f h)) refl

circulant_same : (f : FieldName) (x : List ℕ) (n : ℕ) → first_refusal (circulant_refusals f (clamped x) n) ≡ first_refusal (circulant_refusals f x n)
circulant_same f x n = ⊎_elim (λ t. circulant_small f x n t) (λ t. circulant_large f x (clamped x) n t) (cases_Bool (is_symbol f))

circulant_kept : (f : FieldName) (x : List ℕ) (n : ℕ) → first_refusal (circulant_refusals f x n) ≡ None → clamped x ≡ x
unfolding circulant_refusals too_large bad_length bad_argument
circulant_kept f x n h =
    let a = none_here (is_symbol f) FieldTooLarge _ h in
    let b = none_here (is_length n) BadLength _ a.1 in
    let c = none_here (length x == n) LengthsDiffer _ b.1 in
    let d = none_here (are_elements f x) (BadArgument 1) _ c.1 in
    elements_kept f x (symbol_size f a.0) d.0

pub circulant_applies : (offset : ℕ) (x : List ℕ) (n : ℕ) (f : FieldName) (u : List ℕ) (made : Result Matrix CodeRefusal) (result : Result Value Stop)
    → u ≡ clamped x → IfOk made (λ C. IsCode f n (GeneratedBy f n (circulant n u)) C)
    → IsRefusedAs made (first_refusal (circulant_refusals f u n)) → IsMade made offset result → Answers result (AppliesTo offset (circulant_code x n f))
unfolding refusals_of
circulant_applies offset x n f u made result a c h s =
    let refused : IsRefusedAs made (first_refusal (circulant_refusals f x n)) = subst (IsRefusedAs made) (ap (λ (p : List ℕ). first_refusal (circulant_refusals f p n)) a ∙ circulant_same f x n) h in
    applied offset (circulant_code x n f) (circulant_refusals f x n) plain_value made result refl (λ n. n)
    (λ C m o.
    let is : IsCode f n (GeneratedBy f n (circulant n u)) C = rw m at c in
    record { code_is = (C, subst (λ (p : List ℕ). IsCode f n (GeneratedBy f n (circulant n p)) C) (a ∙ circulant_kept f x n o) is, refl) })
    refused s

-- ---- some words

quasi_large : (f : FieldName) (xs us : List (List ℕ)) (n : ℕ) → is_symbol f ≡ false → first_refusal (quasi_cyclic_refusals f us n) ≡ first_refusal (quasi_cyclic_refusals f xs n)
unfolding first_refusal refuse_if too_large quasi_cyclic_refusals
quasi_large f xs us n h = rw h refl

count_same : (xs : List (List ℕ)) → length (clamped_rows xs) ≡ length xs
count_same xs = length-map xs clamped

quasi_small : (f : FieldName) (xs : List (List ℕ)) (n : ℕ) → is_symbol f ≡ true → first_refusal (quasi_cyclic_refusals f (clamped_rows xs) n) ≡ first_refusal (quasi_cyclic_refusals f xs n)
unfolding quasi_cyclic_refusals
quasi_small f xs n h = rw (count_same xs, lengths_same n xs, entries_same f xs (symbol_size f h)) refl

quasi_same : (f : FieldName) (xs : List (List ℕ)) (n : ℕ) → first_refusal (quasi_cyclic_refusals f (clamped_rows xs) n) ≡ first_refusal (quasi_cyclic_refusals f xs n)
quasi_same f xs n = ⊎_elim (λ t. quasi_small f xs n t) (λ t. quasi_large f xs (clamped_rows xs) n t) (cases_Bool (is_symbol f))

quasi_kept : (f : FieldName) (xs : List (List ℕ)) (n : ℕ) → first_refusal (quasi_cyclic_refusals f xs n) ≡ None → clamped_rows xs ≡ xs
unfolding quasi_cyclic_refusals too_large bad_length bad_argument
quasi_kept f xs n h =
    let a = none_here (is_symbol f) FieldTooLarge _ h in
    let b = none_here (is_length (length xs * n)) BadLength _ a.1 in
    let c = none_here (list_all (λ x. length x == n) xs) LengthsDiffer _ b.1 in
    let d = none_here (have_elements f xs) (BadArgument 1) _ c.1 in
    let l = symbol_size f a.0 in
    rows_kept f xs l (entries_same f xs l ∙ d.0)

pub quasi_applies : (offset : ℕ) (xs : List (Vec ℕ Global)) (n : ℕ) (f : FieldName) (words : List (List ℕ)) (made : Result Matrix CodeRefusal) (result : Result Value Stop)
    → words ≡ map (λ row. clamped row.items) xs → IfOk made (λ C. IsCode f (length words * n) (GeneratedBy f (length words * n) (circulants n words)) C)
    → IsRefusedAs made (first_refusal (quasi_cyclic_refusals f words n)) → IsMade made offset result → Answers result (AppliesTo offset (quasi_cyclic_code (rows_of xs) n f))
unfolding refusals_of
quasi_applies offset xs n f words made result w c h s =
    let given : List (List ℕ) = rows_of xs in
    let a : words ≡ clamped_rows given = w ∙ clamped_each xs in
    let refused : IsRefusedAs made (first_refusal (quasi_cyclic_refusals f given n)) = subst (IsRefusedAs made) (ap (λ (p : List (List ℕ)). first_refusal (quasi_cyclic_refusals f p n)) a ∙ quasi_same f given n) h in
    applied offset (quasi_cyclic_code given n f) (quasi_cyclic_refusals f given n) plain_value made result refl (λ n. n)
    (λ C m o.
    let is : IsCode f (length words * n) (GeneratedBy f (length words * n) (circulants n words)) C = rw m at c in
    record { code_is = (C, subst (λ (p : List (List ℕ)). IsCode f (length p * n) (GeneratedBy f (length p * n) (circulants n p)) C) (a ∙ quasi_kept f given n o) is, refl) })
    refused s

-- ---- construction X

pub x_made : (offset : ℕ) (C D E X : Matrix) (v : Value_) → IsCode C.field (C.columns + E.columns) (InConstructionX C D E) X → first_of (construction_x_refusals C D E) ≡ None → v ≡ code X None → AppliesTo offset (construction_x_code C D E) (gives v)
unfolding refusal_of refusals_of
x_made offset C D E X v is fine e = given_by offset (construction_x_code C D E) v fine (λ n. n) (record { code_is = (X, is, e) })

pub x_outside : (offset : ℕ) (C D E : Matrix) (r : Refused) (made : Result Matrix ExtensionRefusal) → made ≡ Err NotASubcode
    → IsRefusedWith made (first_of (construction_x_refusals C D E)) → refused (refused_of r) ≡ refuse_at 51 offset → AppliesTo offset (construction_x_code C D E) (refused (refused_of r))
unfolding refusal_of refusals_of told refuse refuse_at refuse_call
x_outside offset C D E r made m h e =
    let answer : Result Matrix ExtensionRefusal = Err NotASubcode in
    let outside : IsRefusedWith answer (first_of (construction_x_refusals C D E)) = rw m at h in
    applying offset (construction_x_code C D E) (Some (refuse 51 [])) (Err (stop.Refused r)) (outside (λ t. cc t)) e

pub x_refused : (offset : ℕ) (C D E : Matrix) (e : CodeRefusal) (s : Stop) (made : Result Matrix ExtensionRefusal) → made ≡ Err (Codes e)
    → IsRefusedWith made (first_of (construction_x_refusals C D E)) → IsMade (Err e) offset (Err s) → Answers (Err s) (AppliesTo offset (construction_x_code C D E))
unfolding refusal_of refusals_of told
x_refused offset C D E e (stop.Refused r) made m h k =
    let answer : Result Matrix ExtensionRefusal = Err (Codes e) in
    let failed : IsRefusedWith answer (first_of (construction_x_refusals C D E)) = rw m at h in
    refused_by offset (construction_x_code C D E) e (stop.Refused r) (failed (λ t. k.0 (cc t))) k
x_refused offset C D E e stop.NoMemory made m h k = tt

pub ruleset construction_x_laws = (x_outside, x_refused)
