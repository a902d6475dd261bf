-- What the calls give is what the definitions say of them.
--   gf_field, gf_refused          fields
--   generator_applies, check_applies      codes by a matrix
use Rattle.std.proofs.Common.{◌≡◌, ◌≢◌, ℕ, true, false, ◌==◌, List, [], ◌∷◌, map, Vec, Global, Some, None, Result, IfOk, refl, ap, subst, ◌∙◌, ⊎_elim}
use Rattle.std.specs.List.{list_any}
use Rattle.std.proofs.lemmas.Bool.{cases_Bool}
use Rattle.std.proofs.lemmas.Bool.Decides.{Decides-eqb}
use Rattle.lc_algebra.specs.declared.FieldName.{FieldName}
use Rattle.lc_algebra.specs.declared.FieldName.TheVariants.{Gf2, Gf3, Gf4, Gf5, Gf7, Gf8, Gf9, Gf11, Gf13, Gf16, Gf25, Gf27, Gf32, Gf64, Gf81, Gf128, Gf243, Gf256}
use Rattle.lc_algebra.specs.Field.{shape, shape_of, size}
use Rattle.lc_algebra.specs.Matrix.{Matrix}
use Rattle.lc_constructions.specs.Code.{IsCode, CheckedBy}
use Rattle.lc_constructions.specs.Basic.{GeneratedBy}
use Rattle.lc_constructions.specs.declared.refusal.CodeRefusal.{CodeRefusal}
use Rattle.lc_constructions.specs.Refusal.{first_refusal, IsRefusedAs}
use Rattle.lc_constructions.specs.Refusals.{columns_of, matrix_refusals}
use Rattle.lc_constructions.specs.Cyclic.{all_fields}
use Rattle.lc_language.specs.Calls.{BoundCall, gf, generator_mat_code, check_mat_code, refusals_of, refusal_of, Gives, IsNotDivisor}
use Rattle.lc_language.specs.Value.{field, code}
use Rattle.lc_language.specs.Refusal.{refuse, when, first_of, from_codes}
use Rattle.lc_language.specs.Evaluation.{gives, refused, refuse_at, refuse_call, AppliesTo}
use Rattle.lc_calls.specs.declared.values.Value.{Value}
use Rattle.lc_calls.specs.declared.refusals.Refused.{Refused}
use Rattle.lc_calls.specs.declared.refusals.Stop.{Stop}
use Rattle.lc_calls.specs.Value.{rows_of, refused_of}
use Rattle.lc_calls.specs.Applied.{Answers}
use Rattle.lc_calls.specs.Made.{IsMade, plain_value}
use Rattle.lc_eval.specs.Rows.{clamped, clamped_rows}
use Rattle.lc_eval.proofs.AnswerLaws.{applied, given_by}
use Rattle.lc_eval.proofs.RowLaws.{clamped_each, columns_same, clamped_refusals, fine_same}

-- ---- fields

listed : (f : FieldName) → list_any (λ g. size g == size f) all_fields ≡ true
unfolding shape shape_of size all_fields
listed Gf2 = refl
listed Gf3 = refl
listed Gf4 = refl
listed Gf5 = refl
listed Gf7 = refl
listed Gf8 = refl
listed Gf9 = refl
listed Gf11 = refl
listed Gf13 = refl
listed Gf16 = refl
listed Gf25 = refl
listed Gf27 = refl
listed Gf32 = refl
listed Gf64 = refl
listed Gf81 = refl
listed Gf128 = refl
listed Gf243 = refl
listed Gf256 = refl

unlisted : (q : ℕ) (fs : List FieldName) → ((f : FieldName) → size f ≢ q) → list_any (λ f. size f == q) fs ≡ false
unlisted q [] h = refl
unlisted q (f ∷ fs) h =
    ⊎_elim
    (λ (t : (size f == q) ≡ true). absurd (h f ((Decides-eqb (size f) q).0 t)))
    (λ (t : (size f == q) ≡ false). rw t (unlisted q fs h))
    (cases_Bool (size f == q))

gf_fine : (q : ℕ) (f : FieldName) → size f ≡ q → refusal_of (gf q) ≡ None
unfolding refusal_of refusals_of first_of when
gf_fine q f e = rw (← e) (rw (listed f) refl)

pub gf_field : (offset q : ℕ) (f : FieldName) → size f ≡ q → AppliesTo offset (gf q) (gives (field f))
gf_field offset q f s = given_by offset (gf q) (field f) (gf_fine q f s) (λ n. n) (f, s, refl)

gf_none : (q : ℕ) → ((f : FieldName) → size f ≢ q) → refusal_of (gf q) ≡ Some (refuse 1 [])
unfolding refusal_of refusals_of first_of when
gf_none q h = rw (unlisted q all_fields h) refl

pub gf_refused : (offset q : ℕ) (r : Refused) → ((f : FieldName) → size f ≢ q) → refused (refused_of r) ≡ refuse_at 1 offset → AppliesTo offset (gf q) (refused (refused_of r))
unfolding refuse_call refuse refuse_at
gf_refused offset q r h e = rw (gf_none q h) e

-- ---- codes by a matrix

record IsSame (f : FieldName) (given words : List (List ℕ)) (made : Result Matrix CodeRefusal) : Type 0 where
  refused : IsRefusedAs made (first_refusal (matrix_refusals f given))
  long : columns_of words ≡ columns_of given
  same : first_refusal (matrix_refusals f given) ≡ None → words ≡ given

same_rows : (f : FieldName) (rows : List (Vec ℕ Global)) (words : List (List ℕ)) (made : Result Matrix CodeRefusal) → words ≡ map (λ row. clamped row.items) rows → IsRefusedAs made (first_refusal (matrix_refusals f words)) → IsSame f (rows_of rows) words made
same_rows f rows words made w h =
    let given : List (List ℕ) = rows_of rows in
    let c : words ≡ clamped_rows given = w ∙ clamped_each rows in
    record {
      refused = subst (λ r. IsRefusedAs made r) (clamped_refusals f given) (subst (λ u. IsRefusedAs made (first_refusal (matrix_refusals f u))) c h);
      long = ap columns_of c ∙ columns_same given;
      same = λ o. c ∙ fine_same f given (clamped_refusals f given ∙ o);
    }

matrix_applies : (offset : ℕ) (b : BoundCall) (f : FieldName) (P : List (List ℕ) → ℕ → List ℕ → Type 0) (rows : List (Vec ℕ Global)) (words : List (List ℕ)) (made : Result Matrix CodeRefusal) (result : Result Value Stop)
    → refusals_of b ≡ from_codes (matrix_refusals f (rows_of rows)) → ¬ IsNotDivisor b
    → ((C : Matrix) → IsCode f (columns_of (rows_of rows)) (P (rows_of rows) (columns_of (rows_of rows))) C → Gives b (code C None))
    → words ≡ map (λ row. clamped row.items) rows
    → IfOk made (λ C. IsCode f (columns_of words) (P words (columns_of words)) C)
    → IsRefusedAs made (first_refusal (matrix_refusals f words)) → IsMade made offset result → Answers result (AppliesTo offset b)
matrix_applies offset b f P rows words made result e fine g w c h s =
    let t = same_rows f rows words made w h in
    applied offset b (matrix_refusals f (rows_of rows)) plain_value made result e fine
    (λ C m o.
    let x : IsCode f (columns_of words) (P words (columns_of words)) C = rw m at c in
    let y : IsCode f (columns_of (rows_of rows)) (P words (columns_of (rows_of rows))) C = subst (λ n. IsCode f n (P words n) C) t.long x in
    g C (subst (λ u. IsCode f (columns_of (rows_of rows)) (P u (columns_of (rows_of rows))) C) (t.same o) y))
    t.refused s

pub generator_applies : (offset : ℕ) (rows : List (Vec ℕ Global)) (f : FieldName) (words : List (List ℕ)) (made : Result Matrix CodeRefusal) (result : Result Value Stop)
    → words ≡ map (λ row. clamped row.items) rows → IfOk made (λ C. IsCode f (columns_of words) (GeneratedBy f (columns_of words) words) C)
    → IsRefusedAs made (first_refusal (matrix_refusals f words)) → IsMade made offset result → Answers result (AppliesTo offset (generator_mat_code (rows_of rows) f))
unfolding refusals_of
generator_applies offset rows f words made result w c h s = matrix_applies offset (generator_mat_code (rows_of rows) f) f (λ u n. GeneratedBy f n u) rows words made result refl (λ n. n) (λ C is. record { code_is = (C, is, refl) }) w c h s

pub check_applies : (offset : ℕ) (rows : List (Vec ℕ Global)) (f : FieldName) (words : List (List ℕ)) (made : Result Matrix CodeRefusal) (result : Result Value Stop)
    → words ≡ map (λ row. clamped row.items) rows → IfOk made (λ C. IsCode f (columns_of words) (CheckedBy f words) C)
    → IsRefusedAs made (first_refusal (matrix_refusals f words)) → IsMade made offset result → Answers result (AppliesTo offset (check_mat_code (rows_of rows) f))
unfolding refusals_of
check_applies offset rows f words made result w c h s = matrix_applies offset (check_mat_code (rows_of rows) f) f (λ u n. CheckedBy f u) rows words made result refl (λ n. n) (λ C is. record { code_is = (C, is, refl) }) w c h s
