-- The coset leaders that a script keeps.
--   AgreeBelow i us vs      two lists of rows agree at each index below i
--   codes_are_one           codes over fields of one size, of one length and with the same rows are one
--   few_cosets              a code whose leaders are built hasn't too many cosets
use Rattle.std.proofs.Common.{◌≡◌, ◌↔◌, ℕ, Option, Some, None, Result, Ok, Err, IfOk, refl, ◌<◌, List, [], length, slice_index_or, ap, ◌∙◌}
use Rattle.std.proofs.lemmas.List.{ext_get_or}
use Rattle.lc_algebra.specs.declared.FieldName.{FieldName}
use Rattle.lc_algebra.specs.Field.{size}
use Rattle.lc_algebra.specs.Matrix.{Matrix}
use Rattle.std.specs.Result.{IsErrOf}
use Rattle.lc_algebra.proofs.EmbeddingTests.{told_by_size}
use Rattle.lc_constructions.specs.Coset.{too_many_cosets}
use Rattle.lc_syndrome.specs.declared.refusal.SyndromeRefusal.{SyndromeRefusal}
use Rattle.lc_syndrome.specs.declared.refusal.SyndromeRefusal.TheVariants.{TooManyCosets}

abbrev pub AgreeBelow : ℕ → List (List ℕ) → List (List ℕ) → Type 0
AgreeBelow i us vs = (j : ℕ) → j < i → slice_index_or us j [] ≡ slice_index_or vs j []

matrix : FieldName → ℕ → List (List ℕ) → Matrix
matrix f n rows = record { field = f; columns = n; rows = rows }

pub codes_are_one : (A B : Matrix) → size A.field ≡ size B.field → A.columns ≡ B.columns → length A.rows ≡ length B.rows → AgreeBelow (length A.rows) A.rows B.rows → A ≡ B
unfolding matrix
codes_are_one A B s n k h =
    ap (λ f. matrix f A.columns A.rows) (told_by_size A.field B.field s) ∙ ap (λ m. matrix B.field m A.rows) n ∙ ap (λ rows. matrix B.field B.columns rows) (ext_get_or [] A.rows B.rows k h)

not_many : {L : Type 0} (l : L) (o : Option ℕ) → ((m : ℕ) → IsErrOf {T = L} {E = SyndromeRefusal} (Ok l) (TooManyCosets m) ↔ (o ≡ Some m)) → o ≡ None
not_many l None h = refl
not_many l (Some m) h = absurd (let e = (h m).1 refl in cc)

pub few_cosets : {L : Type 0} (C : Matrix) (r : Result L SyndromeRefusal) → ((m : ℕ) → IsErrOf r (TooManyCosets m) ↔ (too_many_cosets C ≡ Some m)) → IfOk r (λ _. too_many_cosets C ≡ None)
few_cosets C (Ok l) h = not_many l (too_many_cosets C) h
few_cosets C (Err e) h = tt
