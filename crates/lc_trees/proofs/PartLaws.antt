-- What comes of a claim and of its parts, and the facts on fields and refusals that its kinds rest on.
--   IsOwn refusal f n P b C c     a claim that isn't refused after its parts gives the code of the words that meet P, with its bound
--   own_code, part_code           a code that comes of a claim is its own, and comes of the code of its part
--   none_numbered                 a refusal that has no number is none
--   field_found, outer_field      the field of a size is the one of that size
--   accepted_search               a search that isn't refused is accepted
--   same_fields, same_lengths     parts of which none is refused are over one field, and of one length
--   form_told                     an alternant claim that isn't refused has a form
--   rows_inside                   the rows of a subcode that isn't refused are words of the code
--   subcode_bound                 words of a code are no lighter than its other words
use Rattle.std.proofs.Common.{◌≡◌, ℕ, Bool, true, false, not, nat_lt, ◌==◌, if◌then◌else◌, List, ◌∷◌, length, slice_index_or, All, Option, Some, None, option_map, unwrap_or, refl, sym, ap, subst, ◌∙◌}
use Rattle.std.specs.List.{list_all}
use Rattle.std.proofs.lemmas.Bool.{eqb-true}
use Rattle.std.proofs.lemmas.List.Sums.{AllPass-from_list_all}
use Rattle.std.proofs.lemmas.Option.{none-some}
use Rattle.lc_algebra.specs.declared.FieldName.{FieldName}
use Rattle.lc_algebra.specs.declared.FieldName.TheVariants.{Gf2, Gf3, Gf4, Gf5, Gf7, Gf8, Gf9, Gf11, Gf13, Gf16, Gf25, Gf27, Gf32, Gf64, Gf81, Gf128, Gf243, Gf256}
use Rattle.lc_algebra.specs.Field.{shape, shape_of, size}
use Rattle.lc_algebra.specs.Span.{InSpan, IsWeightBound}
use Rattle.lc_algebra.specs.Matrix.{Matrix, AreRows}
use Rattle.lc_algebra.proofs.EmbeddingLaws.{told_by_size}
use Rattle.lc_algebra.proofs.SpanLaws.{span_within}
use Rattle.lc_constructions.specs.declared.refusal.CodeRefusal.{CodeRefusal}
use Rattle.lc_constructions.specs.Code.{InCode, IsCode}
use Rattle.lc_constructions.specs.Alternant.{IsForm}
use Rattle.lc_constructions.specs.Cyclic.{all_fields}
use Rattle.lc_constructions.specs.Refusal.{refusal_number, first_refusal}
use Rattle.lc_constructions.specs.Refusals.{fields_differ, lengths_differ, form_refusals}
use Rattle.lc_constructions.proofs.WithoutLaws.{not_not}
use Rattle.lc_enumeration.proofs.MemberLaws.{in_span_true}
use Rattle.lc_formats.specs.Certificate.{Verdict, accepted, rejected, reason_number}
use Rattle.lc_formats.specs.ClaimMeaning.{capped, Outcome, code_with, refused_at, HasOwn, Follows, refusal_of_verdict, first_number, field_of_size, form_refusal_in, form_refusal, form_of, in_code, subcode_refusal}
use Rattle.lc_combine.proofs.ChangedBounds.{bound_of_word}
use Rattle.lc_goppa.proofs.FormLaws.{none_before, passes, form_from_refusals}

pub record IsOwn (refusal : Option ℕ) (f : FieldName) (n : ℕ) (P : List ℕ → Type 0) (b : ℕ) (C : Matrix) (c : ℕ) : Type 0 where
  pub fine : refusal ≡ None
  pub code : IsCode f n P C
  pub bound : c ≡ capped b

pub own_code : (number : ℕ) (refusal : Option ℕ) (f : FieldName) (n : ℕ) (P : List ℕ → Type 0) (b : ℕ) (C : Matrix) (c : ℕ) → HasOwn number refusal f n P b (code_with C c) → IsOwn refusal f n P b C c
own_code number None f n P b C c (D, k, e) =
    let same : C ≡ D = cc e in
    record { fine = refl; code = subst (IsCode f n P) (sym same) k; bound = cc e }
own_code number (Some r) f n P b C c e = absurd (cc e)

pub part_code : (part : Outcome) (next : Matrix → ℕ → Outcome → Type 0) (C : Matrix) (c : ℕ) → Follows part next (code_with C c) → (D : Matrix) × ((a : ℕ) × (part ≡ code_with D a) × next D a (code_with C c))
part_code (code_with D a) next C c h = (D, (a, refl, h))
part_code (refused_at number refusal) next C c h = absurd (cc h)

pub none_numbered : (rs : List (Option CodeRefusal)) → first_number rs ≡ None → first_refusal rs ≡ None
unfolding first_number
none_numbered rs e = none (first_refusal rs) e
  where
    none : (o : Option CodeRefusal) → option_map refusal_number o ≡ None → o ≡ None
    none None e = refl
    none (Some r) e = absurd (none-some (refusal_number r) (sym e))

pub field_found : (K : FieldName) → field_of_size (size K) ≡ Some K
unfolding field_of_size all_fields size shape shape_of
field_found Gf2 = refl
field_found Gf3 = refl
field_found Gf4 = refl
field_found Gf5 = refl
field_found Gf7 = refl
field_found Gf8 = refl
field_found Gf9 = refl
field_found Gf11 = refl
field_found Gf13 = refl
field_found Gf16 = refl
field_found Gf25 = refl
field_found Gf27 = refl
field_found Gf32 = refl
field_found Gf64 = refl
field_found Gf81 = refl
field_found Gf128 = refl
field_found Gf243 = refl
field_found Gf256 = refl

pub outer_field : (f K : FieldName) (large : ℕ) → size K ≡ large → unwrap_or (field_of_size large) f ≡ K
outer_field f K large e = ap (λ q. unwrap_or (field_of_size q) f) (sym e) ∙ ap (λ o. unwrap_or o f) (field_found K)

pub accepted_search : (v : Verdict) → refusal_of_verdict v ≡ None → v ≡ accepted
unfolding refusal_of_verdict
accepted_search accepted e = refl
accepted_search (rejected r) e = absurd (none-some (reason_number r) (sym e))

pub same_fields : (C D : Matrix) (rs : List (Option CodeRefusal)) → first_refusal (fields_differ C D ∷ rs) ≡ None → C.field ≡ D.field
unfolding fields_differ
same_fields C D rs e = told_by_size C.field D.field (eqb-true (size C.field) (size D.field) (not_not (size C.field == size D.field) (passes _ _ (none_before _ rs e).0)))

pub same_lengths : (C D : Matrix) (rs : List (Option CodeRefusal)) → first_refusal (fields_differ C D ∷ lengths_differ C D ∷ rs) ≡ None → C.columns ≡ D.columns
unfolding lengths_differ
same_lengths C D rs e = eqb-true C.columns D.columns (not_not (C.columns == D.columns) (passes _ _ (none_before _ rs (none_before _ _ e).1).0))

form_in : (f : FieldName) (o : Option FieldName) (points multipliers : List ℕ) (r : ℕ) → form_refusal_in f o points multipliers r ≡ None → IsForm f (record { locator = unwrap_or o f; points = points; multipliers = multipliers; r = r })
unfolding form_refusal_in
form_in f None points multipliers r e = absurd (none-some 1 (sym e))
form_in f (Some K) points multipliers r e = form_from_refusals f K (nat_lt (length points) r) points multipliers r (none_numbered (form_refusals f K (nat_lt (length points) r) points multipliers) e)

pub form_told : (f : FieldName) (locator : ℕ) (points multipliers : List ℕ) (r : ℕ) → form_refusal f locator points multipliers r ≡ None → IsForm f (form_of f locator points multipliers r)
unfolding form_refusal form_of
form_told f locator points multipliers r e = form_in f (field_of_size locator) points multipliers r e

chosen_none : (b : Bool) (n : ℕ) (later : Option ℕ) → (if not b then Some n else later) ≡ None → (b ≡ true) × (later ≡ None)
chosen_none true n later e = (refl, e)
chosen_none false n later e = absurd (none-some n (sym e))

pub rows_inside : (C : Matrix) (rows : List (List ℕ)) → subcode_refusal C rows ≡ None → All (InCode C) rows
unfolding subcode_refusal in_code
rows_inside C rows e =
    let long = chosen_none (list_all (λ row. length row == C.columns) rows) 12 _ e in
    let inside = chosen_none (list_all (in_code C) rows) 33 None long.1 in
    λ k d l. in_span_true C.field C.columns C.rows (slice_index_or rows k d) (AllPass-from_list_all (in_code C) rows inside.0 k d l)

pub subcode_bound : (C E : Matrix) (rows : List (List ℕ)) (d : ℕ) → AreRows C.field C.columns C.rows → All (InCode C) rows → IsCode C.field C.columns (InSpan C.field C.columns rows) E → IsWeightBound C.field C.columns C.rows d → IsWeightBound E.field E.columns E.rows d
subcode_bound C E rows d r inside c heavy =
    bound_of_word E C.field C.columns d (InSpan C.field C.columns rows) c (λ w word t l. heavy w (span_within C.field C.columns rows C.rows w r inside t) l)
