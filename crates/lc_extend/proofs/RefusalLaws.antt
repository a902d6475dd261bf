-- The first refusal of construction X.
--   alike_fields, alike_tails, alike_lengths, alike_fine      of codes that are not alike
--   tail_dimension, tail_long, tail_fine                      of codes for the tails
--   refused_alike, refused_subcode, refused_tail, refused_nothing      the first refusal of all
--   first_alike, first_none          the refusal that comes before any memory is taken
--   subcode_told                     a code lies in another one exactly if its rows do
use Rattle.std.proofs.Common.{◌≡◌, ◌≢◌, ◌+◌, ◌-◌, ◌<◌, ◌≤◌, ◌↔◌, Bool, true, false, not, IsTrue, Option, Some, None, is_none, [], ◌∷◌, length, option_map, slice_index_or, Result, Err, refl, sym, ap, ◌∙◌, true≢false}
use Rattle.std.specs.List.{list_all}
use Rattle.std.proofs.lemmas.Bool.{eq-eqb, ne_eqb}
use Rattle.std.proofs.lemmas.List.Sums.{AllPass-from_list_all, list_all-from_AllPass}
use Rattle.lc_algebra.specs.Field.{size}
use Rattle.lc_algebra.specs.Matrix.{Matrix, AreRows}
use Rattle.lc_algebra.proofs.SpanLaws.{span_row, span_within}
use Rattle.lc_constructions.specs.declared.refusal.CodeRefusal.{CodeRefusal}
use Rattle.lc_constructions.specs.declared.refusal.CodeRefusal.TheVariants.{BadLength, FieldsDiffer, LengthsDiffer, InnerDimension}
use Rattle.lc_constructions.specs.Refusal.{refuse_if, first_refusal}
use Rattle.lc_constructions.specs.Refusals.{fields_differ, lengths_differ, bad_length}
use Rattle.lc_constructions.proofs.RefusalLaws.{decided, long_length, short_length}
use Rattle.lc_enumeration.specs.InformationSet.{in_span}
use Rattle.lc_enumeration.proofs.MemberLaws.{in_span_true, true_in_span}
use Rattle.lc_language.specs.Refusal.{refuse, refusal_from, when, first_of, from_codes}
use Rattle.lc_language.specs.Relations.{IsSubcode}
use Rattle.lc_language.specs.ConstructionX.{has_subcode, not_subcode, unlike_codes, unfit_tail, construction_x_refusals}
use Rattle.lc_language.proofs.RefusalLaws.{first_from_codes, first_stays, first_behind}
use Rattle.lc_relations.proofs.UnionLaws.{shared, shared_rows}
use Rattle.lc_extend.specs.Told.{told, IsRefusedFirst}
use Rattle.lc_extend.specs.declared.refusal.ExtensionRefusal.{ExtensionRefusal}
use Rattle.lc_extend.specs.declared.refusal.ExtensionRefusal.TheVariants.{Codes, NotASubcode}

-- ---- codes that are not alike

pub alike_fields : (C D E : Matrix) → size C.field ≢ size D.field → first_refusal (unlike_codes C D E) ≡ Some FieldsDiffer
unfolding first_refusal refuse_if fields_differ lengths_differ unlike_codes
alike_fields C D E a = rw (ne_eqb (size C.field) (size D.field) a) refl

pub alike_tails : (C D E : Matrix) → size C.field ≡ size D.field → size C.field ≢ size E.field → first_refusal (unlike_codes C D E) ≡ Some FieldsDiffer
unfolding first_refusal refuse_if fields_differ lengths_differ unlike_codes
alike_tails C D E a b = rw (eq-eqb (size C.field) (size D.field) a, ne_eqb (size C.field) (size E.field) b) refl

pub alike_lengths : (C D E : Matrix) → size C.field ≡ size D.field → size C.field ≡ size E.field → C.columns ≢ D.columns → first_refusal (unlike_codes C D E) ≡ Some LengthsDiffer
unfolding first_refusal refuse_if fields_differ lengths_differ unlike_codes
alike_lengths C D E a b c = rw (eq-eqb (size C.field) (size D.field) a, eq-eqb (size C.field) (size E.field) b, ne_eqb C.columns D.columns c) refl

pub alike_fine : (C D E : Matrix) → size C.field ≡ size D.field → size C.field ≡ size E.field → C.columns ≡ D.columns → first_refusal (unlike_codes C D E) ≡ None
unfolding first_refusal refuse_if fields_differ lengths_differ unlike_codes
alike_fine C D E a b c = rw (eq-eqb (size C.field) (size D.field) a, eq-eqb (size C.field) (size E.field) b, eq-eqb C.columns D.columns c) refl

pub ruleset check_alike_laws = (alike_fields, alike_tails, alike_lengths, alike_fine)

-- ---- codes for the tails

pub tail_dimension : (C D E : Matrix) → length E.rows ≢ length C.rows - length D.rows → first_refusal (unfit_tail C D E) ≡ Some (InnerDimension (length E.rows) (length C.rows - length D.rows))
unfolding first_refusal refuse_if bad_length unfit_tail
tail_dimension C D E a = rw (ne_eqb (length E.rows) (length C.rows - length D.rows) a) refl

pub tail_long : (C D E : Matrix) → length E.rows ≡ length C.rows - length D.rows → 255 < C.columns + E.columns → first_refusal (unfit_tail C D E) ≡ Some BadLength
unfolding first_refusal refuse_if bad_length unfit_tail
tail_long C D E a b = rw (eq-eqb (length E.rows) (length C.rows - length D.rows) a, long_length (C.columns + E.columns) b) refl

pub tail_fine : (C D E : Matrix) → length E.rows ≡ length C.rows - length D.rows → 1 ≤ C.columns + E.columns → C.columns + E.columns ≤ 255 → first_refusal (unfit_tail C D E) ≡ None
unfolding first_refusal refuse_if bad_length unfit_tail
tail_fine C D E a b c = rw (eq-eqb (length E.rows) (length C.rows - length D.rows) a, short_length (C.columns + E.columns) b c) refl

pub ruleset check_tail_laws = (tail_dimension, tail_long, tail_fine)

-- ---- the first refusal of all

pub refused_alike : (C D E : Matrix) (e : CodeRefusal) → first_refusal (unlike_codes C D E) ≡ Some e → first_of (construction_x_refusals C D E) ≡ Some (told (Codes e))
unfolding construction_x_refusals told
refused_alike C D E e h = first_stays (from_codes (unlike_codes C D E)) _ (refusal_from e) (first_from_codes (unlike_codes C D E) ∙ ap (option_map refusal_from) h)

alike_behind : (C D E : Matrix) → first_refusal (unlike_codes C D E) ≡ None → first_of (construction_x_refusals C D E) ≡ first_of (not_subcode C D ∷ from_codes (unfit_tail C D E))
unfolding construction_x_refusals
alike_behind C D E h = first_behind (from_codes (unlike_codes C D E)) _ (first_from_codes (unlike_codes C D E) ∙ ap (option_map refusal_from) h)

pub refused_subcode : (C D E : Matrix) → first_refusal (unlike_codes C D E) ≡ None → has_subcode C D ≡ false → first_of (construction_x_refusals C D E) ≡ Some (told NotASubcode)
unfolding told not_subcode when first_of
refused_subcode C D E h s = alike_behind C D E h ∙ ap (λ t. first_of (when (not t) (refuse 51 []) ∷ from_codes (unfit_tail C D E))) s

subcode_behind : (C D E : Matrix) → first_refusal (unlike_codes C D E) ≡ None → has_subcode C D ≡ true → first_of (construction_x_refusals C D E) ≡ first_of (from_codes (unfit_tail C D E))
unfolding not_subcode when first_of
subcode_behind C D E h s = alike_behind C D E h ∙ ap (λ t. first_of (when (not t) (refuse 51 []) ∷ from_codes (unfit_tail C D E))) s

pub refused_tail : (C D E : Matrix) (e : CodeRefusal) → first_refusal (unlike_codes C D E) ≡ None → has_subcode C D ≡ true → first_refusal (unfit_tail C D E) ≡ Some e → first_of (construction_x_refusals C D E) ≡ Some (told (Codes e))
unfolding told
refused_tail C D E e h s t = subcode_behind C D E h s ∙ first_from_codes (unfit_tail C D E) ∙ ap (option_map refusal_from) t

pub refused_nothing : (C D E : Matrix) → first_refusal (unlike_codes C D E) ≡ None → has_subcode C D ≡ true → first_refusal (unfit_tail C D E) ≡ None → first_of (construction_x_refusals C D E) ≡ None
refused_nothing C D E h s t = subcode_behind C D E h s ∙ first_from_codes (unfit_tail C D E) ∙ ap (option_map refusal_from) t

pub first_alike : {T : Type 0} (result : Result T ExtensionRefusal) (r : Option CodeRefusal) (e : CodeRefusal) → result ≡ Err (Codes e) → r ≡ Some e → IsRefusedFirst result r
first_alike result r e a s x h = let t : Some e ≡ Some x = sym s ∙ h in cc (t, a)

pub first_none : {T : Type 0} (result : Result T ExtensionRefusal) (r : Option CodeRefusal) → r ≡ None → IsRefusedFirst result r
first_none result r s e h = absurd (true≢false (ap is_none (sym s ∙ h)))

pub ruleset construction_x_laws = (refused_alike, first_alike, first_none)

pub subcode_told : (C D : Matrix) (b : Bool) → C.field ≡ D.field → C.columns ≡ D.columns → AreRows C.field C.columns C.rows → AreRows D.field D.columns D.rows → IsTrue b ↔ IsSubcode D C → b ≡ has_subcode C D
unfolding has_subcode
subcode_told C D b x y r s h =
    let f = C.field in
    let n = C.columns in
    let words : AreRows f n D.rows = shared_rows C D x y s in
    decided b (list_all (in_span f n C.rows) D.rows) (IsSubcode D C) h
    (λ t w i. span_within f n D.rows C.rows w r (λ k d l. in_span_true f n C.rows (slice_index_or D.rows k d) (AllPass-from_list_all (in_span f n C.rows) D.rows t k d l)) ((shared C D w x y).0 i))
    (λ sub. list_all-from_AllPass (in_span f n C.rows) D.rows (λ k d l. true_in_span f n C.rows (slice_index_or D.rows k d) (sub (slice_index_or D.rows k d) ((shared C D (slice_index_or D.rows k d) x y).1 (span_row f n D.rows words k d l)))))
