-- The refusals of alternant codes.
--   subfield_told          the test for a subfield, by what it decides
--   form_too_large, form_outside, form_bad_length, form_uneven, form_bad_count, form_bad_points, form_bad_multipliers, form_repeated
--                          the first refusal of the parts of a form
--   form_fine              parts that aren't refused are a form
use Rattle.std.proofs.Common.{◌≡◌, ◌≢◌, ℕ, ◌<◌, ◌↔◌, true, false, Bool, not, ◌==◌, ◌||◌, IsTrue, Option, Some, None, List, [], ◌∷◌, length, slice_index, AllPairs, EachIndex, refl, sym, ◌∙◌, ⊎_elim, true≢false, arith}
use Rattle.std.specs.List.{list_any}
use Rattle.std.proofs.lemmas.List.{get_or_default}
use Rattle.std.proofs.lemmas.Bool.{cases_lt, eq-eqb, ne_eqb}
use Rattle.lc_algebra.specs.declared.FieldName.{FieldName}
use Rattle.lc_algebra.specs.Field.{is_symbol}
use Rattle.lc_algebra.specs.Embedding.{IsSubfield, is_subfield}
use Rattle.lc_algebra.specs.Word.{Fits}
use Rattle.lc_algebra.proofs.EmbeddingLaws.{decides_subfield}
use Rattle.lc_algebra.proofs.SpanSearch.{contains_any}
use Rattle.lc_constructions.specs.declared.refusal.CodeRefusal.{CodeRefusal}
use Rattle.lc_constructions.specs.declared.refusal.CodeRefusal.TheVariants.{BadLength, BadArgument, LengthsDiffer, NotASubfield, FieldTooLarge}
use Rattle.lc_constructions.specs.Code.{is_length}
use Rattle.lc_constructions.specs.Alternant.{IsForm}
use Rattle.lc_constructions.specs.Refusal.{refuse_if, first_refusal}
use Rattle.lc_constructions.specs.Refusals.{are_elements, too_large, bad_length, bad_argument, not_subfield, repeated_point, form_refusals}
use Rattle.lc_constructions.proofs.RefusalLaws.{decided}
use Rattle.lc_goppa.specs.Form.{alternant_form}

pub subfield_told : (f K : FieldName) (b : Bool) → IsTrue b ↔ IsSubfield f K → b ≡ is_subfield f K
subfield_told f K b h = decided b (is_subfield f K) (IsSubfield f K) h (decides_subfield f K).0 (decides_subfield f K).1

pub form_too_large : (f K : FieldName) (b : Bool) (xs ys : List ℕ) → is_symbol f ≡ false → first_refusal (form_refusals f K b xs ys) ≡ Some FieldTooLarge
unfolding first_refusal refuse_if too_large form_refusals
form_too_large f K b xs ys a = rw a refl

pub form_outside : (f K : FieldName) (b : Bool) (xs ys : List ℕ) → is_symbol f ≡ true → is_subfield f K ≡ false → first_refusal (form_refusals f K b xs ys) ≡ Some NotASubfield
unfolding first_refusal refuse_if too_large not_subfield form_refusals
form_outside f K b xs ys a c = rw (a, c) refl

pub form_bad_length : (f K : FieldName) (b : Bool) (xs ys : List ℕ) → is_symbol f ≡ true → is_subfield f K ≡ true → is_length (length xs) ≡ false → first_refusal (form_refusals f K b xs ys) ≡ Some BadLength
unfolding first_refusal refuse_if too_large not_subfield bad_length form_refusals
form_bad_length f K b xs ys a c d = rw (a, c, d) refl

pub form_uneven : (f K : FieldName) (b : Bool) (xs ys : List ℕ) → is_symbol f ≡ true → is_subfield f K ≡ true → is_length (length xs) ≡ true → length xs ≢ length ys → first_refusal (form_refusals f K b xs ys) ≡ Some LengthsDiffer
unfolding first_refusal refuse_if too_large not_subfield bad_length form_refusals
form_uneven f K b xs ys a c d e = let t : (length xs == length ys) ≡ false = ne_eqb (length xs) (length ys) e in rw (a, c, d, t) refl

pub form_bad_count : (f K : FieldName) (b : Bool) (xs ys : List ℕ) → is_symbol f ≡ true → is_subfield f K ≡ true → is_length (length xs) ≡ true → length xs ≡ length ys → b ≡ true → first_refusal (form_refusals f K b xs ys) ≡ Some (BadArgument 1)
unfolding first_refusal refuse_if too_large not_subfield bad_length bad_argument form_refusals
form_bad_count f K b xs ys a c d e g = let t : (length xs == length ys) ≡ true = eq-eqb (length xs) (length ys) e in rw (a, c, d, t, g) refl

pub form_bad_points : (f K : FieldName) (b : Bool) (xs ys : List ℕ) → is_symbol f ≡ true → is_subfield f K ≡ true → is_length (length xs) ≡ true → length xs ≡ length ys → b ≡ false → are_elements K xs ≡ false → first_refusal (form_refusals f K b xs ys) ≡ Some (BadArgument 2)
unfolding first_refusal refuse_if too_large not_subfield bad_length bad_argument form_refusals
form_bad_points f K b xs ys a c d e g h = let t : (length xs == length ys) ≡ true = eq-eqb (length xs) (length ys) e in rw (a, c, d, t, g, h) refl

pub form_bad_multipliers : (f K : FieldName) (b : Bool) (xs ys : List ℕ) → is_symbol f ≡ true → is_subfield f K ≡ true → is_length (length xs) ≡ true → length xs ≡ length ys → b ≡ false → are_elements K xs ≡ true → (not (are_elements K ys) || list_any (λ y. y == 0) ys) ≡ true → first_refusal (form_refusals f K b xs ys) ≡ Some (BadArgument 3)
unfolding first_refusal refuse_if too_large not_subfield bad_length bad_argument form_refusals
form_bad_multipliers f K b xs ys a c d e g h i = let t : (length xs == length ys) ≡ true = eq-eqb (length xs) (length ys) e in rw (a, c, d, t, g, h, i) refl

last_refusal : (o : Option CodeRefusal) → first_refusal (o ∷ []) ≡ o
unfolding first_refusal
last_refusal None = refl
last_refusal (Some r) = refl

pub form_repeated : (f K : FieldName) (b : Bool) (xs ys : List ℕ) → is_symbol f ≡ true → is_subfield f K ≡ true → is_length (length xs) ≡ true → length xs ≡ length ys → b ≡ false → are_elements K xs ≡ true → (not (are_elements K ys) || list_any (λ y. y == 0) ys) ≡ false → first_refusal (form_refusals f K b xs ys) ≡ repeated_point xs
unfolding first_refusal refuse_if too_large not_subfield bad_length bad_argument form_refusals
form_repeated f K b xs ys a c d e g h i = let t : (length xs == length ys) ≡ true = eq-eqb (length xs) (length ys) e in rw (a, c, d, t, g, h, i) (last_refusal (repeated_point xs))

nonzero_entries : (ys : List ℕ) → list_any (λ y. y == 0) ys ≡ false → EachIndex ys (λ i. 0 < slice_index ys i)
nonzero_entries ys h i l =
    ⊎_elim (λ p. p)
    (λ p.
    let z : slice_index ys i ≡ 0 = omega (arith, p) in
    absurd (true≢false (sym (contains_any (λ y. y == 0) ys (slice_index ys i) (i, l, sym (get_or_default ys i 0 (slice_index ys i) l)) (eq-eqb (slice_index ys i) 0 z)) ∙ h)))
    (cases_lt 0 (slice_index ys i))

pub form_fine : (f K : FieldName) (xs ys : List ℕ) (r : ℕ) → IsTrue (is_symbol f) → IsSubfield f K → is_length (length xs) ≡ true → length xs ≡ length ys → Fits K xs → Fits K ys → list_any (λ y. y == 0) ys ≡ false → AllPairs (λ a b. a ≢ b) xs → IsForm f (alternant_form K xs ys r)
form_fine f K xs ys r s t l e p m z d = record {
  symbol = s;
  subfield = t;
  length_is = l;
  points = p;
  distinct = d;
  count = sym e;
  multipliers = m;
  nonzero = nonzero_entries ys z;
}

pub ruleset check_form_laws = (form_too_large, form_outside, form_bad_length, form_uneven, form_bad_count, form_bad_points, form_bad_multipliers, form_repeated, form_fine)
