-- The refusals of Goppa codes.
--   goppa_too_large, goppa_outside, goppa_bad_length, goppa_bad_polynomial, goppa_bad_points, goppa_repeated, goppa_root
--                          the first refusal
--   goppa_checked          it is that of the values, if the others pass
--   goppa_input, goppa_accepted       arguments that aren't refused give a code
use Rattle.std.proofs.Common.{◌≡◌, ◌≢◌, ℕ, ◌<◌, ◌≤◌, true, false, ◌&&◌, nat_le, IsTrue, Option, Some, None, Result, Ok, Err, IfOk, List, [], ◌∷◌, length, slice_index, AllPairs, refl, sym, subst}
use Rattle.std.specs.Bool.{⊤}
use Rattle.std.proofs.lemmas.Bool.{and_parts, leb-true}
use Rattle.lc_algebra.specs.declared.FieldName.{FieldName}
use Rattle.lc_algebra.specs.Field.{is_symbol}
use Rattle.lc_algebra.specs.Embedding.{IsSubfield, is_subfield}
use Rattle.lc_algebra.specs.Polynomial.{value_at, trimmed}
use Rattle.lc_algebra.specs.Word.{Fits}
use Rattle.lc_constructions.specs.declared.refusal.CodeRefusal.{CodeRefusal}
use Rattle.lc_constructions.specs.declared.refusal.CodeRefusal.TheVariants.{BadLength, BadArgument, NotASubfield, FieldTooLarge}
use Rattle.lc_constructions.specs.Code.{is_length}
use Rattle.lc_constructions.specs.Refusal.{refuse_if, first_refusal, IsChecked}
use Rattle.lc_constructions.specs.Refusals.{are_elements, too_large, bad_length, bad_argument, not_subfield, is_goppa_polynomial, repeated_point, root_at, goppa_refusals}
use Rattle.lc_goppa.specs.Checked.{IsGoppaInput}
use Rattle.lc_goppa.proofs.GoppaLaws.{goppa_fine}

pub goppa_too_large : (f K : FieldName) (g xs : List ℕ) → is_symbol f ≡ false → first_refusal (goppa_refusals f K g xs) ≡ Some FieldTooLarge
unfolding first_refusal refuse_if too_large goppa_refusals
goppa_too_large f K g xs a = rw a refl

pub goppa_outside : (f K : FieldName) (g xs : List ℕ) → is_symbol f ≡ true → is_subfield f K ≡ false → first_refusal (goppa_refusals f K g xs) ≡ Some NotASubfield
unfolding first_refusal refuse_if too_large not_subfield goppa_refusals
goppa_outside f K g xs a c = rw (a, c) refl

pub goppa_bad_length : (f K : FieldName) (g xs : List ℕ) → is_symbol f ≡ true → is_subfield f K ≡ true → is_length (length xs) ≡ false → first_refusal (goppa_refusals f K g xs) ≡ Some BadLength
unfolding first_refusal refuse_if too_large not_subfield bad_length goppa_refusals
goppa_bad_length f K g xs a c d = rw (a, c, d) refl

pub goppa_bad_polynomial : (f K : FieldName) (g xs : List ℕ) → is_symbol f ≡ true → is_subfield f K ≡ true → is_length (length xs) ≡ true → is_goppa_polynomial K g ≡ false → first_refusal (goppa_refusals f K g xs) ≡ Some (BadArgument 1)
unfolding first_refusal refuse_if too_large not_subfield bad_length bad_argument goppa_refusals
goppa_bad_polynomial f K g xs a c d e = rw (a, c, d, e) refl

pub goppa_bad_points : (f K : FieldName) (g xs : List ℕ) → is_symbol f ≡ true → is_subfield f K ≡ true → is_length (length xs) ≡ true → is_goppa_polynomial K g ≡ true → are_elements K xs ≡ false → first_refusal (goppa_refusals f K g xs) ≡ Some (BadArgument 2)
unfolding first_refusal refuse_if too_large not_subfield bad_length bad_argument goppa_refusals
goppa_bad_points f K g xs a c d e h = rw (a, c, d, e, h) refl

last_two : (o p : Option CodeRefusal) (r : CodeRefusal) → o ≡ Some r → first_refusal (o ∷ p ∷ []) ≡ Some r
unfolding first_refusal
last_two o p r e = rw e refl

last_one : (o p : Option CodeRefusal) → o ≡ None → first_refusal (o ∷ p ∷ []) ≡ p
unfolding first_refusal
last_one o None e = rw e refl
last_one o (Some r) e = rw e refl

pub goppa_repeated : (f K : FieldName) (g xs : List ℕ) (r : CodeRefusal) → is_symbol f ≡ true → is_subfield f K ≡ true → is_length (length xs) ≡ true → is_goppa_polynomial K g ≡ true → are_elements K xs ≡ true → repeated_point xs ≡ Some r → first_refusal (goppa_refusals f K g xs) ≡ Some r
unfolding first_refusal refuse_if too_large not_subfield bad_length bad_argument goppa_refusals
goppa_repeated f K g xs r a c d e h i = rw (a, c, d, e, h) (last_two (repeated_point xs) (root_at K g xs) r i)

pub goppa_root : (f K : FieldName) (g xs : List ℕ) → is_symbol f ≡ true → is_subfield f K ≡ true → is_length (length xs) ≡ true → is_goppa_polynomial K g ≡ true → are_elements K xs ≡ true → repeated_point xs ≡ None → first_refusal (goppa_refusals f K g xs) ≡ root_at K g xs
unfolding first_refusal refuse_if too_large not_subfield bad_length bad_argument goppa_refusals
goppa_root f K g xs a c d e h i = rw (a, c, d, e, h) (last_one (repeated_point xs) (root_at K g xs) i)

degree_told : (K : FieldName) (g : List ℕ) → is_goppa_polynomial K g ≡ true → 2 ≤ length (trimmed g)
unfolding is_goppa_polynomial
degree_told K g h =
    let n = length (trimmed g) in
    let t = and_parts (are_elements K g) (nat_le 2 n && nat_le n 256) h in
    leb-true 2 n (and_parts (nat_le 2 n) (nat_le n 256) t.1).0

pub goppa_input : (f K : FieldName) (g xs : List ℕ) → IsTrue (is_symbol f) → IsSubfield f K → is_length (length xs) ≡ true → is_goppa_polynomial K g ≡ true → Fits K g → Fits K xs → AllPairs (λ a b. a ≢ b) xs → ((i : ℕ) → i < length xs → 0 < value_at K g (slice_index xs i)) → IsGoppaInput f K g xs
goppa_input f K g xs s t l p h k d n = record {
  coefficients = h;
  elements = k;
  degree = degree_told K g p;
  nonzero = n;
  form = goppa_fine f K g xs s t l k d n;
}

pub goppa_checked : (f K : FieldName) (g xs : List ℕ) (result : Result ⊤ CodeRefusal) → is_symbol f ≡ true → is_subfield f K ≡ true → is_length (length xs) ≡ true → is_goppa_polynomial K g ≡ true → are_elements K xs ≡ true → repeated_point xs ≡ None → IsChecked result (root_at K g xs) → IsChecked result (first_refusal (goppa_refusals f K g xs))
goppa_checked f K g xs result a c d e h i j = subst (IsChecked result) (sym (goppa_root f K g xs a c d e h i)) j

pub goppa_accepted : (f K : FieldName) (g xs : List ℕ) (result : Result ⊤ CodeRefusal) → IsTrue (is_symbol f) → IsSubfield f K → is_length (length xs) ≡ true → is_goppa_polynomial K g ≡ true → Fits K g → Fits K xs → AllPairs (λ a b. a ≢ b) xs → IfOk result (λ _. (i : ℕ) → i < length xs → 0 < value_at K g (slice_index xs i)) → IfOk result (λ _. IsGoppaInput f K g xs)
goppa_accepted f K g xs (Ok x) s t l p h k d n = goppa_input f K g xs s t l p h k d n
goppa_accepted f K g xs (Err x) s t l p h k d n = tt

pub ruleset check_goppa_laws = (goppa_too_large, goppa_outside, goppa_bad_length, goppa_bad_polynomial, goppa_bad_points, goppa_repeated, goppa_checked, goppa_accepted)
