-- The first refusal of each combinator.
--   extended_too_long, extended_fine                          extended codes
--   deleted_bad, deleted_good, deleted_count      punctured and shortened codes
--   even_not_binary, even_binary      words of even weight
--   product_of_fields, product_too_long, product_fine      direct products
--   sum_of_fields, sum_too_long, sum_fine                     direct sums
--   uuv_of_fields, uuv_of_lengths, uuv_too_long, uuv_fine     the words u followed by u + v
use Rattle.std.proofs.Common.{◌≡◌, ◌≢◌, ℕ, ◌+◌, ◌*◌, ◌-◌, ◌<◌, ◌≤◌, true, false, not, ◌==◌, nat_le, ◌||◌, List, length, Contains, Some, None, refl, sym, ◌∙◌, ⊎_elim, arith, true≢false}
use Rattle.std.specs.List.{list_any}
use Rattle.std.proofs.lemmas.Bool.{cases_eq, cases_lt, or_parts, eq-eqb, ne_eqb, le-leb}
use Rattle.lc_algebra.specs.Field.{size}
use Rattle.lc_algebra.specs.Matrix.{Matrix}
use Rattle.lc_algebra.specs.Word.{zero_word}
use Rattle.lc_algebra.proofs.WordLaws.{length_zero_word}
use Rattle.lc_algebra.proofs.SpanSearch.{contains_any}
use Rattle.lc_constructions.proofs.WithoutLaws.{length_without_from, deleted_fine}
use Rattle.lc_algebra.proofs.EmbeddingTests.{told_by_size, two_elements}
use Rattle.lc_constructions.specs.declared.refusal.CodeRefusal.TheVariants.{BadLength, BadArgument, FieldsDiffer, LengthsDiffer, BadPositions}
use Rattle.lc_constructions.specs.Refusal.{refuse_if, first_refusal}
use Rattle.lc_constructions.specs.Refusals.{bad_length, bad_argument, fields_differ, lengths_differ, is_rising, extended_refusals, deleted_refusals, even_weight_refusals, direct_sum_refusals, uuv_refusals, direct_product_refusals}
use Rattle.lc_constructions.proofs.RefusalLaws.{long_length, short_length, product_least, product_most}

pub extended_too_long : (C : Matrix) → C.columns ≡ 255 → first_refusal (extended_refusals C) ≡ Some BadLength
unfolding first_refusal refuse_if bad_length extended_refusals
extended_too_long C e = rw (long_length (C.columns + 1) (omega (arith, e))) refl

pub extended_fine : (C : Matrix) → C.columns ≢ 255 → C.columns ≤ 255 → first_refusal (extended_refusals C) ≡ None
unfolding first_refusal refuse_if bad_length extended_refusals
extended_fine C o l = rw (short_length (C.columns + 1) (omega arith) (omega (arith, o, l))) refl

pub deleted_bad : (C : Matrix) (coordinates : List ℕ) → (not (is_rising coordinates) || (list_any (nat_le C.columns) coordinates || (length coordinates == C.columns))) ≡ true → first_refusal (deleted_refusals C coordinates) ≡ Some BadPositions
unfolding first_refusal refuse_if deleted_refusals
deleted_bad C coordinates e = rw e refl

pub deleted_good : (C : Matrix) (coordinates : List ℕ) → (not (is_rising coordinates) || (list_any (nat_le C.columns) coordinates || (length coordinates == C.columns))) ≡ false → first_refusal (deleted_refusals C coordinates) ≡ None
unfolding first_refusal refuse_if deleted_refusals
deleted_good C coordinates e = rw e refl

pub deleted_count : (C : Matrix) (coordinates : List ℕ) → (not (is_rising coordinates) || (list_any (nat_le C.columns) coordinates || (length coordinates == C.columns))) ≡ false → length coordinates < C.columns
deleted_count C coordinates e =
    let n = C.columns in
    let t = deleted_fine C coordinates (deleted_good C coordinates e) in
    let o : (length coordinates == n) ≡ false = (or_parts (list_any (nat_le n) coordinates) (length coordinates == n) (or_parts (not (is_rising coordinates)) (list_any (nat_le n) coordinates || (length coordinates == n)) e).1).1 in
    let high : (q : ℕ) → Contains coordinates q → q < 0 + length (zero_word n) = λ q c. ⊎_elim (λ l. omega (arith, l, length_zero_word n)) (λ l. absurd (true≢false (sym (contains_any (nat_le n) coordinates q c (le-leb n q l)) ∙ t.1))) (cases_lt q n) in
    let most = length_without_from 0 coordinates (zero_word n) t.0 (λ q c. omega arith) high in
    ⊎_elim (λ k. absurd (true≢false (sym (eq-eqb (length coordinates) n k) ∙ o))) (λ k. omega (arith, k, most, length_zero_word n)) (cases_eq (length coordinates) n)

pub even_not_binary : (C : Matrix) → size C.field ≢ 2 → first_refusal (even_weight_refusals C) ≡ Some (BadArgument 1)
unfolding first_refusal refuse_if bad_argument even_weight_refusals
even_not_binary C e = rw (ne_eqb (size C.field) 2 e) refl

pub even_binary : (C : Matrix) → size C.field ≡ 2 → first_refusal (even_weight_refusals C) ≡ None
unfolding first_refusal refuse_if bad_argument even_weight_refusals
even_binary C e = rw (eq-eqb (size C.field) 2 e) refl

pub product_of_fields : (C D : Matrix) → size C.field ≢ size D.field → first_refusal (direct_product_refusals C D) ≡ Some FieldsDiffer
unfolding first_refusal refuse_if bad_length fields_differ direct_product_refusals
product_of_fields C D a = rw (ne_eqb (size C.field) (size D.field) a) refl

pub product_too_long : (C D : Matrix) → size C.field ≡ size D.field → 255 < C.columns * D.columns → first_refusal (direct_product_refusals C D) ≡ Some BadLength
unfolding first_refusal refuse_if bad_length fields_differ direct_product_refusals
product_too_long C D a b = rw (eq-eqb (size C.field) (size D.field) a, long_length (C.columns * D.columns) b) refl

pub product_fine : (C D : Matrix) → size C.field ≡ size D.field → 1 ≤ C.columns * D.columns → C.columns * D.columns ≤ 255 → first_refusal (direct_product_refusals C D) ≡ None
unfolding first_refusal refuse_if bad_length fields_differ direct_product_refusals
product_fine C D a l b = rw (eq-eqb (size C.field) (size D.field) a, short_length (C.columns * D.columns) l b) refl

pub sum_of_fields : (C D : Matrix) → size C.field ≢ size D.field → first_refusal (direct_sum_refusals C D) ≡ Some FieldsDiffer
unfolding first_refusal refuse_if bad_length fields_differ direct_sum_refusals
sum_of_fields C D a = rw (ne_eqb (size C.field) (size D.field) a) refl

pub sum_too_long : (C D : Matrix) → size C.field ≡ size D.field → 255 < C.columns + D.columns → first_refusal (direct_sum_refusals C D) ≡ Some BadLength
unfolding first_refusal refuse_if bad_length fields_differ direct_sum_refusals
sum_too_long C D a b = rw (eq-eqb (size C.field) (size D.field) a, long_length (C.columns + D.columns) b) refl

pub sum_fine : (C D : Matrix) → size C.field ≡ size D.field → 1 ≤ C.columns → C.columns + D.columns ≤ 255 → first_refusal (direct_sum_refusals C D) ≡ None
unfolding first_refusal refuse_if bad_length fields_differ direct_sum_refusals
sum_fine C D a l b = rw (eq-eqb (size C.field) (size D.field) a, short_length (C.columns + D.columns) (omega (arith, l)) b) refl

pub uuv_of_fields : (C D : Matrix) → size C.field ≢ size D.field → first_refusal (uuv_refusals C D) ≡ Some FieldsDiffer
unfolding first_refusal refuse_if bad_length fields_differ lengths_differ uuv_refusals
uuv_of_fields C D a = rw (ne_eqb (size C.field) (size D.field) a) refl

pub uuv_of_lengths : (C D : Matrix) → size C.field ≡ size D.field → C.columns ≢ D.columns → first_refusal (uuv_refusals C D) ≡ Some LengthsDiffer
unfolding first_refusal refuse_if bad_length fields_differ lengths_differ uuv_refusals
uuv_of_lengths C D a e = rw (eq-eqb (size C.field) (size D.field) a, ne_eqb C.columns D.columns e) refl

pub uuv_too_long : (C D : Matrix) → size C.field ≡ size D.field → C.columns ≡ D.columns → 255 < C.columns + D.columns → first_refusal (uuv_refusals C D) ≡ Some BadLength
unfolding first_refusal refuse_if bad_length fields_differ lengths_differ uuv_refusals
uuv_too_long C D a e b = rw (eq-eqb (size C.field) (size D.field) a, eq-eqb C.columns D.columns e, long_length (C.columns + D.columns) b) refl

pub uuv_fine : (C D : Matrix) → size C.field ≡ size D.field → C.columns ≡ D.columns → 1 ≤ C.columns → C.columns + D.columns ≤ 255 → first_refusal (uuv_refusals C D) ≡ None
unfolding first_refusal refuse_if bad_length fields_differ lengths_differ uuv_refusals
uuv_fine C D a e l b = rw (eq-eqb (size C.field) (size D.field) a, eq-eqb C.columns D.columns e, short_length (C.columns + D.columns) (omega (arith, l)) b) refl

pub ruleset check_extended_laws = (extended_too_long, extended_fine)

pub ruleset check_even_weight_laws = (two_elements, even_not_binary, even_binary)

pub ruleset check_direct_product_laws = (told_by_size, product_of_fields, product_too_long, product_fine, product_least)

pub ruleset product_laws = (product_least, product_most)

pub ruleset check_deleted_laws = (deleted_bad, deleted_good, deleted_count)

pub ruleset check_direct_sum_laws = (told_by_size, sum_of_fields, sum_too_long, sum_fine)

pub ruleset check_uuv_laws = (told_by_size, uuv_of_fields, uuv_of_lengths, uuv_too_long, uuv_fine)
