-- The refusals of the plain constructors.
--   length_too_large, length_bad, length_fine      the first refusal of a length
--   matrix_too_large, matrix_bad_length, matrix_uneven, matrix_no_elements, matrix_fine      the first refusal of a matrix
--   matrix_rows                    a matrix that isn't refused has words as rows
use Rattle.std.proofs.Common.{◌≡◌, ℕ, ◌↔◌, true, false, Bool, ◌==◌, IsTrue, Some, None, List, length, slice_index_or, All, refl, ◌∙◌}
use Rattle.std.proofs.lemmas.List.Sums.{AllPass-from_list_all}
use Rattle.std.proofs.lemmas.Bool.Decides.{Decides-eqb}
use Rattle.lc_algebra.specs.declared.FieldName.{FieldName}
use Rattle.lc_algebra.specs.Field.{is_symbol}
use Rattle.lc_algebra.specs.Word.{Fits}
use Rattle.lc_algebra.specs.Matrix.{AreRows}
use Rattle.lc_constructions.specs.declared.refusal.CodeRefusal.TheVariants.{BadLength, BadArgument, LengthsDiffer, FieldTooLarge}
use Rattle.lc_constructions.specs.Code.{is_length}
use Rattle.lc_constructions.specs.Refusal.{refuse_if, first_refusal}
use Rattle.lc_constructions.specs.Refusals.{columns_of, have_elements, are_equally_long, too_large, bad_length, bad_argument, length_refusals, matrix_refusals}
use Rattle.lc_constructions.proofs.RefusalLaws.{rows_told}

pub length_too_large : (f : FieldName) (n : ℕ) → is_symbol f ≡ false → first_refusal (length_refusals f n) ≡ Some FieldTooLarge
unfolding first_refusal refuse_if too_large length_refusals
length_too_large f n a = rw a refl

pub length_bad : (f : FieldName) (n : ℕ) → is_symbol f ≡ true → is_length n ≡ false → first_refusal (length_refusals f n) ≡ Some BadLength
unfolding first_refusal refuse_if too_large bad_length length_refusals
length_bad f n a b = rw (a, b) refl

pub length_fine : (f : FieldName) (n : ℕ) → is_symbol f ≡ true → is_length n ≡ true → first_refusal (length_refusals f n) ≡ None
unfolding first_refusal refuse_if too_large bad_length length_refusals
length_fine f n a b = rw (a, b) refl

pub matrix_too_large : (f : FieldName) (rows : List (List ℕ)) → is_symbol f ≡ false → first_refusal (matrix_refusals f rows) ≡ Some FieldTooLarge
unfolding first_refusal refuse_if too_large bad_length bad_argument matrix_refusals
matrix_too_large f rows a = rw a refl

pub matrix_bad_length : (f : FieldName) (rows : List (List ℕ)) → is_symbol f ≡ true → is_length (columns_of rows) ≡ false → first_refusal (matrix_refusals f rows) ≡ Some BadLength
unfolding first_refusal refuse_if too_large bad_length bad_argument matrix_refusals
matrix_bad_length f rows a b = rw (a, b) refl

pub matrix_uneven : (f : FieldName) (rows : List (List ℕ)) → is_symbol f ≡ true → is_length (columns_of rows) ≡ true → are_equally_long rows ≡ false → first_refusal (matrix_refusals f rows) ≡ Some LengthsDiffer
unfolding first_refusal refuse_if too_large bad_length bad_argument matrix_refusals
matrix_uneven f rows a b c = rw (a, b, c) refl

pub matrix_no_elements : (f : FieldName) (rows : List (List ℕ)) (b : Bool) → is_symbol f ≡ true → is_length (columns_of rows) ≡ true → are_equally_long rows ≡ true → IsTrue b ↔ All (Fits f) rows → b ≡ false → first_refusal (matrix_refusals f rows) ≡ Some (BadArgument 1)
unfolding first_refusal refuse_if too_large bad_length bad_argument matrix_refusals
matrix_no_elements f rows b a l c h e = let t : have_elements f rows ≡ false = rows_told f rows b h ∙ e in rw (a, l, c, t) refl

pub matrix_fine : (f : FieldName) (rows : List (List ℕ)) (b : Bool) → is_symbol f ≡ true → is_length (columns_of rows) ≡ true → are_equally_long rows ≡ true → IsTrue b ↔ All (Fits f) rows → b ≡ true → first_refusal (matrix_refusals f rows) ≡ None
unfolding first_refusal refuse_if too_large bad_length bad_argument matrix_refusals
matrix_fine f rows b a l c h e = let t : have_elements f rows ≡ true = rows_told f rows b h ∙ e in rw (a, l, c, t) refl

pub matrix_rows : (f : FieldName) (rows : List (List ℕ)) (b : Bool) → are_equally_long rows ≡ true → IsTrue b ↔ All (Fits f) rows → b ≡ true → AreRows f (columns_of rows) rows
unfolding are_equally_long
matrix_rows f rows b c h e k d l = record {
  long = (Decides-eqb (length (slice_index_or rows k d)) (columns_of rows)).0 (AllPass-from_list_all (λ row. length row == columns_of rows) rows c k d l);
  fits = h.0 e k d l;
}

pub ruleset check_length_laws = (length_too_large, length_bad, length_fine)

pub ruleset check_matrix_laws = (matrix_too_large, matrix_bad_length, matrix_uneven, matrix_no_elements, matrix_fine, matrix_rows)
