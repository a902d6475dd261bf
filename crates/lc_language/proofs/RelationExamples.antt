-- Worked distances, shifts, codewords and refusals of calls on words and codes, by evaluation of the definitions.
--   distances           of equal lists, of two that differ, and of no symbols
--   shifts              cyclic shifts
--   codewords           the codewords of two messages of the code over three elements with the rows 102 and 011
--   sums_refused, multiples_refused, distances_refused      each refusal of AddWords, ScaleWord and DistanceCodeword, and none
--   messages_refused, rows_refused      those of Encode and AugmentedCode
--   outside             a word of the repetition code, and one that is none
use Rattle.std.proofs.Common.{◌≡◌, refl}
use Rattle.std.specs.Prelude.{ℕ, List, [], ◌∷◌, map, Some, None}
use Rattle.lc_algebra.specs.declared.FieldName.TheVariants.{Gf2, Gf3, Gf25}
use Rattle.lc_algebra.specs.Residue.{digits, number, plus, minus, times, top, up, times_x, product}
use Rattle.lc_algebra.specs.Field.{shape, shape_of, size, is_symbol, coefficients, add, mul}
use Rattle.lc_algebra.specs.Word.{word_sum, scale}
use Rattle.lc_algebra.specs.Span.{below, combine, words}
use Rattle.lc_algebra.specs.Matrix.{Matrix}
use Rattle.lc_constructions.specs.declared.refusal.CodeRefusal.TheVariants.{BadArgument, LengthsDiffer, FieldTooLarge}
use Rattle.lc_constructions.specs.Refusal.{refuse_if, first_refusal}
use Rattle.lc_constructions.specs.Refusals.{are_elements, have_elements, too_large, bad_argument}
use Rattle.lc_enumeration.specs.InformationSet.{same_word, in_span, is_member}
use Rattle.lc_language.specs.Refusal.{refuse, when}
use Rattle.lc_language.specs.Relations.{hamming_distance, shifted, add_refusals, scale_refusals, distance_refusals, message_refusals, augmented_refusals, not_codeword}

abbrev code : Matrix
code = record { field = Gf3; columns = 3; rows = (1 ∷ 0 ∷ 2 ∷ []) ∷ (0 ∷ 1 ∷ 1 ∷ []) ∷ [] }

abbrev repetition : Matrix
repetition = record { field = Gf2; columns = 3; rows = (1 ∷ 1 ∷ 1 ∷ []) ∷ [] }

pub distances : hamming_distance (1 ∷ 0 ∷ 2 ∷ 1 ∷ []) (1 ∷ 2 ∷ 2 ∷ 0 ∷ []) ∷ hamming_distance (4 ∷ 4 ∷ []) (4 ∷ 4 ∷ []) ∷ hamming_distance [] [] ∷ [] ≡ 2 ∷ 0 ∷ 0 ∷ []
distances = refl

pub shifts : map shifted ((1 ∷ 2 ∷ 3 ∷ []) ∷ (5 ∷ []) ∷ [] ∷ []) ≡ (3 ∷ 1 ∷ 2 ∷ []) ∷ (5 ∷ []) ∷ [] ∷ []
unfolding shifted top up
shifts = refl

pub codewords : map (λ u. combine Gf3 3 u code.rows) ((2 ∷ 1 ∷ []) ∷ (0 ∷ 2 ∷ []) ∷ []) ≡ (2 ∷ 1 ∷ 2 ∷ []) ∷ (0 ∷ 2 ∷ 2 ∷ []) ∷ []
unfolding digits number plus minus times top up times_x product shape shape_of size coefficients add mul word_sum scale combine
codewords = refl

pub sums_refused : first_refusal (add_refusals Gf25 (25 ∷ []) []) ∷ first_refusal (add_refusals Gf2 (2 ∷ []) []) ∷ first_refusal (add_refusals Gf2 (2 ∷ []) (2 ∷ [])) ∷ first_refusal (add_refusals Gf2 (1 ∷ []) (2 ∷ [])) ∷ first_refusal (add_refusals Gf2 (1 ∷ []) (1 ∷ [])) ∷ [] ≡ Some FieldTooLarge ∷ Some LengthsDiffer ∷ Some (BadArgument 1) ∷ Some (BadArgument 2) ∷ None ∷ []
unfolding first_refusal refuse_if too_large bad_argument are_elements is_symbol size shape_of shape add_refusals
sums_refused = refl

pub multiples_refused : first_refusal (scale_refusals Gf25 25 (25 ∷ [])) ∷ first_refusal (scale_refusals Gf3 3 (3 ∷ [])) ∷ first_refusal (scale_refusals Gf3 2 (3 ∷ [])) ∷ first_refusal (scale_refusals Gf3 2 (2 ∷ [])) ∷ [] ≡ Some FieldTooLarge ∷ Some (BadArgument 1) ∷ Some (BadArgument 2) ∷ None ∷ []
unfolding first_refusal refuse_if too_large bad_argument are_elements is_symbol size shape_of shape scale_refusals
multiples_refused = refl

pub distances_refused : first_refusal (distance_refusals (1 ∷ []) []) ∷ first_refusal (distance_refusals (9 ∷ []) (8 ∷ [])) ∷ [] ≡ Some LengthsDiffer ∷ None ∷ []
unfolding first_refusal refuse_if distance_refusals
distances_refused = refl

pub messages_refused : map (λ u. first_refusal (message_refusals code u)) ((3 ∷ 0 ∷ 0 ∷ []) ∷ (3 ∷ 0 ∷ []) ∷ (2 ∷ 0 ∷ []) ∷ []) ≡ Some LengthsDiffer ∷ Some (BadArgument 2) ∷ None ∷ []
unfolding first_refusal refuse_if bad_argument are_elements size shape_of shape message_refusals
messages_refused = refl

pub rows_refused : map (λ rows. first_refusal (augmented_refusals code rows)) (((0 ∷ 0 ∷ 3 ∷ []) ∷ (0 ∷ []) ∷ []) ∷ ((0 ∷ 0 ∷ 3 ∷ []) ∷ []) ∷ ((0 ∷ 0 ∷ 2 ∷ []) ∷ []) ∷ [] ∷ []) ≡ Some LengthsDiffer ∷ Some (BadArgument 2) ∷ None ∷ None ∷ []
unfolding first_refusal refuse_if bad_argument are_elements have_elements size shape_of shape augmented_refusals
rows_refused = refl

pub outside : map (not_codeword repetition) ((1 ∷ 1 ∷ 1 ∷ []) ∷ (1 ∷ 1 ∷ 0 ∷ []) ∷ []) ≡ None ∷ Some (refuse 50 []) ∷ []
unfolding digits number plus minus times top up times_x product shape shape_of size coefficients add mul word_sum scale below words same_word is_member in_span refuse when not_codeword
outside = refl
