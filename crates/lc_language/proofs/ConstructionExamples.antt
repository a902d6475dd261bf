-- Worked circulant matrices and supports, and refusals of codes by circulant matrices, of construction X and of residual codes, by
-- evaluation of the definitions.
--   shifts_of_a_word        three shifts of a word
--   one_word, two_words     a circulant matrix, and two side by side
--   words_joined            words one after the other
--   one_refused, some_refused      each refusal of CirculantCode and of QuasiCyclicCode, and none
--   parts                   whether a code is a subcode
--   tails_refused           each refusal of ConstructionXCode, and none
--   supports                the support of a word
--   residuals_refused       each refusal of ResidueCode, and none
use Rattle.std.proofs.Common.{◌≡◌, refl}
use Rattle.std.specs.Prelude.{ℕ, true, false, [], ◌∷◌, map, Some, None}
use Rattle.lc_algebra.specs.declared.FieldName.TheVariants.{Gf2, Gf3, Gf25}
use Rattle.lc_algebra.specs.Residue.{digits, number, plus, minus, times, top, up, times_x, product}
use Rattle.lc_algebra.specs.Field.{shape, shape_of, size, is_symbol, coefficients, add, mul}
use Rattle.lc_algebra.specs.Word.{word_sum, scale}
use Rattle.lc_algebra.specs.Span.{below, words}
use Rattle.lc_algebra.specs.Matrix.{Matrix}
use Rattle.lc_constructions.specs.declared.refusal.CodeRefusal.TheVariants.{BadLength, BadArgument, LengthsDiffer, FieldTooLarge}
use Rattle.lc_constructions.specs.Code.{is_length}
use Rattle.lc_constructions.specs.Refusal.{refuse_if, first_refusal, refusal_number, refusal_values}
use Rattle.lc_constructions.specs.Refusals.{are_elements, have_elements, too_large, bad_length, bad_argument, fields_differ, lengths_differ}
use Rattle.lc_enumeration.specs.InformationSet.{same_word, in_span}
use Rattle.lc_language.specs.Refusal.{refuse, when, first_of, refusal_from, from_codes, word_refusals}
use Rattle.lc_language.specs.Relations.{shifted, not_codeword}
use Rattle.lc_language.specs.Circulant.{shifted_by, circulant, circulants, joined, circulant_refusals, quasi_cyclic_refusals}
use Rattle.lc_language.specs.ConstructionX.{has_subcode, not_subcode, unlike_codes, unfit_tail, construction_x_refusals}
use Rattle.lc_language.specs.Residual.{support, no_coordinate, residual_refusals}

abbrev even : Matrix
even = record { field = Gf2; columns = 3; rows = (1 ∷ 0 ∷ 1 ∷ []) ∷ (0 ∷ 1 ∷ 1 ∷ []) ∷ [] }

abbrev part : Matrix
part = record { field = Gf2; columns = 3; rows = (1 ∷ 1 ∷ 0 ∷ []) ∷ [] }

abbrev ones : Matrix
ones = record { field = Gf2; columns = 3; rows = (1 ∷ 1 ∷ 1 ∷ []) ∷ [] }

abbrev none_at : ℕ → Matrix
none_at n = record { field = Gf2; columns = n; rows = [] }

abbrev one_tail : ℕ → Matrix
one_tail n = record { field = Gf2; columns = n; rows = (1 ∷ []) ∷ [] }

abbrev ternary : Matrix
ternary = record { field = Gf3; columns = 3; rows = [] }

pub shifts_of_a_word : map (λ i. shifted_by i (1 ∷ 2 ∷ 3 ∷ [])) (0 ∷ 1 ∷ 2 ∷ 3 ∷ []) ≡ (1 ∷ 2 ∷ 3 ∷ []) ∷ (3 ∷ 1 ∷ 2 ∷ []) ∷ (2 ∷ 3 ∷ 1 ∷ []) ∷ (1 ∷ 2 ∷ 3 ∷ []) ∷ []
unfolding shifted_by shifted top up
shifts_of_a_word = refl

pub one_word : circulant 3 (1 ∷ 2 ∷ 0 ∷ []) ≡ (1 ∷ 2 ∷ 0 ∷ []) ∷ (0 ∷ 1 ∷ 2 ∷ []) ∷ (2 ∷ 0 ∷ 1 ∷ []) ∷ []
unfolding circulant shifted_by shifted top up below
one_word = refl

pub two_words : circulants 2 ((1 ∷ 0 ∷ []) ∷ (1 ∷ 2 ∷ []) ∷ []) ≡ (1 ∷ 0 ∷ 1 ∷ 2 ∷ []) ∷ (0 ∷ 1 ∷ 2 ∷ 1 ∷ []) ∷ []
unfolding circulants shifted_by shifted top up below
two_words = refl

pub words_joined : joined ((1 ∷ 0 ∷ []) ∷ [] ∷ (2 ∷ []) ∷ []) ≡ 1 ∷ 0 ∷ 2 ∷ []
unfolding joined
words_joined = refl

pub one_refused : first_refusal (circulant_refusals Gf25 [] 0) ∷ first_refusal (circulant_refusals Gf2 (1 ∷ []) 0) ∷ first_refusal (circulant_refusals Gf2 (2 ∷ []) 2) ∷ first_refusal (circulant_refusals Gf2 (1 ∷ 2 ∷ []) 2) ∷ first_refusal (circulant_refusals Gf2 (1 ∷ 0 ∷ []) 2) ∷ [] ≡ Some FieldTooLarge ∷ Some BadLength ∷ Some LengthsDiffer ∷ Some (BadArgument 1) ∷ None ∷ []
unfolding first_refusal refuse_if too_large bad_length bad_argument is_length are_elements is_symbol size shape_of shape circulant_refusals
one_refused = refl

pub some_refused : first_refusal (quasi_cyclic_refusals Gf25 [] 0) ∷ first_refusal (quasi_cyclic_refusals Gf2 [] 3) ∷ first_refusal (quasi_cyclic_refusals Gf2 ((1 ∷ []) ∷ (1 ∷ []) ∷ []) 128) ∷ first_refusal (quasi_cyclic_refusals Gf2 ((2 ∷ 0 ∷ []) ∷ (1 ∷ []) ∷ []) 2) ∷ first_refusal (quasi_cyclic_refusals Gf2 ((1 ∷ []) ∷ (2 ∷ []) ∷ []) 1) ∷ first_refusal (quasi_cyclic_refusals Gf2 ((1 ∷ []) ∷ (0 ∷ []) ∷ []) 1) ∷ [] ≡ Some FieldTooLarge ∷ Some BadLength ∷ Some BadLength ∷ Some LengthsDiffer ∷ Some (BadArgument 1) ∷ None ∷ []
unfolding first_refusal refuse_if too_large bad_length bad_argument is_length are_elements have_elements is_symbol size shape_of shape quasi_cyclic_refusals
some_refused = refl

pub parts : has_subcode even part ∷ has_subcode even ones ∷ has_subcode even (none_at 3) ∷ [] ≡ true ∷ false ∷ true ∷ []
unfolding digits number plus minus times top up times_x product shape shape_of size coefficients add mul word_sum scale below words same_word in_span has_subcode
parts = refl

pub tails_refused : first_of (construction_x_refusals even ternary even) ∷ first_of (construction_x_refusals even part ternary) ∷ first_of (construction_x_refusals even (none_at 2) even) ∷ first_of (construction_x_refusals even ones (none_at 255)) ∷ first_of (construction_x_refusals even part (none_at 255)) ∷ first_of (construction_x_refusals even part (one_tail 253)) ∷ first_of (construction_x_refusals even part (one_tail 252)) ∷ [] ≡ Some (refuse 11 []) ∷ Some (refuse 11 []) ∷ Some (refuse 12 []) ∷ Some (refuse 51 []) ∷ Some (refuse 14 (0 ∷ 1 ∷ [])) ∷ Some (refuse 2 []) ∷ None ∷ []
unfolding digits number plus minus times top up times_x product shape shape_of size coefficients add mul word_sum scale below words same_word in_span has_subcode not_subcode unlike_codes unfit_tail construction_x_refusals first_of refusal_from from_codes when refuse refuse_if refusal_number refusal_values fields_differ lengths_differ bad_length is_length
tails_refused = refl

pub supports : map support ((0 ∷ 2 ∷ 0 ∷ 1 ∷ []) ∷ (0 ∷ 0 ∷ []) ∷ (1 ∷ 1 ∷ []) ∷ []) ≡ (1 ∷ 3 ∷ []) ∷ [] ∷ (0 ∷ 1 ∷ []) ∷ []
unfolding support below
supports = refl

pub residuals_refused : first_of (residual_refusals even (2 ∷ 0 ∷ [])) ∷ first_of (residual_refusals even (1 ∷ 1 ∷ 2 ∷ [])) ∷ first_of (residual_refusals even (1 ∷ 1 ∷ 1 ∷ [])) ∷ first_of (residual_refusals ones (1 ∷ 1 ∷ 1 ∷ [])) ∷ first_of (residual_refusals even (1 ∷ 1 ∷ 0 ∷ [])) ∷ first_of (residual_refusals even (0 ∷ 0 ∷ 0 ∷ [])) ∷ [] ≡ Some (refuse 12 []) ∷ Some (refuse 3 (2 ∷ [])) ∷ Some (refuse 50 []) ∷ Some (refuse 2 []) ∷ None ∷ None ∷ []
unfolding digits number plus minus times top up times_x product shape shape_of size coefficients add mul word_sum scale below words same_word in_span not_codeword no_coordinate residual_refusals word_refusals first_of refusal_from from_codes when refuse refuse_if refusal_number refusal_values bad_length is_length are_elements
residuals_refused = refl
