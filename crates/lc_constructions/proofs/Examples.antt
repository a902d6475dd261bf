-- Worked examples of constructed codes and of decoding, by evaluation of the definitions.
--   hamming_check_rows        the check matrix of the Hamming code of length 7
--   reed_muller_words         the rows that span the Reed-Muller code of order 1 in 3 variables
--   reed_solomon_first, reed_solomon_second      two words with zeros at 2 and 4, over 5 elements
--   bch_locator, no_locator   the least field over 2 elements with an element of order 15, and none with one of order 11
--   goppa_word                a word of the Goppa code of 1 + x + x^2 over the eight points of the field of 8 elements
--   nearest_to                the word of the Hamming code nearest to one with a single error
--   nearest_of_tie            of two words as near, the one whose error comes first
--   trims                     the last zeros of a list are no part of its polynomial
use Rattle.std.proofs.Common.{◌≡◌, refl}
use Rattle.std.specs.Prelude.{[], ◌∷◌, map, Some, None}
use Rattle.lc_algebra.specs.declared.FieldName.TheVariants.{Gf2, Gf5, Gf8, Gf16}
use Rattle.lc_algebra.specs.Residue.{digits, number, plus, minus, times, top, up, times_x, product}
use Rattle.lc_algebra.specs.Field.{shape, shape_of, size, coefficients, add, neg, mul, pow}
use Rattle.lc_algebra.specs.Polynomial.{value_at, put_on, trimmed}
use Rattle.lc_algebra.specs.Embedding.{is_subfield, first_from, first_that, root, embed}
use Rattle.lc_algebra.specs.Word.{word_sum, scale, word_dot, difference}
use Rattle.lc_algebra.specs.Span.{below, words}
use Rattle.lc_algebra.specs.Matrix.{Matrix}
use Rattle.lc_constructions.specs.Basic.{all_lists, begins_with_one, hamming_columns, hamming_checks, monomial, subsets, reed_muller_rows}
use Rattle.lc_constructions.specs.Cyclic.{value_in, exponents_from, all_fields, locator_field}
use Rattle.lc_constructions.specs.Alternant.{inverse, check_row, goppa_multipliers, goppa_sum}
use Rattle.lc_constructions.proofs.NearestLaws.{is_before, is_better, nearest_among, nearest}

pub hamming_check_rows : hamming_checks 2 3 ≡ (0 ∷ 0 ∷ 0 ∷ 1 ∷ 1 ∷ 1 ∷ 1 ∷ []) ∷ (0 ∷ 1 ∷ 1 ∷ 0 ∷ 0 ∷ 1 ∷ 1 ∷ []) ∷ (1 ∷ 0 ∷ 1 ∷ 0 ∷ 1 ∷ 0 ∷ 1 ∷ []) ∷ []
unfolding below all_lists begins_with_one hamming_columns hamming_checks
hamming_check_rows = refl

pub reed_muller_words : reed_muller_rows 1 3 ≡ (0 ∷ 1 ∷ 0 ∷ 1 ∷ 0 ∷ 1 ∷ 0 ∷ 1 ∷ []) ∷ (0 ∷ 0 ∷ 1 ∷ 1 ∷ 0 ∷ 0 ∷ 1 ∷ 1 ∷ []) ∷ (0 ∷ 0 ∷ 0 ∷ 0 ∷ 1 ∷ 1 ∷ 1 ∷ 1 ∷ []) ∷ (1 ∷ 1 ∷ 1 ∷ 1 ∷ 1 ∷ 1 ∷ 1 ∷ 1 ∷ []) ∷ []
unfolding below monomial subsets reed_muller_rows
reed_muller_words = refl

pub reed_solomon_first : map (λ i. value_in Gf5 Gf5 (1 ∷ 0 ∷ 3 ∷ 4 ∷ []) (pow Gf5 (shape_of Gf5).primitive i)) (exponents_from 1 2) ≡ 0 ∷ 0 ∷ []
unfolding digits number plus minus times top up times_x product shape shape_of size coefficients add neg mul pow value_at first_from first_that root embed value_in exponents_from
reed_solomon_first = refl

pub reed_solomon_second : map (λ i. value_in Gf5 Gf5 (0 ∷ 1 ∷ 3 ∷ 2 ∷ []) (pow Gf5 (shape_of Gf5).primitive i)) (exponents_from 1 2) ≡ 0 ∷ 0 ∷ []
unfolding digits number plus minus times top up times_x product shape shape_of size coefficients add neg mul pow value_at first_from first_that root embed value_in exponents_from
reed_solomon_second = refl

pub bch_locator : locator_field Gf2 15 ≡ Some Gf16
unfolding shape shape_of size all_fields is_subfield locator_field
bch_locator = refl

pub no_locator : locator_field Gf2 11 ≡ None
unfolding shape shape_of size all_fields is_subfield locator_field
no_locator = refl

pub goppa_word : map (goppa_sum Gf2 Gf8 (1 ∷ 1 ∷ 1 ∷ []) (0 ∷ 1 ∷ 2 ∷ 3 ∷ 4 ∷ 5 ∷ 6 ∷ 7 ∷ []) (1 ∷ 1 ∷ 0 ∷ 1 ∷ 0 ∷ 1 ∷ 0 ∷ 1 ∷ [])) (0 ∷ 1 ∷ []) ≡ 0 ∷ 0 ∷ []
unfolding digits number plus minus times top up times_x product shape shape_of size coefficients add neg mul pow value_at first_from first_that root embed word_dot inverse check_row goppa_multipliers goppa_sum
goppa_word = refl

abbrev pub hamming : Matrix
hamming = record { field = Gf2; columns = 7; rows = (1 ∷ 0 ∷ 0 ∷ 0 ∷ 0 ∷ 1 ∷ 1 ∷ []) ∷ (0 ∷ 1 ∷ 0 ∷ 0 ∷ 1 ∷ 0 ∷ 1 ∷ []) ∷ (0 ∷ 0 ∷ 1 ∷ 0 ∷ 1 ∷ 1 ∷ 0 ∷ []) ∷ (0 ∷ 0 ∷ 0 ∷ 1 ∷ 1 ∷ 1 ∷ 1 ∷ []) ∷ [] }

pub nearest_to : nearest hamming (1 ∷ 1 ∷ 0 ∷ 0 ∷ 0 ∷ 1 ∷ 1 ∷ []) ≡ 1 ∷ 0 ∷ 0 ∷ 0 ∷ 0 ∷ 1 ∷ 1 ∷ []
unfolding digits number plus minus times top up times_x product shape shape_of size coefficients add neg mul pow word_sum scale difference below words is_before is_better nearest_among nearest
nearest_to = refl

pub nearest_of_tie : nearest (record { field = Gf2; columns = 2; rows = (1 ∷ 1 ∷ []) ∷ [] }) (1 ∷ 0 ∷ []) ≡ 1 ∷ 1 ∷ []
unfolding digits number plus minus times top up times_x product shape shape_of size coefficients add neg mul pow word_sum scale difference below words is_before is_better nearest_among nearest
nearest_of_tie = refl

pub trims : trimmed (1 ∷ 0 ∷ 2 ∷ 0 ∷ 0 ∷ []) ≡ 1 ∷ 0 ∷ 2 ∷ []
unfolding put_on trimmed
trims = refl
