-- Worked examples of each constructor and combinator: what its definition is made of, and a word that is in the code.
--   hamming_ternary, hamming_lengths       check columns and lengths of Hamming codes
--   reed_muller_least, reed_muller_whole   Reed-Muller codes of order 0, and of all orders
--   binary_golay_divides, ternary_golay_divides      the generator polynomials divide x^23 - 1 and x^11 - 1
--   multiple_word, checked_word            a cyclic code by a generator and by a check polynomial
--   locators, ternary_locators, roots_of_unity      the locator field and the zeros of BCH codes
--   bch_points, bch_periodic               the alternant form, b counting modulo the length
--   bch_values, bch_syndromes              the values of a word at the zeros, and the same by the form
--   bch_word, reed_solomon_word, reed_solomon_form_word      words of a BCH and of a Reed-Solomon code
--   goppa_points, checks, inverses         the alternant form of a Goppa code; a check row; inverses
--   goppa_code_word                        a word of a Goppa code
--   extended_word, punctured_word, shortened_word, even_word, sum_word, uuv_word, product_word      a word of each combined code
--   places_left_out, tensors               words without some places; a word u_i v_j
--   expansions, replaced                   the elements of 16 by two of 4; a word of a concatenated code
--   within_one, nearest_from_words, tie    words within a radius; the nearest word, and of two the first
use Rattle.std.proofs.Common.{◌≡◌, ℕ, zero, suc, true, slice_index, refl, arith}
use Rattle.std.specs.Prelude.{[], ◌∷◌, List, map, Some, None, All, Contains}
use Rattle.std.specs.List.{list_all}
use Rattle.std.proofs.lemmas.List.Elements.{All-contains}
use Rattle.std.proofs.lemmas.List.Sums.{AllPass-from_list_all}
use Rattle.lc_algebra.specs.declared.FieldName.TheVariants.{Gf2, Gf3, Gf4, Gf5, Gf8, Gf9, Gf16, Gf64, Gf243, Gf256}
use Rattle.lc_algebra.specs.Residue.{digits, number, plus, minus, times, top, up, times_x, product}
use Rattle.lc_algebra.specs.Field.{shape, shape_of, size, coefficients, add, neg, mul, pow}
use Rattle.lc_algebra.specs.Polynomial.{value_at, poly_sum, poly_scale, poly_product, IsPolynomial, x_power_minus_one}
use Rattle.lc_algebra.specs.Embedding.{is_subfield, first_from, first_that, root, embed}
use Rattle.lc_algebra.specs.Word.{Fits, IsWord, word_sum, scale, word_dot, difference}
use Rattle.lc_algebra.specs.Span.{below, words, combine}
use Rattle.lc_algebra.specs.Matrix.{Matrix}
use Rattle.lc_algebra.proofs.WordLaws.{IsWord_zero, word_cons}
use Rattle.lc_algebra.proofs.SpanLaws.{word_of_member, member_of_word}
use Rattle.lc_algebra.proofs.SpanSearch.{at_most_test, no_later_test, no_later_from_test}
use Rattle.lc_constructions.specs.Code.{InCode}
use Rattle.lc_constructions.specs.Basic.{all_lists, begins_with_one, hamming_columns, hamming_checks, hamming_length, monomial, subsets, reed_muller_rows}
use Rattle.lc_constructions.specs.Cyclic.{binary_golay_generator, ternary_golay_generator, all_fields, locator_field, root_of_unity, value_in, exponents_from, IsMultipleOf, IsCheckedBy, IsBchWord, IsReedSolomonWord}
use Rattle.lc_constructions.specs.Alternant.{inverse, check_row, syndrome_at, goppa_multipliers, goppa_sum, goppa_form, bch_form, IsAlternantWord, IsGoppaWord}
use Rattle.lc_constructions.specs.Combined.{symbol_sum, without_from, without, tensor, InExtended, InPunctured, InShortened, InEvenWeight, InDirectSum, InUuv, InDirectProduct}
use Rattle.lc_constructions.specs.Concatenated.{InConcatenated}
use Rattle.lc_constructions.specs.Nearest.{IsNearest}
use Rattle.lc_constructions.proofs.NearestLaws.{words_within}

pub hamming_ternary : hamming_checks 3 2 ≡ (0 ∷ 1 ∷ 1 ∷ 1 ∷ []) ∷ (1 ∷ 0 ∷ 1 ∷ 2 ∷ []) ∷ []
unfolding below all_lists begins_with_one hamming_columns hamming_checks
hamming_ternary = refl

pub hamming_lengths : map (hamming_length 4) (2 ∷ 3 ∷ []) ≡ 5 ∷ 21 ∷ []
unfolding hamming_length
hamming_lengths = refl

pub reed_muller_least : reed_muller_rows 0 0 ≡ (1 ∷ []) ∷ []
unfolding below monomial subsets reed_muller_rows
reed_muller_least = refl

pub reed_muller_whole : reed_muller_rows 2 2 ≡ (0 ∷ 0 ∷ 0 ∷ 1 ∷ []) ∷ (0 ∷ 1 ∷ 0 ∷ 1 ∷ []) ∷ (0 ∷ 0 ∷ 1 ∷ 1 ∷ []) ∷ (1 ∷ 1 ∷ 1 ∷ 1 ∷ []) ∷ []
unfolding below monomial subsets reed_muller_rows
reed_muller_whole = refl

-- the generator polynomials of the Golay codes divide x^23 - 1 and x^11 - 1
pub binary_golay_divides : poly_product Gf2 (1 ∷ 0 ∷ 1 ∷ 0 ∷ 0 ∷ 1 ∷ 0 ∷ 0 ∷ 1 ∷ 1 ∷ 1 ∷ 1 ∷ 1 ∷ []) binary_golay_generator ≡ x_power_minus_one Gf2 23
unfolding digits number plus minus times top up times_x product shape shape_of coefficients add neg mul poly_sum poly_scale poly_product x_power_minus_one
binary_golay_divides = refl

pub ternary_golay_divides : poly_product Gf3 (1 ∷ 0 ∷ 1 ∷ 2 ∷ 2 ∷ 2 ∷ 1 ∷ []) ternary_golay_generator ≡ x_power_minus_one Gf3 11
unfolding digits number plus minus times top up times_x product shape shape_of coefficients add neg mul poly_sum poly_scale poly_product x_power_minus_one
ternary_golay_divides = refl

pub locators : map (locator_field Gf4) (1 ∷ 3 ∷ 5 ∷ 9 ∷ 17 ∷ 2 ∷ 7 ∷ []) ≡ Some Gf4 ∷ Some Gf4 ∷ Some Gf16 ∷ Some Gf64 ∷ Some Gf256 ∷ None ∷ Some Gf64 ∷ []
unfolding shape shape_of size all_fields is_subfield locator_field
locators = refl

pub ternary_locators : locator_field Gf3 11 ∷ locator_field Gf9 11 ∷ locator_field Gf3 3 ∷ [] ≡ Some Gf243 ∷ None ∷ None ∷ []
unfolding shape shape_of size all_fields is_subfield locator_field
ternary_locators = refl

pub roots_of_unity : root_of_unity Gf16 15 ∷ root_of_unity Gf16 5 ∷ root_of_unity Gf9 4 ∷ root_of_unity Gf2 1 ∷ [] ≡ 2 ∷ 8 ∷ 4 ∷ 1 ∷ []
unfolding digits number plus minus times top up times_x product shape shape_of size coefficients mul pow root_of_unity
roots_of_unity = refl

-- a word of length 5 over 4 elements that isn't in the code: its values at the powers 2 to 4, and the same by the alternant form
pub bch_points : bch_form Gf16 5 2 4 ≡ record { locator = Gf16; points = 1 ∷ 8 ∷ 12 ∷ 10 ∷ 15 ∷ []; multipliers = 1 ∷ 12 ∷ 15 ∷ 8 ∷ 10 ∷ []; r = 3 }
unfolding digits number plus minus times top up times_x product shape shape_of size coefficients mul pow below root_of_unity bch_form
bch_points = refl

pub bch_values : map (λ i. value_in Gf4 Gf16 (1 ∷ 2 ∷ 0 ∷ 3 ∷ 1 ∷ []) (pow Gf16 (root_of_unity Gf16 5) i)) (exponents_from 2 3) ≡ 8 ∷ 15 ∷ 15 ∷ []
unfolding digits number plus minus times top up times_x product shape shape_of size coefficients add mul pow value_at first_from first_that root embed value_in exponents_from root_of_unity
bch_values = refl

pub bch_syndromes : map (syndrome_at Gf4 (bch_form Gf16 5 2 4) (1 ∷ 2 ∷ 0 ∷ 3 ∷ 1 ∷ [])) (0 ∷ 1 ∷ 2 ∷ []) ≡ 8 ∷ 15 ∷ 15 ∷ []
unfolding digits number plus minus times top up times_x product shape shape_of size coefficients add mul pow value_at first_from first_that root embed word_dot below check_row syndrome_at root_of_unity bch_form
bch_syndromes = refl

-- b counts modulo the length
pub bch_periodic : bch_form Gf16 5 7 4 ≡ bch_form Gf16 5 2 4
unfolding digits number plus minus times top up times_x product shape shape_of size coefficients mul pow below root_of_unity bch_form
bch_periodic = refl

pub bch_word : IsBchWord Gf2 Gf16 15 1 5 (1 ∷ 0 ∷ 0 ∷ 0 ∷ 0 ∷ 0 ∷ 0 ∷ 1 ∷ 0 ∷ 0 ∷ 0 ∷ 1 ∷ 0 ∷ 1 ∷ 1 ∷ [])
unfolding digits number plus minus times top up times_x product shape shape_of size coefficients add mul pow value_at first_from first_that root embed value_in exponents_from root_of_unity
bch_word zero d l = refl
bch_word (suc zero) d l = refl
bch_word (suc (suc zero)) d l = refl
bch_word (suc (suc (suc zero))) d l = refl
bch_word (suc (suc (suc (suc k)))) d l = absurd (omega (arith, l))

pub goppa_points : goppa_form Gf8 (1 ∷ 1 ∷ 1 ∷ []) (0 ∷ 1 ∷ 2 ∷ 3 ∷ 4 ∷ 5 ∷ 6 ∷ 7 ∷ []) ≡ record { locator = Gf8; points = 0 ∷ 1 ∷ 2 ∷ 3 ∷ 4 ∷ 5 ∷ 6 ∷ 7 ∷ []; multipliers = 1 ∷ 1 ∷ 4 ∷ 4 ∷ 6 ∷ 6 ∷ 2 ∷ 2 ∷ []; r = 2 }
unfolding digits number plus minus times top up times_x product shape shape_of size coefficients add mul value_at first_from first_that inverse goppa_multipliers goppa_form
goppa_points = refl

pub checks : check_row Gf5 (0 ∷ 1 ∷ 2 ∷ []) (3 ∷ 1 ∷ 4 ∷ []) 0 ∷ check_row Gf5 (0 ∷ 1 ∷ 2 ∷ []) (3 ∷ 1 ∷ 4 ∷ []) 2 ∷ [] ≡ (3 ∷ 1 ∷ 4 ∷ []) ∷ (0 ∷ 1 ∷ 1 ∷ []) ∷ []
unfolding digits number plus minus times top up times_x product shape shape_of coefficients mul pow check_row
checks = refl

pub inverses : map (inverse Gf9) (1 ∷ 2 ∷ 3 ∷ 4 ∷ 5 ∷ 6 ∷ 7 ∷ 8 ∷ []) ≡ 1 ∷ 2 ∷ 5 ∷ 8 ∷ 3 ∷ 7 ∷ 6 ∷ 4 ∷ []
unfolding digits number plus minus times top up times_x product shape shape_of size coefficients mul first_from first_that inverse
inverses = refl

pub places_left_out : without (0 ∷ 2 ∷ []) (5 ∷ 6 ∷ 7 ∷ 8 ∷ []) ∷ without [] (5 ∷ 6 ∷ []) ∷ without (3 ∷ []) (5 ∷ 6 ∷ 7 ∷ 8 ∷ []) ∷ [] ≡ (6 ∷ 8 ∷ []) ∷ (5 ∷ 6 ∷ []) ∷ (5 ∷ 6 ∷ 7 ∷ []) ∷ []
unfolding without_from without
places_left_out = refl

pub tensors : tensor Gf5 (2 ∷ 0 ∷ 3 ∷ []) (1 ∷ 4 ∷ []) ≡ 2 ∷ 3 ∷ 0 ∷ 0 ∷ 3 ∷ 2 ∷ []
unfolding digits number plus minus times top up times_x product shape shape_of coefficients mul scale tensor
tensors = refl

-- the elements c_0 + c_1 γ of the field of 16 elements, for all c_0 and c_1 of that of 4: each of the 16 once
pub expansions : map (λ cs. value_at Gf16 (map (embed Gf4 Gf16) cs) (shape_of Gf16).primitive) (all_lists 4 2) ≡ 0 ∷ 2 ∷ 12 ∷ 14 ∷ 1 ∷ 3 ∷ 13 ∷ 15 ∷ 6 ∷ 4 ∷ 10 ∷ 8 ∷ 7 ∷ 5 ∷ 11 ∷ 9 ∷ []
unfolding digits number plus minus times top up times_x product shape shape_of size coefficients add mul value_at first_from first_that root embed below all_lists
expansions = refl

-- two codes over 3 elements, of lengths 3 and 2, and one of length 2 over 9
abbrev pub plane : Matrix
plane = record { field = Gf3; columns = 3; rows = (1 ∷ 0 ∷ 2 ∷ []) ∷ (0 ∷ 1 ∷ 1 ∷ []) ∷ [] }

abbrev pub line : Matrix
line = record { field = Gf3; columns = 2; rows = (1 ∷ 2 ∷ []) ∷ [] }

abbrev pub twice : Matrix
twice = record { field = Gf9; columns = 2; rows = (1 ∷ 1 ∷ []) ∷ [] }

in_plane : InCode plane (2 ∷ 1 ∷ 2 ∷ [])
unfolding digits number plus minus times top up times_x product shape shape_of size coefficients add mul word_sum scale below words
in_plane = word_of_member Gf3 3 plane.rows (2 ∷ 1 ∷ 2 ∷ []) (7, omega arith, refl)

in_plane_too : InCode plane (0 ∷ 1 ∷ 1 ∷ [])
unfolding digits number plus minus times top up times_x product shape shape_of size coefficients add mul word_sum scale below words
in_plane_too = word_of_member Gf3 3 plane.rows (0 ∷ 1 ∷ 1 ∷ []) (1, omega arith, refl)

in_line : InCode line (1 ∷ 2 ∷ [])
unfolding digits number plus minus times top up times_x product shape shape_of size coefficients add mul word_sum scale below words
in_line = word_of_member Gf3 2 line.rows (1 ∷ 2 ∷ []) (1, omega arith, refl)

in_twice : InCode twice (7 ∷ 7 ∷ [])
unfolding digits number plus minus times top up times_x product shape shape_of size coefficients add mul word_sum scale below words
in_twice = word_of_member Gf9 2 twice.rows (7 ∷ 7 ∷ []) (7, omega arith, refl)

pub extended_word : InExtended plane (2 ∷ 1 ∷ 2 ∷ 1 ∷ [])
unfolding digits number plus minus shape shape_of coefficients add neg symbol_sum
extended_word = (2 ∷ 1 ∷ 2 ∷ [], in_plane, refl)

pub punctured_word : InPunctured plane (1 ∷ []) (2 ∷ 2 ∷ [])
unfolding without_from without
punctured_word = (2 ∷ 1 ∷ 2 ∷ [], in_plane, refl)

zero_first : All (λ p. slice_index (0 ∷ 1 ∷ 1 ∷ []) p ≡ 0) (0 ∷ [])
zero_first zero d l = refl
zero_first (suc k) d l = absurd (omega (arith, l))

pub shortened_word : InShortened plane (0 ∷ []) (1 ∷ 1 ∷ [])
unfolding without_from without
shortened_word = (0 ∷ 1 ∷ 1 ∷ [], in_plane_too, zero_first, refl)

pub sum_word : InDirectSum plane line (2 ∷ 1 ∷ 2 ∷ 1 ∷ 2 ∷ [])
sum_word = (2 ∷ 1 ∷ 2 ∷ [], (1 ∷ 2 ∷ [], in_plane, in_line, refl))

pub uuv_word : InUuv plane plane (2 ∷ 1 ∷ 2 ∷ 2 ∷ 2 ∷ 0 ∷ [])
unfolding digits number plus shape shape_of coefficients add word_sum
uuv_word = (2 ∷ 1 ∷ 2 ∷ [], (0 ∷ 1 ∷ 1 ∷ [], in_plane, in_plane_too, refl))

one_tensor : All (λ row. (u : List ℕ) × ((v : List ℕ) × InCode plane u × InCode line v × (row ≡ tensor Gf3 u v))) ((2 ∷ 1 ∷ 1 ∷ 2 ∷ 2 ∷ 1 ∷ []) ∷ [])
unfolding digits number plus minus times top up times_x product shape shape_of coefficients mul scale tensor
one_tensor zero d l = (2 ∷ 1 ∷ 2 ∷ [], (1 ∷ 2 ∷ [], in_plane, in_line, refl))
one_tensor (suc k) d l = absurd (omega (arith, l))

-- twice a word u_i v_j
pub product_word : InDirectProduct plane line (1 ∷ 2 ∷ 2 ∷ 1 ∷ 1 ∷ 2 ∷ [])
unfolding digits number plus minus times top up times_x product shape shape_of size coefficients add mul word_sum scale below words
product_word = ((2 ∷ 1 ∷ 1 ∷ 2 ∷ 2 ∷ 1 ∷ []) ∷ [], one_tensor, word_of_member Gf3 6 ((2 ∷ 1 ∷ 1 ∷ 2 ∷ 2 ∷ 1 ∷ []) ∷ []) (1 ∷ 2 ∷ 2 ∷ 1 ∷ 1 ∷ 2 ∷ []) (2, omega arith, refl))

two_fit : Fits Gf3 (1 ∷ 2 ∷ [])
unfolding shape shape_of size
two_fit zero l = omega arith
two_fit (suc zero) l = omega arith
two_fit (suc (suc i)) l = absurd (omega (arith, l))

-- 7 is 1 + 2 γ in the field of 9 elements, so it is replaced by row 0 of the plane and twice row 1
pub replaced : InConcatenated twice plane (1 ∷ 2 ∷ 1 ∷ 1 ∷ 2 ∷ 1 ∷ [])
unfolding digits number plus minus times top up times_x product shape shape_of size coefficients add mul value_at first_from first_that root embed word_sum scale combine
replaced =
    let w : IsWord Gf3 2 (1 ∷ 2 ∷ []) = record { long = refl; fits = two_fit } in
    (7 ∷ 7 ∷ [], in_twice, (1 ∷ 2 ∷ 1 ∷ [], (1 ∷ 2 ∷ 1 ∷ [], (1 ∷ 2 ∷ [], w, refl, refl), (1 ∷ 2 ∷ 1 ∷ [], ([], (1 ∷ 2 ∷ [], w, refl, refl), refl, refl)), refl)))

pub within_one : words_within (record { field = Gf2; columns = 3; rows = (1 ∷ 1 ∷ 0 ∷ []) ∷ (0 ∷ 1 ∷ 1 ∷ []) ∷ [] }) (1 ∷ 0 ∷ 0 ∷ []) 1 ≡ (0 ∷ 0 ∷ 0 ∷ []) ∷ (1 ∷ 1 ∷ 0 ∷ []) ∷ (1 ∷ 0 ∷ 1 ∷ []) ∷ []
unfolding digits number plus minus times top up times_x product shape shape_of size coefficients add neg mul word_sum scale difference below words words_within
within_one = refl

-- what a look through the list of words tells of the nearest one
pub nearest_from_words : (C : Matrix) (x w : List ℕ) → Contains (words C.field C.columns C.rows) w → list_all (λ v. no_later_test (difference C.field x w) (difference C.field x v)) (words C.field C.columns C.rows) ≡ true → IsNearest C x w
nearest_from_words C x w c h =
    record {
      inside = word_of_member C.field C.columns C.rows w c;
      first = λ v k. no_later_from_test (difference C.field x w) (difference C.field x v) (All-contains (λ v. no_later_test (difference C.field x w) (difference C.field x v) ≡ true) (words C.field C.columns C.rows) v (AllPass-from_list_all (λ v. no_later_test (difference C.field x w) (difference C.field x v)) (words C.field C.columns C.rows) h) (member_of_word C.field C.columns C.rows v k));
    }

-- of two words at distance 1 the one with the error (0, 2, 0), which comes before (2, 0, 0)
pub tie : IsNearest (record { field = Gf3; columns = 3; rows = (1 ∷ 2 ∷ 0 ∷ []) ∷ [] }) (1 ∷ 1 ∷ 0 ∷ []) (1 ∷ 2 ∷ 0 ∷ [])
unfolding digits number plus minus times top up times_x product shape shape_of size coefficients add neg mul word_sum scale difference below words at_most_test
tie = nearest_from_words (record { field = Gf3; columns = 3; rows = (1 ∷ 2 ∷ 0 ∷ []) ∷ [] }) (1 ∷ 1 ∷ 0 ∷ []) (1 ∷ 2 ∷ 0 ∷ []) (1, omega arith, refl) refl

-- 1 + x^2 is (1 + x) x^2 modulo x^3 - 1, and its product with 1 + x + x^2 is (1 + x) (x^3 - 1)
word_101 : IsWord Gf2 3 (1 ∷ 0 ∷ 1 ∷ [])
unfolding shape shape_of size
word_101 = word_cons Gf2 2 1 (0 ∷ 1 ∷ []) (omega arith) (word_cons Gf2 1 0 (1 ∷ []) (omega arith) (word_cons Gf2 0 1 [] (omega arith) (IsWord_zero Gf2 0)))

word_001 : IsWord Gf2 3 (0 ∷ 0 ∷ 1 ∷ [])
unfolding shape shape_of size
word_001 = word_cons Gf2 2 0 (0 ∷ 1 ∷ []) (omega arith) (word_cons Gf2 1 0 (1 ∷ []) (omega arith) (word_cons Gf2 0 1 [] (omega arith) (IsWord_zero Gf2 0)))

unit_polynomial : IsPolynomial Gf2 (1 ∷ [])
unfolding shape shape_of size
unit_polynomial = record { fits = (word_cons Gf2 0 1 [] (omega arith) (IsWord_zero Gf2 0)).fits; leads = λ l. omega arith }

sum_polynomial : IsPolynomial Gf2 (1 ∷ 1 ∷ [])
unfolding shape shape_of size
sum_polynomial = record { fits = (word_cons Gf2 1 1 (1 ∷ []) (omega arith) (word_cons Gf2 0 1 [] (omega arith) (IsWord_zero Gf2 0))).fits; leads = λ l. omega arith }

pub multiple_word : IsMultipleOf Gf2 3 (1 ∷ 1 ∷ []) (1 ∷ 0 ∷ 1 ∷ [])
unfolding digits number plus minus times top up times_x product shape shape_of coefficients add neg mul poly_sum poly_scale poly_product x_power_minus_one
multiple_word = (0 ∷ 0 ∷ 1 ∷ [], word_001, record { word = word_101; multiple = (1 ∷ [], unit_polynomial, (λ i. refl)) })

pub checked_word : IsCheckedBy Gf2 3 (1 ∷ 1 ∷ 1 ∷ []) (1 ∷ 0 ∷ 1 ∷ [])
unfolding digits number plus minus times top up times_x product shape shape_of coefficients add neg mul poly_sum poly_scale poly_product x_power_minus_one
checked_word = record { word = IsWord_zero Gf2 3; multiple = (1 ∷ 1 ∷ [], sum_polynomial, (λ i. refl)) }

pub reed_solomon_word : IsReedSolomonWord Gf5 3 (1 ∷ 0 ∷ 3 ∷ 4 ∷ [])
unfolding digits number plus minus times top up times_x product shape shape_of size coefficients add mul pow value_at first_from first_that root embed value_in exponents_from
reed_solomon_word zero d l = refl
reed_solomon_word (suc zero) d l = refl
reed_solomon_word (suc (suc k)) d l = absurd (omega (arith, l))

pub reed_solomon_form_word : IsAlternantWord Gf5 (bch_form Gf5 4 1 3) (1 ∷ 0 ∷ 3 ∷ 4 ∷ [])
unfolding digits number plus minus times top up times_x product shape shape_of size coefficients add mul pow value_at first_from first_that root embed word_dot below check_row syndrome_at root_of_unity bch_form
reed_solomon_form_word zero l = refl
reed_solomon_form_word (suc zero) l = refl
reed_solomon_form_word (suc (suc j)) l = absurd (omega (arith, l))

pub goppa_code_word : IsGoppaWord Gf2 Gf8 (1 ∷ 1 ∷ 1 ∷ []) (0 ∷ 1 ∷ 2 ∷ 3 ∷ 4 ∷ 5 ∷ 6 ∷ 7 ∷ []) (1 ∷ 1 ∷ 0 ∷ 1 ∷ 0 ∷ 1 ∷ 0 ∷ 1 ∷ [])
unfolding digits number plus minus times top up times_x product shape shape_of size coefficients add mul pow value_at first_from first_that root embed word_dot inverse check_row goppa_multipliers goppa_sum
goppa_code_word zero l = refl
goppa_code_word (suc zero) l = refl
goppa_code_word (suc (suc j)) l = absurd (omega (arith, l))

pub even_word : InEvenWeight (record { field = Gf2; columns = 3; rows = (1 ∷ 0 ∷ 0 ∷ []) ∷ (0 ∷ 1 ∷ 1 ∷ []) ∷ [] }) (0 ∷ 1 ∷ 1 ∷ [])
unfolding digits number plus minus times top up times_x product shape shape_of size coefficients add mul word_sum scale below words
even_word = (word_of_member Gf2 3 ((1 ∷ 0 ∷ 0 ∷ []) ∷ (0 ∷ 1 ∷ 1 ∷ []) ∷ []) (0 ∷ 1 ∷ 1 ∷ []) (1, omega arith, refl), refl)
