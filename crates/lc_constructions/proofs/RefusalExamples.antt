-- The refusals of calls, evaluated.
use Rattle.std.proofs.Common.{◌≡◌, true, false, [], ◌∷◌, Some, None, refl}
use Rattle.lc_algebra.specs.declared.FieldName.TheVariants.{Gf2, Gf3, Gf4, Gf8, Gf16, Gf25}
use Rattle.lc_algebra.specs.Field.{shape, shape_of, size, is_symbol, coefficients, add, mul}
use Rattle.lc_algebra.specs.Residue.{digits, number, plus, minus, times, top, up, times_x, product}
use Rattle.lc_algebra.specs.Polynomial.{value_at, put_on, trimmed}
use Rattle.lc_algebra.specs.Embedding.{is_subfield, first_from, first_that}
use Rattle.lc_algebra.specs.Span.{below}
use Rattle.lc_algebra.specs.Matrix.{Matrix}
use Rattle.lc_constructions.specs.declared.refusal.CodeRefusal.TheVariants.{BadLength, BadArgument, NotADivisor, NoRoot, BadDelta, NoFieldOfLength, RepeatedPoint, RootAt, NotASubfield, FieldsDiffer, LengthsDiffer, BadPositions, InnerDimension, FieldTooLarge}
use Rattle.lc_constructions.specs.Code.{is_length}
use Rattle.lc_constructions.specs.Basic.{hamming_length}
use Rattle.lc_constructions.specs.Cyclic.{all_fields, locator_field}
use Rattle.lc_constructions.specs.Refusal.{refuse_if, first_refusal}
use Rattle.lc_constructions.specs.Refusals.{columns_of, are_elements, have_elements, are_equally_long, is_rising, too_large, bad_length, bad_argument, not_subfield, first_index, repeated_point, root_at, fields_differ, lengths_differ, matrix_refusals, length_refusals, hamming_refusals, reed_muller_refusals, cyclic_refusals, bch_refusals, is_size_of_symbol_field, reed_solomon_refusals, is_goppa_polynomial, goppa_refusals, form_refusals, alternant_refusals, extended_refusals, deleted_refusals, even_weight_refusals, direct_sum_refusals, uuv_refusals, direct_product_refusals, intersection_refusals, degree_over, nested_refusals, concatenated_refusals}

-- ---- plain families

pub uneven_rows : first_refusal (matrix_refusals Gf2 ((1 ∷ 0 ∷ []) ∷ (1 ∷ []) ∷ [])) ≡ Some LengthsDiffer
unfolding shape shape_of size is_symbol is_length columns_of are_equally_long have_elements are_elements too_large bad_length bad_argument refuse_if first_refusal matrix_refusals
uneven_rows = refl

pub no_element : first_refusal (matrix_refusals Gf2 ((1 ∷ 2 ∷ []) ∷ [])) ≡ Some (BadArgument 1)
unfolding shape shape_of size is_symbol is_length columns_of are_equally_long have_elements are_elements too_large bad_length bad_argument refuse_if first_refusal matrix_refusals
no_element = refl

pub no_rows : first_refusal (matrix_refusals Gf2 []) ≡ Some BadLength
unfolding shape shape_of size is_symbol is_length columns_of are_equally_long have_elements are_elements too_large bad_length bad_argument refuse_if first_refusal matrix_refusals
no_rows = refl

pub large_field : first_refusal (length_refusals Gf25 256) ≡ Some FieldTooLarge
unfolding shape shape_of size is_symbol is_length too_large bad_length refuse_if first_refusal length_refusals
large_field = refl

pub length_255 : first_refusal (length_refusals Gf16 255) ≡ None
unfolding shape shape_of size is_symbol is_length too_large bad_length refuse_if first_refusal length_refusals
length_255 = refl

pub one_check : first_refusal (hamming_refusals Gf2 1) ≡ Some (BadArgument 1)
unfolding shape shape_of size is_symbol is_length hamming_length too_large bad_length bad_argument refuse_if first_refusal hamming_refusals
one_check = refl

pub nine_checks : first_refusal (hamming_refusals Gf2 9) ≡ Some BadLength
unfolding shape shape_of size is_symbol is_length hamming_length too_large bad_length bad_argument refuse_if first_refusal hamming_refusals
nine_checks = refl

pub high_order : first_refusal (reed_muller_refusals 4 3) ≡ Some (BadArgument 1)
unfolding is_length bad_length bad_argument refuse_if first_refusal reed_muller_refusals
high_order = refl

-- ---- cyclic codes and codes by an alternant form

pub zero_polynomial : first_refusal (cyclic_refusals Gf2 (0 ∷ 0 ∷ []) 3 true) ≡ Some (BadArgument 1)
unfolding shape shape_of size is_symbol is_length put_on trimmed are_elements too_large bad_length bad_argument refuse_if first_refusal cyclic_refusals
zero_polynomial = refl

pub no_divisor : first_refusal (cyclic_refusals Gf2 (1 ∷ 1 ∷ 1 ∷ []) 4 false) ≡ Some NotADivisor
unfolding shape shape_of size is_symbol is_length put_on trimmed are_elements too_large bad_length bad_argument refuse_if first_refusal cyclic_refusals
no_divisor = refl

pub no_root : first_refusal (bch_refusals Gf2 4 3) ≡ Some NoRoot
unfolding shape shape_of size is_symbol is_length is_subfield all_fields locator_field too_large bad_length refuse_if first_refusal bch_refusals
no_root = refl

pub far_apart : first_refusal (bch_refusals Gf2 15 16) ≡ Some BadDelta
unfolding shape shape_of size is_symbol is_length is_subfield all_fields locator_field too_large bad_length refuse_if first_refusal bch_refusals
far_apart = refl

pub no_field : first_refusal (reed_solomon_refusals 5 2) ≡ Some NoFieldOfLength
unfolding shape shape_of size is_symbol all_fields is_size_of_symbol_field refuse_if first_refusal reed_solomon_refusals
no_field = refl

pub large_locator : first_refusal (reed_solomon_refusals 24 2) ≡ Some NoFieldOfLength
unfolding shape shape_of size is_symbol all_fields is_size_of_symbol_field refuse_if first_refusal reed_solomon_refusals
large_locator = refl

pub delta_0 : first_refusal (reed_solomon_refusals 4 0) ≡ Some BadDelta
unfolding shape shape_of size is_symbol all_fields is_size_of_symbol_field refuse_if first_refusal reed_solomon_refusals
delta_0 = refl

pub second_point : first_refusal (goppa_refusals Gf2 Gf8 (1 ∷ 1 ∷ 1 ∷ []) (0 ∷ 1 ∷ 1 ∷ [])) ≡ Some (RepeatedPoint 1 2)
unfolding shape shape_of size is_symbol is_length is_subfield put_on trimmed are_elements is_goppa_polynomial first_from first_that below too_large bad_length bad_argument not_subfield first_index repeated_point root_at refuse_if first_refusal goppa_refusals
second_point = refl

-- 0 comes again at index 3 before 1 comes again at index 4
pub two_repeat : first_refusal (goppa_refusals Gf2 Gf8 (1 ∷ 1 ∷ 1 ∷ []) (1 ∷ 0 ∷ 2 ∷ 0 ∷ 1 ∷ [])) ≡ Some (RepeatedPoint 1 3)
unfolding shape shape_of size is_symbol is_length is_subfield put_on trimmed are_elements is_goppa_polynomial first_from first_that below too_large bad_length bad_argument not_subfield first_index repeated_point root_at refuse_if first_refusal goppa_refusals
two_repeat = refl

pub root_at_1 : first_refusal (goppa_refusals Gf2 Gf8 (0 ∷ 1 ∷ []) (1 ∷ 0 ∷ [])) ≡ Some (RootAt 1)
unfolding digits number plus minus times top up times_x product shape shape_of size is_symbol coefficients add mul value_at is_length is_subfield put_on trimmed are_elements is_goppa_polynomial first_from first_that below too_large bad_length bad_argument not_subfield first_index repeated_point root_at refuse_if first_refusal goppa_refusals
root_at_1 = refl

pub degree_0 : first_refusal (goppa_refusals Gf2 Gf8 (1 ∷ 0 ∷ []) (1 ∷ 0 ∷ [])) ≡ Some (BadArgument 1)
unfolding shape shape_of size is_symbol is_length is_subfield put_on trimmed are_elements is_goppa_polynomial too_large bad_length bad_argument not_subfield refuse_if first_refusal goppa_refusals
degree_0 = refl

pub no_subfield : first_refusal (alternant_refusals Gf4 Gf8 1 (0 ∷ []) (1 ∷ [])) ≡ Some NotASubfield
unfolding shape shape_of size is_symbol is_subfield too_large not_subfield refuse_if first_refusal form_refusals alternant_refusals
no_subfield = refl

pub few_multipliers : first_refusal (alternant_refusals Gf2 Gf8 0 (0 ∷ 1 ∷ []) (1 ∷ [])) ≡ Some LengthsDiffer
unfolding shape shape_of size is_symbol is_subfield is_length too_large bad_length bad_argument not_subfield refuse_if first_refusal form_refusals alternant_refusals
few_multipliers = refl

pub no_checks : first_refusal (alternant_refusals Gf2 Gf8 0 (0 ∷ 1 ∷ []) (1 ∷ 1 ∷ [])) ≡ Some (BadArgument 1)
unfolding shape shape_of size is_symbol is_subfield is_length too_large bad_length bad_argument not_subfield refuse_if first_refusal form_refusals alternant_refusals
no_checks = refl

pub zero_multiplier : first_refusal (alternant_refusals Gf2 Gf8 1 (0 ∷ 0 ∷ []) (1 ∷ 0 ∷ [])) ≡ Some (BadArgument 3)
unfolding shape shape_of size is_symbol is_subfield is_length are_elements too_large bad_length bad_argument not_subfield refuse_if first_refusal form_refusals alternant_refusals
zero_multiplier = refl

-- ---- combinators

abbrev plane : Matrix
plane = record { field = Gf3; columns = 3; rows = (1 ∷ 0 ∷ 2 ∷ []) ∷ (0 ∷ 1 ∷ 1 ∷ []) ∷ [] }

abbrev pair : Matrix
pair = record { field = Gf3; columns = 2; rows = (1 ∷ 1 ∷ []) ∷ [] }

abbrev bits : Matrix
bits = record { field = Gf2; columns = 3; rows = (1 ∷ 1 ∷ 1 ∷ []) ∷ [] }

abbrev quaternary : Matrix
quaternary = record { field = Gf4; columns = 3; rows = (1 ∷ 1 ∷ 1 ∷ []) ∷ [] }

abbrev long : Matrix
long = record { field = Gf3; columns = 255; rows = [] }

pub too_long : first_refusal (extended_refusals long) ≡ Some BadLength
unfolding is_length bad_length refuse_if first_refusal extended_refusals
too_long = refl

pub all_coordinates : first_refusal (deleted_refusals pair (0 ∷ 1 ∷ [])) ≡ Some BadPositions
unfolding is_rising refuse_if first_refusal deleted_refusals
all_coordinates = refl

pub falling_coordinates : first_refusal (deleted_refusals plane (1 ∷ 0 ∷ [])) ≡ Some BadPositions
unfolding is_rising refuse_if first_refusal deleted_refusals
falling_coordinates = refl

pub outside : first_refusal (deleted_refusals plane (3 ∷ [])) ≡ Some BadPositions
unfolding is_rising refuse_if first_refusal deleted_refusals
outside = refl

pub no_coordinates : first_refusal (deleted_refusals plane []) ≡ None
unfolding is_rising refuse_if first_refusal deleted_refusals
no_coordinates = refl

pub not_binary : first_refusal (even_weight_refusals plane) ≡ Some (BadArgument 1)
unfolding shape shape_of size bad_argument refuse_if first_refusal even_weight_refusals
not_binary = refl

pub two_fields : first_refusal (direct_sum_refusals plane bits) ≡ Some FieldsDiffer
unfolding shape shape_of size is_length bad_length fields_differ refuse_if first_refusal direct_sum_refusals
two_fields = refl

pub two_lengths : first_refusal (uuv_refusals plane pair) ≡ Some LengthsDiffer
unfolding shape shape_of size is_length bad_length fields_differ lengths_differ refuse_if first_refusal uuv_refusals
two_lengths = refl

pub long_product : first_refusal (direct_product_refusals long pair) ≡ Some BadLength
unfolding shape shape_of size is_length bad_length fields_differ refuse_if first_refusal direct_product_refusals
long_product = refl

pub two_lengths_too : first_refusal (intersection_refusals plane pair) ≡ Some LengthsDiffer
unfolding shape shape_of size fields_differ lengths_differ refuse_if first_refusal intersection_refusals
two_lengths_too = refl

pub inner_dimension : first_refusal (concatenated_refusals quaternary bits) ≡ Some (InnerDimension 1 2)
unfolding shape shape_of size is_length bad_length degree_over nested_refusals refuse_if first_refusal concatenated_refusals
inner_dimension = refl

pub no_power : first_refusal (concatenated_refusals plane bits) ≡ Some FieldsDiffer
unfolding shape shape_of size degree_over nested_refusals refuse_if first_refusal concatenated_refusals
no_power = refl
