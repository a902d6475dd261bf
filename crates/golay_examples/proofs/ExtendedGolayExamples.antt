-- The worked search of the extended binary Golay code, by evaluation of the definitions.
--   extended               the extended binary Golay code of length 24, whose weights are divisible by 4: two sets; distance 8
--                          after 3 blocks
--   extended_by_one        with 1 for its divisor it is exact after 6 blocks only
use Rattle.std.proofs.Common.{◌≡◌, refl}
use Rattle.std.specs.Prelude.{ℕ, List, [], ◌∷◌, ◌^◌, Some}
use Rattle.lc_algebra.specs.declared.FieldName.{FieldName}
use Rattle.lc_algebra.specs.declared.FieldName.TheVariants.{Gf2}
use Rattle.lc_algebra.specs.Residue.{digits, number, plus, minus, times, top, up, times_x, product}
use Rattle.lc_algebra.specs.Field.{shape, shape_of, size, coefficients, add, mul}
use Rattle.lc_algebra.specs.Word.{word_sum, scale}
use Rattle.lc_algebra.specs.Span.{below, combine, words}
use Rattle.lc_algebra.specs.Matrix.{Matrix}
use Rattle.lc_algebra.specs.Divisor.{possible_divisors, divides_weights, weight_divisor, divisor_of, rounded}
use Rattle.lc_enumeration.specs.Message.{supports, supports_from, numbers_from, nonzero_lists, leading_lists, messages, vector_from, vector_of, choose, message_count}
use Rattle.lc_enumeration.specs.Plan.{cut, phase_level, phase_set, level_blocks, blocks_before, total, phase_at, phase_ends, block_messages, place_of, phase_of}
use Rattle.lc_enumeration.specs.InformationSet.{same_word, in_span, greedy, is_member, first_basis, columns_in_order, with_fresh, next_set, sets_after, information_sets, unit_word, systematic}
use Rattle.lc_enumeration.specs.Search.{Found, exact, sets_of, set_count, ranks_of, generator_at, word_of, block_words, word_at, beats, found_along, found_in_block, found_from, least_of, found_first, found_below, best, last_that, is_whole_below, level_below, levels_below, bound_sum, bound_of, bound, is_done, ends_of, answer_at, answer, front_of, partial_words, least_in, block_least}

abbrev pub code : FieldName → ℕ → List (List ℕ) → Matrix
code f n rows = record { field = f; columns = n; rows = rows }

abbrev pub found : ℕ → ℕ → Found
found weight place = record { weight = weight; place = place }

abbrev pub extended_code : Matrix
extended_code = code Gf2 24 ((1 ∷ 0 ∷ 0 ∷ 0 ∷ 0 ∷ 0 ∷ 0 ∷ 0 ∷ 0 ∷ 0 ∷ 0 ∷ 0 ∷ 1 ∷ 0 ∷ 1 ∷ 0 ∷ 1 ∷ 1 ∷ 1 ∷ 0 ∷ 0 ∷ 0 ∷ 1 ∷ 1 ∷ []) ∷ (0 ∷ 1 ∷ 0 ∷ 0 ∷ 0 ∷ 0 ∷ 0 ∷ 0 ∷ 0 ∷ 0 ∷ 0 ∷ 0 ∷ 1 ∷ 1 ∷ 1 ∷ 1 ∷ 1 ∷ 0 ∷ 0 ∷ 1 ∷ 0 ∷ 0 ∷ 1 ∷ 0 ∷ []) ∷ (0 ∷ 0 ∷ 1 ∷ 0 ∷ 0 ∷ 0 ∷ 0 ∷ 0 ∷ 0 ∷ 0 ∷ 0 ∷ 0 ∷ 1 ∷ 1 ∷ 0 ∷ 1 ∷ 0 ∷ 0 ∷ 1 ∷ 0 ∷ 1 ∷ 0 ∷ 1 ∷ 1 ∷ []) ∷ (0 ∷ 0 ∷ 0 ∷ 1 ∷ 0 ∷ 0 ∷ 0 ∷ 0 ∷ 0 ∷ 0 ∷ 0 ∷ 0 ∷ 1 ∷ 1 ∷ 0 ∷ 0 ∷ 0 ∷ 1 ∷ 1 ∷ 1 ∷ 0 ∷ 1 ∷ 1 ∷ 0 ∷ []) ∷ (0 ∷ 0 ∷ 0 ∷ 0 ∷ 1 ∷ 0 ∷ 0 ∷ 0 ∷ 0 ∷ 0 ∷ 0 ∷ 0 ∷ 1 ∷ 1 ∷ 0 ∷ 0 ∷ 1 ∷ 1 ∷ 0 ∷ 1 ∷ 1 ∷ 0 ∷ 0 ∷ 1 ∷ []) ∷ (0 ∷ 0 ∷ 0 ∷ 0 ∷ 0 ∷ 1 ∷ 0 ∷ 0 ∷ 0 ∷ 0 ∷ 0 ∷ 0 ∷ 0 ∷ 1 ∷ 1 ∷ 0 ∷ 0 ∷ 1 ∷ 1 ∷ 0 ∷ 1 ∷ 1 ∷ 0 ∷ 1 ∷ []) ∷ (0 ∷ 0 ∷ 0 ∷ 0 ∷ 0 ∷ 0 ∷ 1 ∷ 0 ∷ 0 ∷ 0 ∷ 0 ∷ 0 ∷ 0 ∷ 0 ∷ 1 ∷ 1 ∷ 0 ∷ 0 ∷ 1 ∷ 1 ∷ 0 ∷ 1 ∷ 1 ∷ 1 ∷ []) ∷ (0 ∷ 0 ∷ 0 ∷ 0 ∷ 0 ∷ 0 ∷ 0 ∷ 1 ∷ 0 ∷ 0 ∷ 0 ∷ 0 ∷ 1 ∷ 0 ∷ 1 ∷ 1 ∷ 0 ∷ 1 ∷ 1 ∷ 1 ∷ 1 ∷ 0 ∷ 0 ∷ 0 ∷ []) ∷ (0 ∷ 0 ∷ 0 ∷ 0 ∷ 0 ∷ 0 ∷ 0 ∷ 0 ∷ 1 ∷ 0 ∷ 0 ∷ 0 ∷ 0 ∷ 1 ∷ 0 ∷ 1 ∷ 1 ∷ 0 ∷ 1 ∷ 1 ∷ 1 ∷ 1 ∷ 0 ∷ 0 ∷ []) ∷ (0 ∷ 0 ∷ 0 ∷ 0 ∷ 0 ∷ 0 ∷ 0 ∷ 0 ∷ 0 ∷ 1 ∷ 0 ∷ 0 ∷ 0 ∷ 0 ∷ 1 ∷ 0 ∷ 1 ∷ 1 ∷ 0 ∷ 1 ∷ 1 ∷ 1 ∷ 1 ∷ 0 ∷ []) ∷ (0 ∷ 0 ∷ 0 ∷ 0 ∷ 0 ∷ 0 ∷ 0 ∷ 0 ∷ 0 ∷ 0 ∷ 1 ∷ 0 ∷ 1 ∷ 0 ∷ 1 ∷ 1 ∷ 1 ∷ 0 ∷ 0 ∷ 0 ∷ 1 ∷ 1 ∷ 0 ∷ 1 ∷ []) ∷ (0 ∷ 0 ∷ 0 ∷ 0 ∷ 0 ∷ 0 ∷ 0 ∷ 0 ∷ 0 ∷ 0 ∷ 0 ∷ 1 ∷ 0 ∷ 1 ∷ 0 ∷ 1 ∷ 1 ∷ 1 ∷ 0 ∷ 0 ∷ 0 ∷ 1 ∷ 1 ∷ 1 ∷ []) ∷ [])

pub extended_word : word_at extended_code 2 0 ≡ Some (1 ∷ 0 ∷ 0 ∷ 0 ∷ 0 ∷ 0 ∷ 0 ∷ 0 ∷ 0 ∷ 0 ∷ 0 ∷ 0 ∷ 1 ∷ 0 ∷ 1 ∷ 0 ∷ 1 ∷ 1 ∷ 1 ∷ 0 ∷ 0 ∷ 0 ∷ 1 ∷ 1 ∷ [])
unfolding digits number plus minus times top up times_x product shape shape_of size coefficients add mul word_sum scale below combine words supports supports_from numbers_from nonzero_lists leading_lists messages vector_from vector_of choose message_count cut phase_level phase_set level_blocks blocks_before total phase_at phase_ends block_messages place_of phase_of same_word in_span greedy is_member first_basis columns_in_order with_fresh next_set sets_after information_sets unit_word systematic sets_of set_count ranks_of generator_at word_of block_words word_at beats found_along found_in_block found_from least_of found_first found_below best last_that is_whole_below level_below levels_below bound_sum bound_of bound is_done ends_of answer_at answer front_of partial_words least_in block_least possible_divisors divides_weights weight_divisor divisor_of rounded
extended_word = refl

pub extended : answer 4 extended_code (2 ^ 20) ≡ exact (found 8 0) 3
unfolding digits number plus minus times top up times_x product shape shape_of size coefficients add mul word_sum scale below combine words supports supports_from numbers_from nonzero_lists leading_lists messages vector_from vector_of choose message_count cut phase_level phase_set level_blocks blocks_before total phase_at phase_ends block_messages place_of phase_of same_word in_span greedy is_member first_basis columns_in_order with_fresh next_set sets_after information_sets unit_word systematic sets_of set_count ranks_of generator_at word_of block_words word_at beats found_along found_in_block found_from least_of found_first found_below best last_that is_whole_below level_below levels_below bound_sum bound_of bound is_done ends_of answer_at answer front_of partial_words least_in block_least possible_divisors divides_weights weight_divisor divisor_of rounded
extended = refl

pub extended_by_one : answer 1 extended_code (2 ^ 20) ≡ exact (found 8 0) 6
unfolding digits number plus minus times top up times_x product shape shape_of size coefficients add mul word_sum scale below combine words supports supports_from numbers_from nonzero_lists leading_lists messages vector_from vector_of choose message_count cut phase_level phase_set level_blocks blocks_before total phase_at phase_ends block_messages place_of phase_of same_word in_span greedy is_member first_basis columns_in_order with_fresh next_set sets_after information_sets unit_word systematic sets_of set_count ranks_of generator_at word_of block_words word_at beats found_along found_in_block found_from least_of found_first found_below best last_that is_whole_below level_below levels_below bound_sum bound_of bound is_done ends_of answer_at answer front_of partial_words least_in block_least possible_divisors divides_weights weight_divisor divisor_of rounded
extended_by_one = refl
