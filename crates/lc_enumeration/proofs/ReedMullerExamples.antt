-- The worked search of the first-order Reed-Muller code of length 16, by evaluation of the definitions.
--   sets_and_divisor       three sets, and weights that are divisible by 4
--   first_word             the word at place 0
--   by_divisor             distance 8 after 3 blocks, the bound being rounded up from 5
--   by_one                 with 1 for its divisor it is exact after 6 blocks only
--   by_one_bracket         with 1 for its divisor and a budget of 5 blocks its distance lies between 7 and 8
use Rattle.std.proofs.Common.{◌≡◌, refl}
use Rattle.std.specs.Prelude.{ℕ, List, [], ◌∷◌, ◌^◌, Some}
use Rattle.lc_algebra.specs.declared.FieldName.{FieldName}
use Rattle.lc_algebra.specs.declared.FieldName.TheVariants.{Gf2}
use Rattle.lc_algebra.specs.Residue.{digits, number, plus, minus, times, top, up, times_x, product}
use Rattle.lc_algebra.specs.Field.{shape, shape_of, size, coefficients, add, mul}
use Rattle.lc_algebra.specs.Word.{word_sum, scale}
use Rattle.lc_algebra.specs.Span.{below, combine, words}
use Rattle.lc_algebra.specs.Matrix.{Matrix}
use Rattle.lc_algebra.specs.Divisor.{possible_divisors, divides_weights, weight_divisor, divisor_of, rounded}
use Rattle.lc_enumeration.specs.Message.{supports, supports_from, numbers_from, nonzero_lists, leading_lists, messages, vector_from, vector_of, choose, message_count}
use Rattle.lc_enumeration.specs.Plan.{cut, phase_level, phase_set, level_blocks, blocks_before, total, phase_at, phase_ends, block_messages, place_of, phase_of}
use Rattle.lc_enumeration.specs.InformationSet.{same_word, in_span, greedy, is_member, first_basis, columns_in_order, with_fresh, next_set, sets_after, information_sets, unit_word, systematic}
use Rattle.lc_enumeration.specs.Search.{Found, exact, bracket, sets_of, set_count, ranks_of, generator_at, word_of, block_words, word_at, beats, found_along, found_in_block, found_from, least_of, found_first, found_below, best, last_that, is_whole_below, level_below, levels_below, bound_sum, bound_of, bound, is_done, ends_of, answer_at, answer, front_of, partial_words, least_in, block_least}

abbrev pub code : FieldName → ℕ → List (List ℕ) → Matrix
code f n rows = record { field = f; columns = n; rows = rows }

abbrev pub found : ℕ → ℕ → Found
found weight place = record { weight = weight; place = place }

abbrev pub reed_muller_code : Matrix
reed_muller_code = code Gf2 16 ((1 ∷ 0 ∷ 0 ∷ 1 ∷ 0 ∷ 1 ∷ 1 ∷ 0 ∷ 0 ∷ 1 ∷ 1 ∷ 0 ∷ 1 ∷ 0 ∷ 0 ∷ 1 ∷ []) ∷ (0 ∷ 1 ∷ 0 ∷ 1 ∷ 0 ∷ 1 ∷ 0 ∷ 1 ∷ 0 ∷ 1 ∷ 0 ∷ 1 ∷ 0 ∷ 1 ∷ 0 ∷ 1 ∷ []) ∷ (0 ∷ 0 ∷ 1 ∷ 1 ∷ 0 ∷ 0 ∷ 1 ∷ 1 ∷ 0 ∷ 0 ∷ 1 ∷ 1 ∷ 0 ∷ 0 ∷ 1 ∷ 1 ∷ []) ∷ (0 ∷ 0 ∷ 0 ∷ 0 ∷ 1 ∷ 1 ∷ 1 ∷ 1 ∷ 0 ∷ 0 ∷ 0 ∷ 0 ∷ 1 ∷ 1 ∷ 1 ∷ 1 ∷ []) ∷ (0 ∷ 0 ∷ 0 ∷ 0 ∷ 0 ∷ 0 ∷ 0 ∷ 0 ∷ 1 ∷ 1 ∷ 1 ∷ 1 ∷ 1 ∷ 1 ∷ 1 ∷ 1 ∷ []) ∷ [])

pub sets_and_divisor : set_count reed_muller_code ∷ divisor_of reed_muller_code ∷ [] ≡ 3 ∷ 4 ∷ []
unfolding digits number plus minus times top up times_x product shape shape_of size coefficients add mul word_sum scale below combine words supports supports_from numbers_from nonzero_lists leading_lists messages vector_from vector_of choose message_count cut phase_level phase_set level_blocks blocks_before total phase_at phase_ends block_messages place_of phase_of same_word in_span greedy is_member first_basis columns_in_order with_fresh next_set sets_after information_sets unit_word systematic sets_of set_count ranks_of generator_at word_of block_words word_at beats found_along found_in_block found_from least_of found_first found_below best last_that is_whole_below level_below levels_below bound_sum bound_of bound is_done ends_of answer_at answer front_of partial_words least_in block_least possible_divisors divides_weights weight_divisor divisor_of rounded
sets_and_divisor = refl

pub first_word : word_at reed_muller_code 3 0 ≡ Some (1 ∷ 0 ∷ 0 ∷ 1 ∷ 0 ∷ 1 ∷ 1 ∷ 0 ∷ 0 ∷ 1 ∷ 1 ∷ 0 ∷ 1 ∷ 0 ∷ 0 ∷ 1 ∷ [])
unfolding digits number plus minus times top up times_x product shape shape_of size coefficients add mul word_sum scale below combine words supports supports_from numbers_from nonzero_lists leading_lists messages vector_from vector_of choose message_count cut phase_level phase_set level_blocks blocks_before total phase_at phase_ends block_messages place_of phase_of same_word in_span greedy is_member first_basis columns_in_order with_fresh next_set sets_after information_sets unit_word systematic sets_of set_count ranks_of generator_at word_of block_words word_at beats found_along found_in_block found_from least_of found_first found_below best last_that is_whole_below level_below levels_below bound_sum bound_of bound is_done ends_of answer_at answer front_of partial_words least_in block_least possible_divisors divides_weights weight_divisor divisor_of rounded
first_word = refl

pub by_divisor : answer 4 reed_muller_code (2 ^ 20) ≡ exact (found 8 0) 3
unfolding digits number plus minus times top up times_x product shape shape_of size coefficients add mul word_sum scale below combine words supports supports_from numbers_from nonzero_lists leading_lists messages vector_from vector_of choose message_count cut phase_level phase_set level_blocks blocks_before total phase_at phase_ends block_messages place_of phase_of same_word in_span greedy is_member first_basis columns_in_order with_fresh next_set sets_after information_sets unit_word systematic sets_of set_count ranks_of generator_at word_of block_words word_at beats found_along found_in_block found_from least_of found_first found_below best last_that is_whole_below level_below levels_below bound_sum bound_of bound is_done ends_of answer_at answer front_of partial_words least_in block_least possible_divisors divides_weights weight_divisor divisor_of rounded
by_divisor = refl

pub by_one : answer 1 reed_muller_code (2 ^ 20) ≡ exact (found 8 0) 6
unfolding digits number plus minus times top up times_x product shape shape_of size coefficients add mul word_sum scale below combine words supports supports_from numbers_from nonzero_lists leading_lists messages vector_from vector_of choose message_count cut phase_level phase_set level_blocks blocks_before total phase_at phase_ends block_messages place_of phase_of same_word in_span greedy is_member first_basis columns_in_order with_fresh next_set sets_after information_sets unit_word systematic sets_of set_count ranks_of generator_at word_of block_words word_at beats found_along found_in_block found_from least_of found_first found_below best last_that is_whole_below level_below levels_below bound_sum bound_of bound is_done ends_of answer_at answer front_of partial_words least_in block_least possible_divisors divides_weights weight_divisor divisor_of rounded
by_one = refl

pub by_one_bracket : answer 1 reed_muller_code 5 ≡ bracket 7 (found 8 0) 5
unfolding digits number plus minus times top up times_x product shape shape_of size coefficients add mul word_sum scale below combine words supports supports_from numbers_from nonzero_lists leading_lists messages vector_from vector_of choose message_count cut phase_level phase_set level_blocks blocks_before total phase_at phase_ends block_messages place_of phase_of same_word in_span greedy is_member first_basis columns_in_order with_fresh next_set sets_after information_sets unit_word systematic sets_of set_count ranks_of generator_at word_of block_words word_at beats found_along found_in_block found_from least_of found_first found_below best last_that is_whole_below level_below levels_below bound_sum bound_of bound is_done ends_of answer_at answer front_of partial_words least_in block_least possible_divisors divides_weights weight_divisor divisor_of rounded
by_one_bracket = refl
