-- A worked search of a larger code, by evaluation of the definitions.
--   bch                    a BCH code of length 15 and dimension 7: distance 5 after 3 blocks
use Rattle.std.proofs.Common.{◌≡◌, refl}
use Rattle.std.specs.Prelude.{ℕ, List, [], ◌∷◌, ◌^◌, Some}
use Rattle.lc_algebra.specs.declared.FieldName.{FieldName}
use Rattle.lc_algebra.specs.declared.FieldName.TheVariants.{Gf2}
use Rattle.lc_algebra.specs.Residue.{digits, number, plus, minus, times, top, up, times_x, product}
use Rattle.lc_algebra.specs.Field.{shape, shape_of, size, coefficients, add, mul}
use Rattle.lc_algebra.specs.Word.{word_sum, scale}
use Rattle.lc_algebra.specs.Span.{below, combine, words}
use Rattle.lc_algebra.specs.Matrix.{Matrix}
use Rattle.lc_algebra.specs.Divisor.{possible_divisors, divides_weights, weight_divisor, divisor_of, rounded}
use Rattle.lc_enumeration.specs.Message.{supports, supports_from, numbers_from, nonzero_lists, leading_lists, messages, vector_from, vector_of, choose, message_count}
use Rattle.lc_enumeration.specs.Plan.{cut, phase_level, phase_set, level_blocks, blocks_before, total, phase_at, phase_ends, block_messages, place_of, phase_of}
use Rattle.lc_enumeration.specs.InformationSet.{same_word, in_span, greedy, is_member, first_basis, columns_in_order, with_fresh, next_set, sets_after, information_sets, unit_word, systematic}
use Rattle.lc_enumeration.specs.Search.{Found, exact, sets_of, set_count, ranks_of, generator_at, word_of, block_words, word_at, beats, found_along, found_in_block, found_from, least_of, found_first, found_below, best, last_that, is_whole_below, level_below, levels_below, bound_sum, bound_of, bound, is_done, ends_of, answer_at, answer, front_of, partial_words, least_in, block_least}

abbrev pub code : FieldName → ℕ → List (List ℕ) → Matrix
code f n rows = record { field = f; columns = n; rows = rows }

abbrev pub found : ℕ → ℕ → Found
found weight place = record { weight = weight; place = place }

abbrev pub bch_code : Matrix
bch_code = code Gf2 15 ((1 ∷ 0 ∷ 0 ∷ 0 ∷ 0 ∷ 0 ∷ 0 ∷ 1 ∷ 0 ∷ 0 ∷ 0 ∷ 1 ∷ 0 ∷ 1 ∷ 1 ∷ []) ∷ (0 ∷ 1 ∷ 0 ∷ 0 ∷ 0 ∷ 0 ∷ 0 ∷ 1 ∷ 1 ∷ 0 ∷ 0 ∷ 1 ∷ 1 ∷ 1 ∷ 0 ∷ []) ∷ (0 ∷ 0 ∷ 1 ∷ 0 ∷ 0 ∷ 0 ∷ 0 ∷ 0 ∷ 1 ∷ 1 ∷ 0 ∷ 0 ∷ 1 ∷ 1 ∷ 1 ∷ []) ∷ (0 ∷ 0 ∷ 0 ∷ 1 ∷ 0 ∷ 0 ∷ 0 ∷ 1 ∷ 0 ∷ 1 ∷ 1 ∷ 1 ∷ 0 ∷ 0 ∷ 0 ∷ []) ∷ (0 ∷ 0 ∷ 0 ∷ 0 ∷ 1 ∷ 0 ∷ 0 ∷ 0 ∷ 1 ∷ 0 ∷ 1 ∷ 1 ∷ 1 ∷ 0 ∷ 0 ∷ []) ∷ (0 ∷ 0 ∷ 0 ∷ 0 ∷ 0 ∷ 1 ∷ 0 ∷ 0 ∷ 0 ∷ 1 ∷ 0 ∷ 1 ∷ 1 ∷ 1 ∷ 0 ∷ []) ∷ (0 ∷ 0 ∷ 0 ∷ 0 ∷ 0 ∷ 0 ∷ 1 ∷ 0 ∷ 0 ∷ 0 ∷ 1 ∷ 0 ∷ 1 ∷ 1 ∷ 1 ∷ []) ∷ [])

pub bch_sets : set_count bch_code ∷ divisor_of bch_code ∷ [] ≡ 2 ∷ 1 ∷ []
unfolding digits number plus minus times top up times_x product shape shape_of size coefficients add mul word_sum scale below combine words supports supports_from numbers_from nonzero_lists leading_lists messages vector_from vector_of choose message_count cut phase_level phase_set level_blocks blocks_before total phase_at phase_ends block_messages place_of phase_of same_word in_span greedy is_member first_basis columns_in_order with_fresh next_set sets_after information_sets unit_word systematic sets_of set_count ranks_of generator_at word_of block_words word_at beats found_along found_in_block found_from least_of found_first found_below best last_that is_whole_below level_below levels_below bound_sum bound_of bound is_done ends_of answer_at answer front_of partial_words least_in block_least possible_divisors divides_weights weight_divisor divisor_of rounded
bch_sets = refl

pub bch_word : word_at bch_code 2 0 ≡ Some (1 ∷ 0 ∷ 0 ∷ 0 ∷ 0 ∷ 0 ∷ 0 ∷ 1 ∷ 0 ∷ 0 ∷ 0 ∷ 1 ∷ 0 ∷ 1 ∷ 1 ∷ [])
unfolding digits number plus minus times top up times_x product shape shape_of size coefficients add mul word_sum scale below combine words supports supports_from numbers_from nonzero_lists leading_lists messages vector_from vector_of choose message_count cut phase_level phase_set level_blocks blocks_before total phase_at phase_ends block_messages place_of phase_of same_word in_span greedy is_member first_basis columns_in_order with_fresh next_set sets_after information_sets unit_word systematic sets_of set_count ranks_of generator_at word_of block_words word_at beats found_along found_in_block found_from least_of found_first found_below best last_that is_whole_below level_below levels_below bound_sum bound_of bound is_done ends_of answer_at answer front_of partial_words least_in block_least possible_divisors divides_weights weight_divisor divisor_of rounded
bch_word = refl

pub bch : answer 1 bch_code (2 ^ 20) ≡ exact (found 5 0) 3
unfolding digits number plus minus times top up times_x product shape shape_of size coefficients add mul word_sum scale below combine words supports supports_from numbers_from nonzero_lists leading_lists messages vector_from vector_of choose message_count cut phase_level phase_set level_blocks blocks_before total phase_at phase_ends block_messages place_of phase_of same_word in_span greedy is_member first_basis columns_in_order with_fresh next_set sets_after information_sets unit_word systematic sets_of set_count ranks_of generator_at word_of block_words word_at beats found_along found_in_block found_from least_of found_first found_below best last_that is_whole_below level_below levels_below bound_sum bound_of bound is_done ends_of answer_at answer front_of partial_words least_in block_least possible_divisors divides_weights weight_divisor divisor_of rounded
bch = refl
