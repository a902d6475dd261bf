-- Worked examples of the search, by evaluation of the definitions, on the Hamming code of length 7 and dimension 4.
--   supports_of_two      the supports of weight 2 among 4 places
--   ternary_messages     the messages of weight 2 of length 2 over 3 elements
--   sets                 its two information sets with their fresh columns
--   second_generator     the generator matrix that is the identity on the second set
--   answer_0, answer_1, answer_any      its answers for a budget of 0, of 1 and of 2^20 blocks
use Rattle.std.proofs.Common.{◌≡◌, refl}
use Rattle.std.specs.Prelude.{List, [], ◌∷◌, map, ◌^◌}
use Rattle.lc_algebra.specs.declared.FieldName.TheVariants.{Gf2}
use Rattle.lc_algebra.specs.Residue.{digits, number, plus, minus, times, top, up, times_x, product}
use Rattle.lc_algebra.specs.Field.{shape, shape_of, size, coefficients, add, mul}
use Rattle.lc_algebra.specs.Word.{word_sum, scale}
use Rattle.lc_algebra.specs.Span.{below, combine, words}
use Rattle.lc_algebra.specs.Matrix.{Matrix}
use Rattle.lc_algebra.specs.Divisor.{rounded}
use Rattle.lc_enumeration.specs.Message.{supports, supports_from, numbers_from, nonzero_lists, leading_lists, messages, vector_from, vector_of, choose, message_count}
use Rattle.lc_enumeration.specs.Plan.{cut, phase_level, phase_set, level_blocks, blocks_before, total, phase_at, phase_ends, block_messages, place_of, plan_phases, phase_of}
use Rattle.lc_enumeration.specs.InformationSet.{InformationSet, same_word, in_span, greedy, is_member, first_basis, columns_in_order, with_fresh, next_set, sets_after, information_sets, unit_word, systematic}
use Rattle.lc_enumeration.specs.Search.{exact, bracket, Found, sets_of, set_count, ranks_of, generator_at, word_of, beats, found_along, found_in_block, block_words, found_from, least_of, found_first, found_below, best, last_that, is_whole_below, level_below, levels_below, bound_sum, bound_of, bound, is_done, ends_of, answer_at, answer, may_end, finished}

pub supports_of_two : supports 4 2 ≡ (0 ∷ 1 ∷ []) ∷ (0 ∷ 2 ∷ []) ∷ (0 ∷ 3 ∷ []) ∷ (1 ∷ 2 ∷ []) ∷ (1 ∷ 3 ∷ []) ∷ (2 ∷ 3 ∷ []) ∷ []
unfolding supports supports_from
supports_of_two = refl

pub ternary_messages : map (vector_of 2) (messages 2 3 2) ≡ (1 ∷ 1 ∷ []) ∷ (1 ∷ 2 ∷ []) ∷ []
unfolding supports supports_from numbers_from nonzero_lists leading_lists messages vector_from vector_of
ternary_messages = refl

abbrev pub hamming : Matrix
hamming = record {
  field = Gf2;
  columns = 7;
  rows = (1 ∷ 0 ∷ 0 ∷ 0 ∷ 0 ∷ 1 ∷ 1 ∷ []) ∷ (0 ∷ 1 ∷ 0 ∷ 0 ∷ 1 ∷ 0 ∷ 1 ∷ []) ∷ (0 ∷ 0 ∷ 1 ∷ 0 ∷ 1 ∷ 1 ∷ 0 ∷ []) ∷ (0 ∷ 0 ∷ 0 ∷ 1 ∷ 1 ∷ 1 ∷ 1 ∷ []) ∷ [];
}

abbrev pub both_sets : List InformationSet
both_sets = record { basis = 0 ∷ 1 ∷ 2 ∷ 3 ∷ []; fresh = 0 ∷ 1 ∷ 2 ∷ 3 ∷ [] } ∷ record { basis = 0 ∷ 4 ∷ 5 ∷ 6 ∷ []; fresh = 4 ∷ 5 ∷ 6 ∷ [] } ∷ []

pub sets : sets_of hamming ≡ both_sets
unfolding digits number plus minus times top up times_x product shape shape_of size coefficients add mul word_sum scale below words same_word in_span greedy is_member first_basis columns_in_order with_fresh next_set sets_after information_sets sets_of
sets = refl

pub second_generator : generator_at hamming 1 ≡ (1 ∷ 1 ∷ 1 ∷ 0 ∷ 0 ∷ 0 ∷ 0 ∷ []) ∷ (0 ∷ 1 ∷ 1 ∷ 1 ∷ 1 ∷ 0 ∷ 0 ∷ []) ∷ (0 ∷ 1 ∷ 0 ∷ 1 ∷ 0 ∷ 1 ∷ 0 ∷ []) ∷ (0 ∷ 0 ∷ 1 ∷ 1 ∷ 0 ∷ 0 ∷ 1 ∷ []) ∷ []
unfolding digits number plus minus times top up times_x product shape shape_of size coefficients add mul word_sum scale below words same_word in_span greedy is_member first_basis columns_in_order with_fresh next_set sets_after information_sets sets_of unit_word systematic generator_at
second_generator = refl

abbrev pub first_found : Found
first_found = record { weight = 3; place = 0 }

pub answer_0 : answer 1 hamming 0 ≡ bracket 1 first_found 0
unfolding digits number plus minus times top up times_x product shape shape_of size coefficients add mul word_sum scale below combine words supports supports_from numbers_from nonzero_lists leading_lists messages vector_from vector_of choose message_count cut phase_level phase_set level_blocks blocks_before total phase_at phase_ends block_messages place_of plan_phases same_word in_span greedy is_member first_basis columns_in_order with_fresh next_set sets_after information_sets unit_word systematic sets_of set_count ranks_of generator_at word_of beats found_along found_in_block block_words found_from least_of found_first found_below best last_that is_whole_below level_below levels_below bound_sum bound_of rounded bound is_done ends_of answer_at answer may_end finished phase_of
answer_0 = refl

pub answer_1 : answer 1 hamming 1 ≡ bracket 2 first_found 1
unfolding digits number plus minus times top up times_x product shape shape_of size coefficients add mul word_sum scale below combine words supports supports_from numbers_from nonzero_lists leading_lists messages vector_from vector_of choose message_count cut phase_level phase_set level_blocks blocks_before total phase_at phase_ends block_messages place_of plan_phases same_word in_span greedy is_member first_basis columns_in_order with_fresh next_set sets_after information_sets unit_word systematic sets_of set_count ranks_of generator_at word_of beats found_along found_in_block block_words found_from least_of found_first found_below best last_that is_whole_below level_below levels_below bound_sum bound_of rounded bound is_done ends_of answer_at answer may_end finished phase_of
answer_1 = refl

pub answer_any : answer 1 hamming (2 ^ 20) ≡ exact first_found 2
unfolding digits number plus minus times top up times_x product shape shape_of size coefficients add mul word_sum scale below combine words supports supports_from numbers_from nonzero_lists leading_lists messages vector_from vector_of choose message_count cut phase_level phase_set level_blocks blocks_before total phase_at phase_ends block_messages place_of plan_phases same_word in_span greedy is_member first_basis columns_in_order with_fresh next_set sets_after information_sets unit_word systematic sets_of set_count ranks_of generator_at word_of beats found_along found_in_block block_words found_from least_of found_first found_below best last_that is_whole_below level_below levels_below bound_sum bound_of rounded bound is_done ends_of answer_at answer may_end finished phase_of
answer_any = refl
