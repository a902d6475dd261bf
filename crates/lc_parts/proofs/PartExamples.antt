-- Worked examples of parts, by evaluation of the definitions: the Hamming code of length 7, and a search of dimension 18 over 2
-- elements with two sets of 18 columns, which has 1 block in each phase up to level 4, and 3 in each of level 5.
--   facts, first_part, second_part      the facts of the Hamming code, and its parts of one block
--   joined                       both bring its search to its answer
--   ends                         where phases of the other search end
--   overlapping                  parts that overlap go on from each other; one that is done already is passed over
--   beyond                       a part that reaches beyond the end of a phase is passed over, and so is one after a gap
--   early                        so is one that reaches beyond the budget
--   answered, wanted             when the search is answered; and how far the next part may reach
use Rattle.std.proofs.Common.{◌≡◌, refl}
use Rattle.std.specs.Prelude.{ℕ, [], ◌∷◌, map, true, false}
use Rattle.lc_algebra.specs.Residue.{digits, number, plus, minus, times, top, up, times_x, product}
use Rattle.lc_algebra.specs.Field.{shape, shape_of, size, coefficients, add, mul}
use Rattle.lc_algebra.specs.Word.{word_sum, scale}
use Rattle.lc_algebra.specs.Span.{below, combine, words}
use Rattle.lc_algebra.specs.Divisor.{possible_divisors, divides_weights, weight_divisor, divisor_of, rounded}
use Rattle.lc_enumeration.specs.Message.{supports, supports_from, numbers_from, nonzero_lists, leading_lists, messages, vector_from, vector_of, choose, message_count}
use Rattle.lc_enumeration.specs.Plan.{cut, phase_level, phase_set, level_blocks, blocks_before, total, phase_at, phase_ends, block_messages, place_of, plan_phases, phase_of}
use Rattle.lc_enumeration.specs.InformationSet.{same_word, in_span, greedy, is_member, first_basis, columns_in_order, with_fresh, next_set, sets_after, information_sets, unit_word, systematic}
use Rattle.lc_enumeration.specs.Search.{sets_of, set_count, ranks_of, generator_at, word_of, block_words, beats, found_along, found_in_block, found_from, least_of, found_first, last_that, is_whole_below, bound_sum, bound_of}
use Rattle.lc_enumeration.specs.Records.{Progress, found_of, progress_of}
use Rattle.lc_enumeration.proofs.SearchExamples.{hamming}
use Rattle.lc_parts.specs.Part.{Part, part_end, found_in, IsTruePart, Facts, facts_of}
use Rattle.lc_parts.specs.Along.{first_by, end_by, level_by, levels_by, bound_by, may_end_by, finished_at, finished_by, is_answered, end_wanted, continues, after_part, with_part, along}

abbrev pub part : ℕ → ℕ → ℕ → ℕ → Part
part start count weight place = record { start = start; count = count; weight = weight; place = place }

abbrev pub state : ℕ → ℕ → ℕ → Progress
state blocks weight place = record { blocks = blocks; weight = weight; place = place }

abbrev pub hamming_facts : Facts
hamming_facts = record { k = 4; q = 2; ranks = 4 ∷ 3 ∷ []; divisor = 1; first = 3 }

pub facts : facts_of hamming ≡ hamming_facts
unfolding digits number plus minus times top up times_x product shape shape_of size coefficients add mul word_sum scale below combine words supports supports_from numbers_from nonzero_lists leading_lists messages vector_from vector_of possible_divisors divides_weights weight_divisor divisor_of phase_set same_word in_span greedy is_member first_basis columns_in_order with_fresh next_set sets_after information_sets unit_word systematic sets_of set_count ranks_of generator_at word_of found_first facts_of
facts = refl

pub first_part : IsTruePart hamming (part 0 1 3 0)
unfolding digits number plus minus times top up times_x product shape shape_of size coefficients add mul word_sum scale below combine words supports supports_from numbers_from nonzero_lists leading_lists messages vector_from vector_of choose message_count cut phase_level phase_set level_blocks blocks_before total phase_at block_messages place_of phase_of same_word in_span greedy is_member first_basis columns_in_order with_fresh next_set sets_after information_sets unit_word systematic sets_of set_count generator_at word_of block_words beats found_along found_in_block found_from least_of found_first found_in
first_part = refl

pub second_part : IsTruePart hamming (part 1 1 3 0)
unfolding digits number plus minus times top up times_x product shape shape_of size coefficients add mul word_sum scale below combine words supports supports_from numbers_from nonzero_lists leading_lists messages vector_from vector_of choose message_count cut phase_level phase_set level_blocks blocks_before total phase_at block_messages place_of phase_of same_word in_span greedy is_member first_basis columns_in_order with_fresh next_set sets_after information_sets unit_word systematic sets_of set_count generator_at word_of block_words beats found_along found_in_block found_from least_of found_first found_in
second_part = refl

pub joined : along hamming_facts 100 (first_by hamming_facts) (part 0 1 3 0 ∷ part 1 1 3 0 ∷ part 2 1 3 0 ∷ []) ≡ state 2 3 0
unfolding rounded below choose message_count cut phase_level phase_set level_blocks blocks_before total phase_at phase_ends plan_phases is_member beats least_of last_that is_whole_below bound_sum bound_of found_of progress_of part_end found_in first_by end_by level_by levels_by bound_by may_end_by finished_at finished_by is_answered end_wanted continues after_part with_part along
joined = refl

abbrev pub wide : Facts
wide = record { k = 18; q = 2; ranks = 18 ∷ 18 ∷ []; divisor = 1; first = 14 }

pub ends : map (end_by wide) (0 ∷ 7 ∷ 8 ∷ 10 ∷ 11 ∷ 13 ∷ 14 ∷ []) ≡ 1 ∷ 8 ∷ 11 ∷ 11 ∷ 14 ∷ 14 ∷ 19 ∷ []
unfolding below choose message_count cut phase_level phase_set level_blocks blocks_before total phase_at plan_phases end_by
ends = refl

pub overlapping : along wide 100 (state 8 12 9) (part 8 2 13 50 ∷ part 9 2 12 4 ∷ part 0 11 10 3 ∷ part 11 3 12 5 ∷ []) ≡ state 14 12 4
unfolding rounded below choose message_count cut phase_level phase_set level_blocks blocks_before total phase_at phase_ends plan_phases is_member beats least_of last_that is_whole_below bound_sum bound_of found_of progress_of part_end found_in end_by level_by levels_by bound_by may_end_by finished_at finished_by is_answered end_wanted continues after_part with_part along
overlapping = refl

pub beyond : along wide 100 (state 8 12 9) (part 8 4 10 50 ∷ part 9 1 10 50 ∷ []) ≡ state 8 12 9
unfolding rounded below choose message_count cut phase_level phase_set level_blocks blocks_before total phase_at phase_ends plan_phases is_member beats least_of last_that is_whole_below bound_sum bound_of found_of progress_of part_end found_in end_by level_by levels_by bound_by may_end_by finished_at finished_by is_answered end_wanted continues after_part with_part along
beyond = refl

pub early : along wide 9 (state 8 12 9) (part 8 2 10 50 ∷ part 8 1 12 8 ∷ []) ≡ state 9 12 8
unfolding rounded below choose message_count cut phase_level phase_set level_blocks blocks_before total phase_at phase_ends plan_phases is_member beats least_of last_that is_whole_below bound_sum bound_of found_of progress_of part_end found_in end_by level_by levels_by bound_by may_end_by finished_at finished_by is_answered end_wanted continues after_part with_part along
early = refl

pub answered : map (is_answered wide 100) (state 14 12 4 ∷ state 13 12 4 ∷ state 14 13 4 ∷ state 11 11 4 ∷ state 100 14 0 ∷ []) ≡ true ∷ false ∷ false ∷ true ∷ true ∷ []
unfolding rounded below choose message_count cut phase_level phase_set level_blocks blocks_before total phase_at phase_ends plan_phases is_member last_that is_whole_below bound_sum bound_of found_of level_by levels_by bound_by may_end_by finished_at finished_by is_answered
answered = refl

pub wanted : map (end_wanted wide 10) (state 7 12 4 ∷ state 8 12 4 ∷ []) ≡ 8 ∷ 10 ∷ []
unfolding below choose message_count cut phase_level phase_set level_blocks blocks_before total phase_at plan_phases end_by end_wanted
wanted = refl
