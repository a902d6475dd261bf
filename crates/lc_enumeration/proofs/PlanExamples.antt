-- Worked plans, searches and sessions, by evaluation of the definitions.
--   counts                     how many messages of length 5 over 16 elements each weight has
--   ends, phases, lengths      the plan of dimension 5 over 16 elements with two sets: where its phases end, which phase a block is in,
--                              and how long the blocks of a phase are
--   cut_total, cut_phases, cut_last      a plan that the cut ends in the middle of a phase
--   words_at                   the words at places of the Hamming code: the last of block 0, none, the first of block 1, none
--   states, at_budget          a state that goes on, one at a phase end, one past the plan's end; and one at its budget
--   found_weights, fitting, fitting_settled      what stands at a place; which records fit their need
--   on_the_board               what a worker reports of a word
use Rattle.std.proofs.Common.{◌≡◌, refl}
use Rattle.std.specs.Prelude.{ℕ, [], ◌∷◌, map, length, ◌^◌, Some, None, true, false}
use Rattle.lc_algebra.specs.Residue.{digits, number, plus, minus, times, top, up, times_x, product}
use Rattle.lc_algebra.specs.Field.{shape, shape_of, size, coefficients, add, mul}
use Rattle.lc_algebra.specs.Word.{word_sum, scale}
use Rattle.lc_algebra.specs.Span.{below, combine, words}
use Rattle.lc_algebra.specs.Divisor.{rounded}
use Rattle.lc_enumeration.specs.Message.{supports, supports_from, numbers_from, nonzero_lists, leading_lists, messages, vector_from, vector_of, choose, message_count}
use Rattle.lc_enumeration.specs.Plan.{cut, phase_level, phase_set, level_blocks, blocks_before, total, phase_at, phase_ends, block_length, block_messages, plan_phases, phase_of}
use Rattle.lc_enumeration.specs.InformationSet.{same_word, in_span, greedy, is_member, first_basis, columns_in_order, with_fresh, next_set, sets_after, information_sets, unit_word, systematic}
use Rattle.lc_enumeration.specs.Search.{exact, bracket, Found, sets_of, set_count, ranks_of, generator_at, word_of, word_at, block_words, last_that, is_whole_below, level_below, levels_below, bound_sum, bound_of, bound, ends_of, may_end, finished, board_value, weight_at, fits, fits_settled}
use Rattle.lc_enumeration.proofs.SearchExamples.{hamming, first_found}

pub counts : map (message_count 5 16) (1 ∷ 2 ∷ 3 ∷ 4 ∷ 5 ∷ []) ≡ 5 ∷ 150 ∷ 2250 ∷ 16875 ∷ 50625 ∷ []
unfolding choose message_count
counts = refl

pub ends : map (λ p. p.end) (plan_phases 5 16 2) ≡ 1 ∷ 2 ∷ 3 ∷ 4 ∷ 5 ∷ 6 ∷ 11 ∷ 16 ∷ 29 ∷ 42 ∷ []
unfolding below choose message_count cut phase_level phase_set level_blocks blocks_before phase_at plan_phases
ends = refl

pub phases : map (phase_of 5 16 2) (0 ∷ 10 ∷ 11 ∷ 15 ∷ 16 ∷ 41 ∷ 42 ∷ []) ≡ Some 0 ∷ Some 6 ∷ Some 7 ∷ Some 7 ∷ Some 8 ∷ Some 9 ∷ None ∷ []
unfolding below choose message_count cut phase_level phase_set level_blocks blocks_before phase_at phase_of
phases = refl

pub lengths : map (block_length 5 16 2 7) (11 ∷ 14 ∷ 15 ∷ []) ≡ 4096 ∷ 4096 ∷ 491 ∷ []
unfolding choose message_count phase_level level_blocks blocks_before block_length
lengths = refl

pub cut_total : total 14 16 1 ≡ 2 ^ 40
unfolding choose message_count cut phase_level level_blocks blocks_before total
cut_total = refl

pub cut_phases : length (phase_ends 14 16 1) ≡ 13
unfolding below choose message_count cut phase_level level_blocks blocks_before phase_ends
cut_phases = refl

pub cut_last : phase_at 14 16 1 13 ≡ record { level = 14; set = 0; start = 697667122606; end = 2 ^ 40 }
unfolding choose message_count cut phase_level phase_set level_blocks blocks_before phase_at
cut_last = refl

pub words_at : map (word_at hamming 2) (3 ∷ 4 ∷ 4096 ∷ 32768 ∷ []) ≡ Some (0 ∷ 0 ∷ 0 ∷ 1 ∷ 1 ∷ 1 ∷ 1 ∷ []) ∷ None ∷ Some (1 ∷ 1 ∷ 1 ∷ 0 ∷ 0 ∷ 0 ∷ 0 ∷ []) ∷ None ∷ []
unfolding digits number plus minus times top up times_x product shape shape_of size coefficients add mul word_sum scale below combine words supports supports_from numbers_from nonzero_lists leading_lists messages vector_from vector_of choose message_count cut phase_level phase_set level_blocks blocks_before phase_at block_messages phase_of same_word in_span greedy is_member first_basis columns_in_order with_fresh next_set sets_after information_sets unit_word systematic sets_of set_count generator_at word_of word_at block_words
words_at = refl

pub states : map (λ l. finished 1 hamming (2 ^ 20) l first_found) (1 ∷ 2 ∷ 9 ∷ []) ≡ None ∷ Some (exact first_found 2) ∷ Some (exact first_found 9) ∷ []
unfolding digits number plus minus times top up times_x product shape shape_of size coefficients add mul word_sum scale below words choose message_count cut phase_level level_blocks blocks_before total phase_ends same_word in_span greedy is_member first_basis columns_in_order with_fresh next_set sets_after information_sets sets_of set_count ranks_of last_that is_whole_below level_below levels_below bound_sum bound_of rounded bound ends_of may_end finished
states = refl

pub at_budget : finished 1 hamming 1 1 first_found ≡ Some (bracket 2 first_found 1)
unfolding digits number plus minus times top up times_x product shape shape_of size coefficients add mul word_sum scale below words choose message_count cut phase_level level_blocks blocks_before total phase_ends same_word in_span greedy is_member first_basis columns_in_order with_fresh next_set sets_after information_sets sets_of set_count ranks_of last_that is_whole_below level_below levels_below bound_sum bound_of rounded bound ends_of may_end finished
at_budget = refl

abbrev pub pair : ℕ → ℕ → Found
pair weight place = record { weight = weight; place = place }

pub found_weights : map (weight_at hamming) (0 ∷ 3 ∷ 4 ∷ []) ≡ 3 ∷ 4 ∷ 0 ∷ []
unfolding digits number plus minus times top up times_x product shape shape_of size coefficients add mul word_sum scale below combine words supports supports_from numbers_from nonzero_lists leading_lists messages vector_from vector_of choose message_count cut phase_level phase_set level_blocks blocks_before total phase_at phase_ends block_messages phase_of same_word in_span greedy is_member first_basis columns_in_order with_fresh next_set sets_after information_sets unit_word systematic sets_of set_count ranks_of generator_at word_of word_at last_that is_whole_below level_below levels_below bound_sum bound_of rounded bound ends_of may_end finished weight_at fits fits_settled block_words
found_weights = refl

-- a wrong weight; a true one; the same behind the blocks; no word there; place 0, which needs no block
pub fitting : fits hamming 2 (pair 2 0) ∷ fits hamming 2 (pair 4 3) ∷ fits hamming 0 (pair 4 3) ∷ fits hamming 2 (pair 3 4) ∷ fits hamming 0 (pair 3 0) ∷ [] ≡ false ∷ true ∷ false ∷ false ∷ true ∷ []
unfolding digits number plus minus times top up times_x product shape shape_of size coefficients add mul word_sum scale below combine words supports supports_from numbers_from nonzero_lists leading_lists messages vector_from vector_of choose message_count cut phase_level phase_set level_blocks blocks_before total phase_at phase_ends block_messages phase_of same_word in_span greedy is_member first_basis columns_in_order with_fresh next_set sets_after information_sets unit_word systematic sets_of set_count ranks_of generator_at word_of word_at last_that is_whole_below level_below levels_below bound_sum bound_of rounded bound ends_of may_end finished weight_at fits fits_settled block_words
fitting = refl

-- an answered state, one at the budget, and one that goes on
pub fitting_settled : fits_settled 1 hamming (2 ^ 20) 2 first_found ∷ fits_settled 1 hamming 1 1 first_found ∷ fits_settled 1 hamming (2 ^ 20) 1 first_found ∷ [] ≡ true ∷ true ∷ false ∷ []
unfolding digits number plus minus times top up times_x product shape shape_of size coefficients add mul word_sum scale below combine words supports supports_from numbers_from nonzero_lists leading_lists messages vector_from vector_of choose message_count cut phase_level phase_set level_blocks blocks_before total phase_at phase_ends block_messages phase_of same_word in_span greedy is_member first_basis columns_in_order with_fresh next_set sets_after information_sets unit_word systematic sets_of set_count ranks_of generator_at word_of word_at last_that is_whole_below level_below levels_below bound_sum bound_of rounded bound ends_of may_end finished weight_at fits fits_settled block_words
fitting_settled = refl

pub on_the_board : board_value (pair 3 8194) ≡ 13510798882119682
unfolding board_value
on_the_board = refl
