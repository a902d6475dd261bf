-- Worked sessions, by evaluation of the definitions, on the Hamming code of length 7 and dimension 4 and two needs of it.
--   heard                  the records of a session without a slice
--   sliced                 the records of two needs under a slice of 3
--   stops                  whether a slice of 0, 1 and 2 blocks stops a search of 2
--   one_need, two_needs    a slice of 2: a session of one need isn't stopped, and one of two needs is; both have the same records
--   kept                   what is settled and how far the search is after each round, and at the end
--   resumed                a session that starts within the second need goes on with its number and its blocks
--   next_slice             what is left of a slice of 5 after two needs
--   at_end                 a start past the needs has no rounds
--   fitting_start          a start that fits: a settled need and a current one
--   misfits                records that don't fit: a settled weight, a current one, a place with no word, a need that isn't answered
--   too_many_records       three records for two needs, and as many as there are
--   extended               the extended Hamming code of length 8
--   used                   which records are used: of version 2 all; of version 1 those before a need whose code is divisible
--   divisible, by_one      a need whose code's weights are divisible by 4 has no rounds; with 1 for its divisor it has two
use Rattle.std.proofs.Common.{◌≡◌, refl}
use Rattle.std.specs.Prelude.{ℕ, List, [], ◌∷◌, map, ◌^◌, Option, Some, None, true, false}
use Rattle.lc_algebra.specs.declared.FieldName.TheVariants.{Gf2}
use Rattle.lc_algebra.specs.Residue.{digits, number, plus, minus, times, top, up, times_x, product}
use Rattle.lc_algebra.specs.Field.{shape, shape_of, size, coefficients, add, mul}
use Rattle.lc_algebra.specs.Word.{word_sum, scale}
use Rattle.lc_algebra.specs.Span.{below, combine, words}
use Rattle.lc_algebra.specs.Matrix.{Matrix}
use Rattle.lc_algebra.specs.Divisor.{possible_divisors, divides_weights, weight_divisor, divisor_of, rounded}
use Rattle.lc_enumeration.specs.Message.{supports, supports_from, numbers_from, nonzero_lists, leading_lists, messages, vector_from, vector_of, choose, message_count}
use Rattle.lc_enumeration.specs.Plan.{cut, phase_level, phase_set, level_blocks, blocks_before, total, phase_at, phase_ends, block_messages, place_of, plan_phases, phase_of}
use Rattle.lc_enumeration.specs.InformationSet.{same_word, in_span, greedy, is_member, first_basis, columns_in_order, with_fresh, next_set, sets_after, information_sets, unit_word, systematic}
use Rattle.lc_enumeration.specs.Search.{sets_of, set_count, ranks_of, generator_at, word_of, block_words, word_at, beats, found_along, found_in_block, found_from, least_of, found_first, found_below, best, last_that, is_whole_below, level_below, levels_below, bound_sum, bound_of, bound, is_done, ends_of, may_end, finished, weight_at, fits, fits_settled}
use Rattle.lc_enumeration.specs.Records.{Note, Progress, Start, found_of, progress_of, first_progress, end_of_phase, within_slice, round_length, after_round, note_of, is_used_up, state_first, no_round, less_slice, rounds_within, rounds, last_state, fresh_start, step_of, no_steps, steps_first, session_from, session_rounds, records}
use Rattle.lc_enumeration.specs.Fitting.{first_divisible, start_before, used_start, misfit_at, count_current, too_many, misfit_from, misfit}
use Rattle.lc_algebra.proofs.DivisorExamples.{extended_hamming}
use Rattle.lc_enumeration.proofs.SearchExamples.{hamming}

abbrev pub ones : Matrix → ℕ
ones C = 1

abbrev pub heard_at : ℕ → ℕ → ℕ → Note
heard_at need blocks bound = record { need = need; blocks = blocks; bound = bound; best = 3 }

abbrev pub reached : ℕ → ℕ → ℕ → Progress
reached blocks weight place = record { blocks = blocks; weight = weight; place = place }

abbrev pub starting : List Progress → Option Progress → Start
starting settled current = record { settled = settled; current = current }

pub heard : records ones (hamming ∷ []) (2 ^ 20) 256 None fresh_start ≡ heard_at 0 1 2 ∷ heard_at 0 2 3 ∷ []
unfolding digits number plus minus times top up times_x product shape shape_of size coefficients add mul word_sum scale below combine words supports supports_from numbers_from nonzero_lists leading_lists messages vector_from vector_of choose message_count cut phase_level phase_set level_blocks blocks_before total phase_at phase_ends block_messages place_of plan_phases phase_of same_word in_span greedy is_member first_basis columns_in_order with_fresh next_set sets_after information_sets unit_word systematic sets_of set_count ranks_of generator_at word_of block_words word_at beats found_along found_in_block found_from least_of found_first found_below best last_that is_whole_below level_below levels_below bound_sum bound_of bound is_done ends_of may_end finished weight_at fits fits_settled rounded found_of progress_of first_progress end_of_phase within_slice round_length after_round note_of is_used_up state_first no_round less_slice rounds_within rounds last_state fresh_start step_of no_steps steps_first session_from session_rounds records first_divisible start_before used_start misfit_at count_current too_many misfit_from misfit
heard = refl

pub sliced : records ones (hamming ∷ hamming ∷ []) (2 ^ 20) 256 (Some 3) fresh_start ≡ heard_at 0 1 2 ∷ heard_at 0 2 3 ∷ heard_at 1 1 2 ∷ []
unfolding digits number plus minus times top up times_x product shape shape_of size coefficients add mul word_sum scale below combine words supports supports_from numbers_from nonzero_lists leading_lists messages vector_from vector_of choose message_count cut phase_level phase_set level_blocks blocks_before total phase_at phase_ends block_messages place_of plan_phases phase_of same_word in_span greedy is_member first_basis columns_in_order with_fresh next_set sets_after information_sets unit_word systematic sets_of set_count ranks_of generator_at word_of block_words word_at beats found_along found_in_block found_from least_of found_first found_below best last_that is_whole_below level_below levels_below bound_sum bound_of bound is_done ends_of may_end finished weight_at fits fits_settled rounded found_of progress_of first_progress end_of_phase within_slice round_length after_round note_of is_used_up state_first no_round less_slice rounds_within rounds last_state fresh_start step_of no_steps steps_first session_from session_rounds records first_divisible start_before used_start misfit_at count_current too_many misfit_from misfit
sliced = refl

pub stops : map (λ left. (rounds 1 hamming (2 ^ 20) 256 (Some left) (reached 0 3 0)).is_stopped) (0 ∷ 1 ∷ 2 ∷ []) ≡ true ∷ true ∷ false ∷ []
unfolding digits number plus minus times top up times_x product shape shape_of size coefficients add mul word_sum scale below combine words supports supports_from numbers_from nonzero_lists leading_lists messages vector_from vector_of choose message_count cut phase_level phase_set level_blocks blocks_before total phase_at phase_ends block_messages place_of plan_phases phase_of same_word in_span greedy is_member first_basis columns_in_order with_fresh next_set sets_after information_sets unit_word systematic sets_of set_count ranks_of generator_at word_of block_words word_at beats found_along found_in_block found_from least_of found_first found_below best last_that is_whole_below level_below levels_below bound_sum bound_of bound is_done ends_of may_end finished weight_at fits fits_settled rounded found_of progress_of first_progress end_of_phase within_slice round_length after_round note_of is_used_up state_first no_round less_slice rounds_within rounds last_state fresh_start step_of no_steps steps_first session_from session_rounds records first_divisible start_before used_start misfit_at count_current too_many misfit_from misfit
stops = refl

pub one_need : session_rounds ones (hamming ∷ []) (2 ^ 20) 256 (Some 2) fresh_start ≡ record { steps = record { note = heard_at 0 1 2; settled = []; state = reached 1 3 0 } ∷ record { note = heard_at 0 2 3; settled = []; state = reached 2 3 0 } ∷ []; settled = (reached 2 3 0 ∷ []); left = Some 0; is_stopped = false }
unfolding digits number plus minus times top up times_x product shape shape_of size coefficients add mul word_sum scale below combine words supports supports_from numbers_from nonzero_lists leading_lists messages vector_from vector_of choose message_count cut phase_level phase_set level_blocks blocks_before total phase_at phase_ends block_messages place_of plan_phases phase_of same_word in_span greedy is_member first_basis columns_in_order with_fresh next_set sets_after information_sets unit_word systematic sets_of set_count ranks_of generator_at word_of block_words word_at beats found_along found_in_block found_from least_of found_first found_below best last_that is_whole_below level_below levels_below bound_sum bound_of bound is_done ends_of may_end finished weight_at fits fits_settled rounded found_of progress_of first_progress end_of_phase within_slice round_length after_round note_of is_used_up state_first no_round less_slice rounds_within rounds last_state fresh_start step_of no_steps steps_first session_from session_rounds records first_divisible start_before used_start misfit_at count_current too_many misfit_from misfit
one_need = refl

pub two_needs : session_rounds ones (hamming ∷ hamming ∷ []) (2 ^ 20) 256 (Some 2) fresh_start ≡ record { steps = record { note = heard_at 0 1 2; settled = []; state = reached 1 3 0 } ∷ record { note = heard_at 0 2 3; settled = []; state = reached 2 3 0 } ∷ []; settled = (reached 2 3 0 ∷ []); left = Some 0; is_stopped = true }
unfolding digits number plus minus times top up times_x product shape shape_of size coefficients add mul word_sum scale below combine words supports supports_from numbers_from nonzero_lists leading_lists messages vector_from vector_of choose message_count cut phase_level phase_set level_blocks blocks_before total phase_at phase_ends block_messages place_of plan_phases phase_of same_word in_span greedy is_member first_basis columns_in_order with_fresh next_set sets_after information_sets unit_word systematic sets_of set_count ranks_of generator_at word_of block_words word_at beats found_along found_in_block found_from least_of found_first found_below best last_that is_whole_below level_below levels_below bound_sum bound_of bound is_done ends_of may_end finished weight_at fits fits_settled rounded found_of progress_of first_progress end_of_phase within_slice round_length after_round note_of is_used_up state_first no_round less_slice rounds_within rounds last_state fresh_start step_of no_steps steps_first session_from session_rounds records first_divisible start_before used_start misfit_at count_current too_many misfit_from misfit
two_needs = refl

pub kept : session_rounds ones (hamming ∷ hamming ∷ []) (2 ^ 20) 256 None fresh_start ≡ record { steps = record { note = heard_at 0 1 2; settled = []; state = reached 1 3 0 } ∷ record { note = heard_at 0 2 3; settled = []; state = reached 2 3 0 } ∷ record { note = heard_at 1 1 2; settled = (reached 2 3 0 ∷ []); state = reached 1 3 0 } ∷ record { note = heard_at 1 2 3; settled = (reached 2 3 0 ∷ []); state = reached 2 3 0 } ∷ []; settled = reached 2 3 0 ∷ reached 2 3 0 ∷ []; left = None; is_stopped = false }
unfolding digits number plus minus times top up times_x product shape shape_of size coefficients add mul word_sum scale below combine words supports supports_from numbers_from nonzero_lists leading_lists messages vector_from vector_of choose message_count cut phase_level phase_set level_blocks blocks_before total phase_at phase_ends block_messages place_of plan_phases phase_of same_word in_span greedy is_member first_basis columns_in_order with_fresh next_set sets_after information_sets unit_word systematic sets_of set_count ranks_of generator_at word_of block_words word_at beats found_along found_in_block found_from least_of found_first found_below best last_that is_whole_below level_below levels_below bound_sum bound_of bound is_done ends_of may_end finished weight_at fits fits_settled rounded found_of progress_of first_progress end_of_phase within_slice round_length after_round note_of is_used_up state_first no_round less_slice rounds_within rounds last_state fresh_start step_of no_steps steps_first session_from session_rounds records first_divisible start_before used_start misfit_at count_current too_many misfit_from misfit
kept = refl

pub resumed : records ones (hamming ∷ hamming ∷ []) (2 ^ 20) 256 None (starting (reached 2 3 0 ∷ []) (Some (reached 1 3 0))) ≡ heard_at 1 2 3 ∷ []
unfolding digits number plus minus times top up times_x product shape shape_of size coefficients add mul word_sum scale below combine words supports supports_from numbers_from nonzero_lists leading_lists messages vector_from vector_of choose message_count cut phase_level phase_set level_blocks blocks_before total phase_at phase_ends block_messages place_of plan_phases phase_of same_word in_span greedy is_member first_basis columns_in_order with_fresh next_set sets_after information_sets unit_word systematic sets_of set_count ranks_of generator_at word_of block_words word_at beats found_along found_in_block found_from least_of found_first found_below best last_that is_whole_below level_below levels_below bound_sum bound_of bound is_done ends_of may_end finished weight_at fits fits_settled rounded found_of progress_of first_progress end_of_phase within_slice round_length after_round note_of is_used_up state_first no_round less_slice rounds_within rounds last_state fresh_start step_of no_steps steps_first session_from session_rounds records first_divisible start_before used_start misfit_at count_current too_many misfit_from misfit
resumed = refl

pub next_slice : (session_rounds ones (hamming ∷ hamming ∷ []) (2 ^ 20) 256 (Some 5) fresh_start).left ≡ Some 1
unfolding digits number plus minus times top up times_x product shape shape_of size coefficients add mul word_sum scale below combine words supports supports_from numbers_from nonzero_lists leading_lists messages vector_from vector_of choose message_count cut phase_level phase_set level_blocks blocks_before total phase_at phase_ends block_messages place_of plan_phases phase_of same_word in_span greedy is_member first_basis columns_in_order with_fresh next_set sets_after information_sets unit_word systematic sets_of set_count ranks_of generator_at word_of block_words word_at beats found_along found_in_block found_from least_of found_first found_below best last_that is_whole_below level_below levels_below bound_sum bound_of bound is_done ends_of may_end finished weight_at fits fits_settled rounded found_of progress_of first_progress end_of_phase within_slice round_length after_round note_of is_used_up state_first no_round less_slice rounds_within rounds last_state fresh_start step_of no_steps steps_first session_from session_rounds records first_divisible start_before used_start misfit_at count_current too_many misfit_from misfit
next_slice = refl

pub at_end : records ones (hamming ∷ []) (2 ^ 20) 256 None (starting (reached 2 3 0 ∷ []) None) ≡ []
unfolding digits number plus minus times top up times_x product shape shape_of size coefficients add mul word_sum scale below combine words supports supports_from numbers_from nonzero_lists leading_lists messages vector_from vector_of choose message_count cut phase_level phase_set level_blocks blocks_before total phase_at phase_ends block_messages place_of plan_phases phase_of same_word in_span greedy is_member first_basis columns_in_order with_fresh next_set sets_after information_sets unit_word systematic sets_of set_count ranks_of generator_at word_of block_words word_at beats found_along found_in_block found_from least_of found_first found_below best last_that is_whole_below level_below levels_below bound_sum bound_of bound is_done ends_of may_end finished weight_at fits fits_settled rounded found_of progress_of first_progress end_of_phase within_slice round_length after_round note_of is_used_up state_first no_round less_slice rounds_within rounds last_state fresh_start step_of no_steps steps_first session_from session_rounds records first_divisible start_before used_start misfit_at count_current too_many misfit_from misfit
at_end = refl

pub fitting_start : misfit ones (hamming ∷ hamming ∷ []) (2 ^ 20) (starting (reached 2 3 0 ∷ []) (Some (reached 1 3 0))) ≡ None
unfolding digits number plus minus times top up times_x product shape shape_of size coefficients add mul word_sum scale below combine words supports supports_from numbers_from nonzero_lists leading_lists messages vector_from vector_of choose message_count cut phase_level phase_set level_blocks blocks_before total phase_at phase_ends block_messages place_of plan_phases phase_of same_word in_span greedy is_member first_basis columns_in_order with_fresh next_set sets_after information_sets unit_word systematic sets_of set_count ranks_of generator_at word_of block_words word_at beats found_along found_in_block found_from least_of found_first found_below best last_that is_whole_below level_below levels_below bound_sum bound_of bound is_done ends_of may_end finished weight_at fits fits_settled rounded found_of progress_of first_progress end_of_phase within_slice round_length after_round note_of is_used_up state_first no_round less_slice rounds_within rounds last_state fresh_start step_of no_steps steps_first session_from session_rounds records first_divisible start_before used_start misfit_at count_current too_many misfit_from misfit
fitting_start = refl

pub misfits : map (misfit ones (hamming ∷ hamming ∷ []) (2 ^ 20)) (starting (reached 2 2 0 ∷ []) (Some (reached 1 3 0)) ∷ starting (reached 2 3 0 ∷ []) (Some (reached 1 2 0)) ∷ starting (reached 2 3 0 ∷ []) (Some (reached 2 3 4)) ∷ starting (reached 1 3 0 ∷ []) None ∷ []) ≡ Some (record { need = 0; told = 2; found = 3 }) ∷ Some (record { need = 1; told = 2; found = 3 }) ∷ Some (record { need = 1; told = 3; found = 0 }) ∷ Some (record { need = 0; told = 3; found = 3 }) ∷ []
unfolding digits number plus minus times top up times_x product shape shape_of size coefficients add mul word_sum scale below combine words supports supports_from numbers_from nonzero_lists leading_lists messages vector_from vector_of choose message_count cut phase_level phase_set level_blocks blocks_before total phase_at phase_ends block_messages place_of plan_phases phase_of same_word in_span greedy is_member first_basis columns_in_order with_fresh next_set sets_after information_sets unit_word systematic sets_of set_count ranks_of generator_at word_of block_words word_at beats found_along found_in_block found_from least_of found_first found_below best last_that is_whole_below level_below levels_below bound_sum bound_of bound is_done ends_of may_end finished weight_at fits fits_settled rounded found_of progress_of first_progress end_of_phase within_slice round_length after_round note_of is_used_up state_first no_round less_slice rounds_within rounds last_state fresh_start step_of no_steps steps_first session_from session_rounds records first_divisible start_before used_start misfit_at count_current too_many misfit_from misfit
misfits = refl

pub too_many_records : map (misfit ones (hamming ∷ hamming ∷ []) (2 ^ 20)) (starting (reached 2 3 0 ∷ reached 2 3 0 ∷ []) (Some (reached 1 3 0)) ∷ starting (reached 2 3 0 ∷ reached 2 3 0 ∷ []) None ∷ []) ≡ Some (record { need = 2; told = 3; found = 0 }) ∷ None ∷ []
unfolding digits number plus minus times top up times_x product shape shape_of size coefficients add mul word_sum scale below combine words supports supports_from numbers_from nonzero_lists leading_lists messages vector_from vector_of choose message_count cut phase_level phase_set level_blocks blocks_before total phase_at phase_ends block_messages place_of plan_phases phase_of same_word in_span greedy is_member first_basis columns_in_order with_fresh next_set sets_after information_sets unit_word systematic sets_of set_count ranks_of generator_at word_of block_words word_at beats found_along found_in_block found_from least_of found_first found_below best last_that is_whole_below level_below levels_below bound_sum bound_of bound is_done ends_of may_end finished weight_at fits fits_settled rounded found_of progress_of first_progress end_of_phase within_slice round_length after_round note_of is_used_up state_first no_round less_slice rounds_within rounds last_state fresh_start step_of no_steps steps_first session_from session_rounds records first_divisible start_before used_start misfit_at count_current too_many misfit_from misfit
too_many_records = refl

-- the extended Hamming code of length 8, whose weights are 0, 4 and 8
abbrev pub extended : Matrix
extended = record { field = Gf2; columns = 8; rows = extended_hamming }

pub used : used_start divisor_of (hamming ∷ extended ∷ hamming ∷ []) 2 (reached 2 3 0 ∷ reached 2 4 0 ∷ []) (reached 1 3 0) ∷ used_start divisor_of (hamming ∷ extended ∷ hamming ∷ []) 1 (reached 2 3 0 ∷ reached 2 4 0 ∷ []) (reached 1 3 0) ∷ used_start divisor_of (hamming ∷ extended ∷ hamming ∷ []) 1 [] (reached 1 3 0) ∷ [] ≡ starting (reached 2 3 0 ∷ reached 2 4 0 ∷ []) (Some (reached 1 3 0)) ∷ starting (reached 2 3 0 ∷ []) None ∷ starting [] (Some (reached 1 3 0)) ∷ []
unfolding digits number plus minus times top up times_x product shape shape_of size coefficients add mul word_sum scale below combine words supports supports_from numbers_from nonzero_lists leading_lists messages vector_from vector_of choose message_count cut phase_level phase_set level_blocks blocks_before total phase_at phase_ends block_messages place_of plan_phases phase_of same_word in_span greedy is_member first_basis columns_in_order with_fresh next_set sets_after information_sets unit_word systematic sets_of set_count ranks_of generator_at word_of block_words word_at beats found_along found_in_block found_from least_of found_first found_below best last_that is_whole_below level_below levels_below bound_sum bound_of bound is_done ends_of may_end finished weight_at fits fits_settled rounded found_of progress_of first_progress end_of_phase within_slice round_length after_round note_of is_used_up state_first no_round less_slice rounds_within rounds last_state fresh_start step_of no_steps steps_first session_from session_rounds records first_divisible start_before used_start misfit_at count_current too_many misfit_from misfit possible_divisors divides_weights weight_divisor divisor_of
used = refl

pub divisible : records divisor_of (extended ∷ hamming ∷ []) (2 ^ 20) 256 None fresh_start ≡ heard_at 1 1 2 ∷ heard_at 1 2 3 ∷ []
unfolding digits number plus minus times top up times_x product shape shape_of size coefficients add mul word_sum scale below combine words supports supports_from numbers_from nonzero_lists leading_lists messages vector_from vector_of choose message_count cut phase_level phase_set level_blocks blocks_before total phase_at phase_ends block_messages place_of plan_phases phase_of same_word in_span greedy is_member first_basis columns_in_order with_fresh next_set sets_after information_sets unit_word systematic sets_of set_count ranks_of generator_at word_of block_words word_at beats found_along found_in_block found_from least_of found_first found_below best last_that is_whole_below level_below levels_below bound_sum bound_of bound is_done ends_of may_end finished weight_at fits fits_settled rounded found_of progress_of first_progress end_of_phase within_slice round_length after_round note_of is_used_up state_first no_round less_slice rounds_within rounds last_state fresh_start step_of no_steps steps_first session_from session_rounds records first_divisible start_before used_start misfit_at count_current too_many misfit_from misfit possible_divisors divides_weights weight_divisor divisor_of
divisible = refl

pub by_one : records ones (extended ∷ []) (2 ^ 20) 256 None fresh_start ≡ record { need = 0; blocks = 1; bound = 3; best = 4 } ∷ record { need = 0; blocks = 2; bound = 4; best = 4 } ∷ []
unfolding digits number plus minus times top up times_x product shape shape_of size coefficients add mul word_sum scale below combine words supports supports_from numbers_from nonzero_lists leading_lists messages vector_from vector_of choose message_count cut phase_level phase_set level_blocks blocks_before total phase_at phase_ends block_messages place_of plan_phases phase_of same_word in_span greedy is_member first_basis columns_in_order with_fresh next_set sets_after information_sets unit_word systematic sets_of set_count ranks_of generator_at word_of block_words word_at beats found_along found_in_block found_from least_of found_first found_below best last_that is_whole_below level_below levels_below bound_sum bound_of bound is_done ends_of may_end finished weight_at fits fits_settled rounded found_of progress_of first_progress end_of_phase within_slice round_length after_round note_of is_used_up state_first no_round less_slice rounds_within rounds last_state fresh_start step_of no_steps steps_first session_from session_rounds records first_divisible start_before used_start misfit_at count_current too_many misfit_from misfit possible_divisors divides_weights weight_divisor divisor_of
by_one = refl
