-- Worked sessions on the first-order Reed-Muller code of length 16, by evaluation of the definitions.
--   first_slice, second_slice, last_session      with 1 for its divisor, in three sessions: a slice of 2 blocks, one of 3, and the
--                          rest. The first two are stopped
--   divisible_records      with 4 for its divisor: three records, and not six
--   anew                   a checkpoint of version 1 at block 5 of a code whose divisor is 4 isn't used: the search begins anew; one of
--                          version 2 is, and so is one of version 1 of a code whose divisor is 1
use Rattle.std.proofs.Common.{◌≡◌, refl}
use Rattle.std.specs.Prelude.{ℕ, [], ◌∷◌, ◌^◌, Some, None, true, false}
use Rattle.lc_algebra.specs.Residue.{digits, number, plus, minus, times, top, up, times_x, product}
use Rattle.lc_algebra.specs.Field.{shape, shape_of, size, coefficients, add, mul}
use Rattle.lc_algebra.specs.Word.{word_sum, scale}
use Rattle.lc_algebra.specs.Span.{below, combine, words}
use Rattle.lc_algebra.specs.Matrix.{Matrix}
use Rattle.lc_algebra.specs.Divisor.{rounded}
use Rattle.lc_enumeration.specs.Message.{supports, supports_from, numbers_from, nonzero_lists, leading_lists, messages, vector_from, vector_of, choose, message_count}
use Rattle.lc_enumeration.specs.Plan.{cut, phase_level, phase_set, level_blocks, blocks_before, total, phase_at, phase_ends, block_messages, place_of, phase_of, plan_phases}
use Rattle.lc_enumeration.specs.InformationSet.{same_word, in_span, greedy, is_member, first_basis, columns_in_order, with_fresh, next_set, sets_after, information_sets, unit_word, systematic}
use Rattle.lc_enumeration.specs.Search.{sets_of, set_count, ranks_of, generator_at, word_of, block_words, word_at, beats, found_along, found_in_block, found_from, least_of, found_first, found_below, best, last_that, is_whole_below, level_below, levels_below, bound_sum, bound_of, bound, is_done, ends_of, may_end, finished}
use Rattle.lc_enumeration.specs.Records.{Note, Progress, Start, SessionStep, found_of, progress_of, first_progress, end_of_phase, within_slice, round_length, after_round, note_of, is_used_up, state_first, no_round, less_slice, rounds_within, rounds, last_state, fresh_start, step_of, no_steps, steps_first, session_from, session_rounds, records}
use Rattle.lc_enumeration.specs.Fitting.{first_divisible, start_before, used_start}
use Rattle.lc_enumeration.proofs.ReedMullerExamples.{reed_muller_code}
use Rattle.lc_enumeration.proofs.SearchExamples.{hamming}

abbrev pub by : ℕ → Matrix → ℕ
by d C = d

abbrev pub heard : ℕ → ℕ → Note
heard blocks bound = record { need = 0; blocks = blocks; bound = bound; best = 8 }

abbrev pub at : ℕ → Progress
at blocks = record { blocks = blocks; weight = 8; place = 0 }

abbrev pub step : ℕ → ℕ → SessionStep
step blocks bound = record { note = heard blocks bound; settled = []; state = at blocks }

abbrev pub from : Progress → Start
from s = record { settled = []; current = Some s }

pub first_slice : session_rounds (by 1) (reed_muller_code ∷ []) (2 ^ 20) 256 (Some 2) fresh_start ≡ record { steps = step 1 3 ∷ step 2 4 ∷ []; settled = []; left = Some 0; is_stopped = true }
unfolding digits number plus minus times top up times_x product shape shape_of size coefficients add mul word_sum scale below combine words supports supports_from numbers_from nonzero_lists leading_lists messages vector_from vector_of choose message_count cut phase_level phase_set level_blocks blocks_before total phase_at phase_ends block_messages place_of phase_of plan_phases same_word in_span greedy is_member first_basis columns_in_order with_fresh next_set sets_after information_sets unit_word systematic sets_of set_count ranks_of generator_at word_of block_words word_at beats found_along found_in_block found_from least_of found_first found_below best last_that is_whole_below level_below levels_below bound_sum bound_of bound is_done ends_of may_end finished rounded found_of progress_of first_progress end_of_phase within_slice round_length after_round note_of is_used_up state_first no_round less_slice rounds_within rounds last_state fresh_start step_of no_steps steps_first session_from session_rounds records first_divisible start_before used_start
first_slice = refl

pub second_slice : session_rounds (by 1) (reed_muller_code ∷ []) (2 ^ 20) 256 (Some 3) (from (at 2)) ≡ record { steps = step 3 5 ∷ step 4 6 ∷ step 5 7 ∷ []; settled = []; left = Some 0; is_stopped = true }
unfolding digits number plus minus times top up times_x product shape shape_of size coefficients add mul word_sum scale below combine words supports supports_from numbers_from nonzero_lists leading_lists messages vector_from vector_of choose message_count cut phase_level phase_set level_blocks blocks_before total phase_at phase_ends block_messages place_of phase_of plan_phases same_word in_span greedy is_member first_basis columns_in_order with_fresh next_set sets_after information_sets unit_word systematic sets_of set_count ranks_of generator_at word_of block_words word_at beats found_along found_in_block found_from least_of found_first found_below best last_that is_whole_below level_below levels_below bound_sum bound_of bound is_done ends_of may_end finished rounded found_of progress_of first_progress end_of_phase within_slice round_length after_round note_of is_used_up state_first no_round less_slice rounds_within rounds last_state fresh_start step_of no_steps steps_first session_from session_rounds records first_divisible start_before used_start
second_slice = refl

pub last_session : session_rounds (by 1) (reed_muller_code ∷ []) (2 ^ 20) 256 None (from (at 5)) ≡ record { steps = step 6 8 ∷ []; settled = at 6 ∷ []; left = None; is_stopped = false }
unfolding digits number plus minus times top up times_x product shape shape_of size coefficients add mul word_sum scale below combine words supports supports_from numbers_from nonzero_lists leading_lists messages vector_from vector_of choose message_count cut phase_level phase_set level_blocks blocks_before total phase_at phase_ends block_messages place_of phase_of plan_phases same_word in_span greedy is_member first_basis columns_in_order with_fresh next_set sets_after information_sets unit_word systematic sets_of set_count ranks_of generator_at word_of block_words word_at beats found_along found_in_block found_from least_of found_first found_below best last_that is_whole_below level_below levels_below bound_sum bound_of bound is_done ends_of may_end finished rounded found_of progress_of first_progress end_of_phase within_slice round_length after_round note_of is_used_up state_first no_round less_slice rounds_within rounds last_state fresh_start step_of no_steps steps_first session_from session_rounds records first_divisible start_before used_start
last_session = refl

pub divisible_records : records (by 4) (reed_muller_code ∷ []) (2 ^ 20) 256 None fresh_start ≡ heard 1 4 ∷ heard 2 4 ∷ heard 3 8 ∷ []
unfolding digits number plus minus times top up times_x product shape shape_of size coefficients add mul word_sum scale below combine words supports supports_from numbers_from nonzero_lists leading_lists messages vector_from vector_of choose message_count cut phase_level phase_set level_blocks blocks_before total phase_at phase_ends block_messages place_of phase_of plan_phases same_word in_span greedy is_member first_basis columns_in_order with_fresh next_set sets_after information_sets unit_word systematic sets_of set_count ranks_of generator_at word_of block_words word_at beats found_along found_in_block found_from least_of found_first found_below best last_that is_whole_below level_below levels_below bound_sum bound_of bound is_done ends_of may_end finished rounded found_of progress_of first_progress end_of_phase within_slice round_length after_round note_of is_used_up state_first no_round less_slice rounds_within rounds last_state fresh_start step_of no_steps steps_first session_from session_rounds records first_divisible start_before used_start
divisible_records = refl

pub anew : used_start (by 4) (reed_muller_code ∷ []) 1 [] (at 5) ∷ used_start (by 4) (reed_muller_code ∷ []) 2 [] (at 5) ∷ used_start (by 1) (hamming ∷ []) 1 [] (at 5) ∷ [] ≡ fresh_start ∷ from (at 5) ∷ from (at 5) ∷ []
unfolding digits number plus minus times top up times_x product shape shape_of size coefficients add mul word_sum scale below combine words supports supports_from numbers_from nonzero_lists leading_lists messages vector_from vector_of choose message_count cut phase_level phase_set level_blocks blocks_before total phase_at phase_ends block_messages place_of phase_of plan_phases same_word in_span greedy is_member first_basis columns_in_order with_fresh next_set sets_after information_sets unit_word systematic sets_of set_count ranks_of generator_at word_of block_words word_at beats found_along found_in_block found_from least_of found_first found_below best last_that is_whole_below level_below levels_below bound_sum bound_of bound is_done ends_of may_end finished rounded found_of progress_of first_progress end_of_phase within_slice round_length after_round note_of is_used_up state_first no_round less_slice rounds_within rounds last_state fresh_start step_of no_steps steps_first session_from session_rounds records first_divisible start_before used_start
anew = refl
