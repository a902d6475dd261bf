-- Two worked sessions, by evaluation of the definitions: a script that asks for the distance of the Hamming code of length 7, first
-- `run slice=1 keep=yes`, then `resume keep=yes`. That the script asks this is a premise.
--   rounds_compute              the definitions that rounds open, under one name
--   first_step, second_step     what the two rounds tell and keep
--   first_session, second_session      the rounds of the sessions, the second one from the checkpoint of the first
--   pauses, ends                the first session is paused by its slice, and the second isn't; so neither may end as the other does
--   slots_after_both            a checkpoint in each slot
--   chain                       the slots are those of a chain
--   settles                     the state in which the second one settles the need gives its answer
--   first_record                the first checkpoint is one of the first record
use Rattle.std.proofs.Common.{◌≡◌, ℕ, List, [], ◌∷◌, refl, inl, inr, arith, true, false}
use Rattle.std.specs.Prelude.{Some, None, ◌^◌, ⊤}
use Rattle.sha2.specs.Sha256.{sha256}
use Rattle.lc_algebra.specs.Divisor.{divisor_of}
use Rattle.lc_enumeration.specs.Search.{exact}
use Rattle.lc_enumeration.specs.Records.{Progress, SessionStep, progress_of, first_progress, end_of_phase, within_slice, round_length, after_round, note_of, is_used_up, state_first, no_round, less_slice, rounds_within, rounds, last_state, fresh_start, step_of, no_steps, steps_first, session_from, session_rounds}
use Rattle.lc_enumeration.proofs.SearchExamples.{hamming}
use Rattle.lc_formats.specs.Truth.{divisor_in}
use Rattle.lc_formats.proofs.Evaluated.{truth_computes}
use Rattle.lc_io.specs.Vaults.{Slots, empty_slots}
use Rattle.lc_language.specs.declared.Call.{Call}
use Rattle.lc_session_rules.specs.Options.{run, resume, Settings}
use Rattle.lc_session_rules.specs.Needs.{MeetsFirst}
use Rattle.lc_session_rules.specs.Answers.{Settle}
use Rattle.lc_session_rules.specs.Slots.{point_of, stored_bytes, slots_after, next_turn, chosen, start_in, IsRecordOf}
use Rattle.lc_session_rules.specs.Session.{Course, IsWhole, IsPaused}
use Rattle.lc_session_rules.specs.Chain.{Chain, Goes}

abbrev pub reached : ℕ → Progress
reached blocks = record { blocks = blocks; weight = 3; place = 0 }

abbrev pub told_at : ℕ → ℕ → SessionStep
told_at blocks bound = record { note = record { need = 0; blocks = blocks; bound = bound; best = 3 }; settled = []; state = reached blocks }

abbrev pub first_step : SessionStep
first_step = told_at 1 2

abbrev pub second_step : SessionStep
second_step = told_at 2 3

unfoldable pub rounds_compute : ⊤
unfolding truth_computes progress_of first_progress end_of_phase within_slice round_length after_round note_of is_used_up state_first no_round less_slice rounds_within rounds last_state fresh_start step_of no_steps steps_first session_from session_rounds start_in
rounds_compute = tt

pub first_session : session_rounds divisor_of (hamming ∷ []) (2 ^ 20) 256 (Some 1) fresh_start ≡ record { steps = first_step ∷ []; settled = []; left = Some 0; is_stopped = true }
unfolding rounds_compute
first_session = refl

pub second_session : (digest : List ℕ) → session_rounds divisor_of (hamming ∷ []) (2 ^ 20) 256 None (start_in divisor_of (hamming ∷ []) (point_of 2 digest (2 ^ 20) 0 first_step)) ≡ record { steps = second_step ∷ []; settled = reached 2 ∷ []; left = None; is_stopped = false }
unfolding rounds_compute point_of
second_session digest = refl

-- what `run slice=1 keep=yes` and `resume keep=yes` ask for
abbrev pub sliced : Settings
sliced = record { command = run; workers = 1; round = 256; budget = 2 ^ 20; slice = Some 1; keep = true; number = 0 }

abbrev pub unsliced : Settings
unsliced = record { command = resume; workers = 1; round = 256; budget = 2 ^ 20; slice = None; keep = true; number = 0 }

abbrev pub first_course : List ℕ → Course
first_course bytes = record { bytes = bytes; needs = hamming ∷ []; start = fresh_start; turn = 0; told = first_step ∷ []; left = []; is_paused = false; text = []; is_faulty = false }

abbrev pub second_course : List ℕ → List ℕ → Course
second_course bytes text = record { bytes = bytes; needs = hamming ∷ []; start = start_in divisor_of (hamming ∷ []) (point_of 2 (sha256 bytes) (2 ^ 20) 0 first_step); turn = 1; told = second_step ∷ []; left = []; is_paused = false; text = text; is_faulty = false }

pub pauses : (bytes : List ℕ) → IsPaused sliced (first_course bytes) 0 1
pauses bytes = record {
  kept = refl;
  at = ([], first_step, refl, refl, refl);
  why = inr (refl, rw first_session refl);
}

-- without a watcher that paused, it may not end with its text
pub goes_no_further : (bytes : List ℕ) → IsWhole sliced (first_course bytes) → ⊥
goes_no_further bytes whole = (let e : true ≡ false = rw first_session at whole.unstopped in cc)

pub ends : (bytes text : List ℕ) → IsWhole unsliced (second_course bytes text)
ends bytes text = record {
  all = refl;
  unstopped = rw (second_session (sha256 bytes)) refl;
  unpaused = λ kept. refl;
}

pub settles : Settle (2 ^ 20) (hamming ∷ []) (reached 2 ∷ []) (exact (record { weight = 3; place = 0 }) 2 ∷ [])
unfolding rounds_compute
settles = (exact (record { weight = 3; place = 0 }) 2, ([], refl, refl, refl))

pub first_record : (digest : List ℕ) → IsRecordOf (point_of 2 digest (2 ^ 20) 0 first_step) first_step.note
unfolding point_of
first_record digest = record { need = refl; blocks = refl }

abbrev pub after_first : List ℕ → Slots
after_first bytes = slots_after 2 (sha256 bytes) (2 ^ 20) 0 (first_step ∷ []) empty_slots

abbrev pub after_both : List ℕ → Slots
after_both bytes = slots_after 2 (sha256 bytes) (2 ^ 20) 1 (second_step ∷ []) (after_first bytes)

pub slots_after_both : (bytes : List ℕ) → after_both bytes ≡ record { zero_slot = stored_bytes 2 (sha256 bytes) (2 ^ 20) 0 first_step; one_slot = stored_bytes 2 (sha256 bytes) (2 ^ 20) 1 second_step }
unfolding next_turn
slots_after_both bytes = refl

first_goes : (table : List Call) (bytes : List ℕ) → MeetsFirst table bytes (hamming ∷ []) → Goes 2 table bytes (2 ^ 20) (hamming ∷ []) fresh_start (first_step ∷ [])
unfolding divisor_in
first_goes table bytes met = record { version_is = inr refl; met = met; longest = 256; long = omega arith; slice = Some 1; left = []; rounds = rw first_session refl }

second_goes : (table : List Call) (bytes : List ℕ) → MeetsFirst table bytes (hamming ∷ []) → Goes 2 table bytes (2 ^ 20) (hamming ∷ []) (start_in (divisor_in 2) (hamming ∷ []) (point_of 2 (sha256 bytes) (2 ^ 20) 0 first_step)) (second_step ∷ [])
unfolding divisor_in
second_goes table bytes met = record { version_is = inr refl; met = met; longest = 256; long = omega arith; slice = None; left = []; rounds = rw (second_session (sha256 bytes)) refl }

-- where the first checkpoint is the one chosen, as it is because its text is read back
pub chain : (table : List Call) (bytes : List ℕ) → MeetsFirst table bytes (hamming ∷ []) → chosen (after_first bytes) ≡ Some (point_of 2 (sha256 bytes) (2 ^ 20) 0 first_step) → Chain table bytes (2 ^ 20) 2 (after_both bytes)
unfolding point_of next_turn
chain table bytes met took =
    Chain.resumed 2 2 (hamming ∷ []) (point_of 2 (sha256 bytes) (2 ^ 20) 0 first_step) (second_step ∷ []) (after_first bytes) (after_both bytes)
    (Chain.begun 2 (hamming ∷ []) (first_step ∷ []) (after_first bytes) (first_goes table bytes met) (inl refl)) (omega arith) took (second_goes table bytes met) (inl refl)
