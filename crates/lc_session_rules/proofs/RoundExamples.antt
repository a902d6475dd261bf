-- Worked sessions that do a round, whole, by evaluation of the definitions: the script asks for the distance of the Hamming code of
-- length 7. That it asks this, and nothing else, is a premise.
--   sliced_session       `run slice=1 keep=yes` over two full slots: it is paused, with the checkpoint of its first round in slot Zero
--   sliced_no_text       it may not end with a text
--   sliced_other_slot    nor leave the checkpoint in slot One
--   paused_session       `run keep=yes` with a watcher that answers Pause to the first record: it is paused there
--   paused_no_text       it may not end with a text
--   resumed_session      `resume keep=yes` from a checkpoint of version 1, paused at its one record: slot One holds the next checkpoint,
--                        which is of version 2
--   resumed_no_text      it may not end with a text
--   resumed_other_slot   nor leave the checkpoint in slot Zero
use Rattle.std.proofs.Common.{◌≡◌, ◌⊎◌, ⊎_elim, ◌≤◌, ◌^◌, ◌+◌, ℕ, refl, inl, inr, arith, ◌∙◌, sym, ap, subst}
use Rattle.std.specs.Prelude.{List, [], ◌∷◌, ◌++◌, codes, true, false, Option, Some, None, length, Contains, zero, suc, ◌==◌}
use Rattle.std.proofs.lemmas.List.{append-nil}
use Rattle.std.proofs.lemmas.Bool.{leb-true}
use Rattle.sha2.specs.Sha256.{sha256}
use Rattle.lc_algebra.specs.Matrix.{Matrix}
use Rattle.lc_algebra.specs.Divisor.{divisor_of}
use Rattle.lc_enumeration.specs.Records.{SessionStep, SessionRounds, fresh_start, no_steps, session_from, session_rounds, default_round}
use Rattle.lc_enumeration.specs.Fitting.{misfit}
use Rattle.lc_enumeration.proofs.SearchExamples.{hamming}
use Rattle.lc_formats.specs.Checkpoint.{Checkpoint, point, refused as unread, damaged, checkpoint_text, checkpoint_in}
use Rattle.lc_formats.specs.Truth.{start_of}
use Rattle.lc_formats.specs.Text.{same_bytes}
use Rattle.lc_formats.proofs.Evaluated.{checkpoint_computes, truth_computes}
use Rattle.lc_formats.proofs.TruthExamples.{after}
use Rattle.lc_formats.proofs.CheckpointExamples.{plainly, reads_plainly}
use Rattle.lc_grammar.specs.Token.{is_digit, number_from, number_of, widest}
use Rattle.lc_io.specs.declared.vault.Slot.TheVariants.{Zero, One}
use Rattle.lc_io.specs.Vaults.{Slots, put}
use Rattle.lc_io.specs.Watchers.{Hearing}
use Rattle.lc_io.specs.Told.{Stays, Kept}
use Rattle.lc_io.specs.declared.watcher.Advice.{Advice}
use Rattle.lc_io.specs.declared.watcher.Advice.TheVariants.{Go, Pause}
use Rattle.lc_language.specs.Calls.{all_calls}
use Rattle.lc_session_rules.specs.Options.{run, resume, Settings, settings, command_text, key_text, row, all_options, settings_of, number_in, number_within, yes_or_no, put_key, key_named, row_named, same_key, place_of_key, checked, options_from, options}
use Rattle.lc_session_rules.specs.Needs.{IsNeeds, MeetsFirst}
use Rattle.lc_session_rules.specs.Slots.{point_of, stored_bytes, next_turn, later_of, chosen, choice_among, is_empty, choice, takes, is_for}
use Rattle.lc_session_rules.specs.Session.{Outside, Course, rounds_of, records_of, Reads, Starts, Meets, IsFresh, GoesOnFrom, EndsAt, IsWhole, told_slots, Stores, Replies, IsSession}
use Rattle.lc_session_rules.specs.Endings.{done, paused}
use Rattle.lc_session_rules.proofs.SaidLaws.{paused_once}
use Rattle.lc_session_rules.proofs.SessionLaws.{asks_for, gave_whole}
use Rattle.lc_session_rules.proofs.SessionExamples.{script, first_round}
use Rattle.lc_session_rules.proofs.ChainExamples.{first_step, second_step, first_session, first_course, sliced, pauses, rounds_compute}

-- ---- a slice that is used up

abbrev zero_of : Option Slots → List ℕ
zero_of None = []
zero_of (Some slots) = slots.zero_slot

abbrev one_of : Option Slots → List ℕ
one_of None = []
one_of (Some slots) = slots.one_slot

abbrev pub sliced_arguments : List (List ℕ)
sliced_arguments = codes "run" ∷ codes "slice=1" ∷ codes "keep=yes" ∷ []

reads_sliced : options all_options sliced_arguments ≡ settings sliced
unfolding is_digit number_from number_of widest same_bytes command_text key_text row all_options default_round settings_of number_in number_within yes_or_no put_key key_named row_named same_key place_of_key checked options_from options
reads_sliced = refl

-- a source that gives the script, and the slots before
abbrev begins_with : Slots → List Hearing → Outside
begins_with slots watchers = record { source = Some script; source_faults = 0; sink = Some []; sink_faults = 0; vault = Some slots; vault_faults = 0; watchers = watchers }

abbrev ends_with : Slots → List Hearing → Outside
ends_with slots watchers = record { source = Some []; source_faults = 0; sink = Some []; sink_faults = 0; vault = Some slots; vault_faults = 0; watchers = watchers }

abbrev pub full : Slots
full = record { zero_slot = codes "x"; one_slot = codes "y" }

-- the bytes of the checkpoint of the first round
abbrev pub first_bytes : List ℕ
first_bytes = stored_bytes 2 (sha256 script) (2 ^ 20) 0 first_step

short : length script ≤ 2 ^ 20
short = leb-true (length script) (2 ^ 20) refl

pub sliced_session : MeetsFirst all_calls script (hamming ∷ []) → IsSession all_calls sliced_arguments (begins_with full []) (ends_with (record { zero_slot = first_bytes; one_slot = [] }) []) (paused 0 1)
sliced_session met = record {
  asked = sliced;
  course = first_course script;
  accepted = rw reads_sliced (refl, λ i e. cc);
  possible = refl;
  read = record { gave = sym (append-nil script); ended = refl; within = short };
  started = record { start = refl; turn = refl };
  met = met;
  rounds = rw first_session refl;
  ended = pauses script;
  heard = Kept.no_more;
  stored = (record { zero_slot = first_bytes; one_slot = [] }, refl, refl);
  replied = tt;
  written = refl;
  counted = record { source = refl; sink = refl; vault = refl };
}

pub sliced_no_text : (n : ℕ) (old new : Outside) → ((needs : List Matrix) → IsNeeds all_calls script needs → needs ≡ hamming ∷ []) → old.source ≡ Some script → IsSession all_calls sliced_arguments old new (done n) → ⊥
sliced_no_text n old new only told s =
    let same = asks_for all_calls sliced_arguments old new (done n) sliced s reads_sliced in
    let read : Reads run (done n) old.source new.source s.course = subst (λ (a : Settings). Reads a.command (done n) old.source new.source s.course) same s.read in
    let fresh : IsFresh s.course = subst (λ (a : Settings). Starts all_calls a.command (done n) a old.vault s.course) same s.started in
    let reply : Replies all_calls run sliced old.vault s.course = subst (λ (a : Settings). Replies all_calls a.command a old.vault s.course) same s.replied.0 in
    let whole : IsWhole sliced s.course = subst (λ (a : Settings). IsWhole a s.course) same s.ended in
    let bytes = gave_whole old.source new.source script s.course.bytes told read in
    let needs = only s.course.needs (subst (λ (b : List ℕ). IsNeeds all_calls b s.course.needs) (sym bytes) reply.0) in
    let rounds : session_rounds divisor_of s.course.needs (2 ^ 20) 256 (Some 1) s.course.start ≡ session_rounds divisor_of (hamming ∷ []) (2 ^ 20) 256 (Some 1) fresh_start = rw (needs, fresh.start) refl in
    let stopped : true ≡ false = sym (ap (λ (r : SessionRounds). r.is_stopped) (rounds ∙ first_session)) ∙ whole.unstopped in
    cc

-- the one step, of which some was told
first_of : (told left : List SessionStep) (s : SessionStep) → s ∷ [] ≡ told ++ left → ¬ (told ≡ []) → told ≡ s ∷ []
first_of [] left s e some = absurd (some refl)
first_of (t ∷ []) left s e some = (let f = e in cc)
first_of (t ∷ u ∷ told) left s e some = absurd (let f = e in cc)

none_of : (told left : List SessionStep) → [] ≡ told ++ left → told ≡ []
none_of [] left e = refl
none_of (t ∷ told) left e = absurd (let f = e in cc)

some_end : (told : List SessionStep) (query blocks : ℕ) → EndsAt told query blocks → ¬ (told ≡ [])
some_end told query blocks (before, last, is, need, done_) none = by before (sym is ∙ none)
  where
    by : (before : List SessionStep) → before ++ last ∷ [] ≡ [] → ⊥
    by [] e = cc
    by (t ∷ before) e = cc

nothing_searched : (session_rounds divisor_of [] (2 ^ 20) 256 (Some 1) fresh_start).steps ≡ []
unfolding session_rounds session_from no_steps fresh_start
nothing_searched = refl

first_is : first_bytes ≡ checkpoint_text first_round
unfolding stored_bytes point_of
first_is = refl

some_first : is_empty (checkpoint_text first_round) ≡ false
unfolding checkpoint_computes is_empty
some_first = refl

abbrev pub OnlyHamming : Type 0
OnlyHamming = (needs : List Matrix) → MeetsFirst all_calls script needs → (needs ≡ []) ⊎ (needs ≡ hamming ∷ [])

-- the one record that a session with this slice tells
sliced_told : (course : Course) → IsFresh course → (course.needs ≡ []) ⊎ (course.needs ≡ hamming ∷ []) → (rounds_of sliced course).steps ≡ course.told ++ course.left → ¬ (course.told ≡ []) → course.told ≡ first_step ∷ []
sliced_told course fresh (inl e) rounds some =
    let is : (rounds_of sliced course).steps ≡ [] = rw (e, fresh.start) nothing_searched in
    absurd (some (none_of course.told course.left (sym is ∙ rounds)))
sliced_told course fresh (inr e) rounds some =
    let is : (rounds_of sliced course).steps ≡ first_step ∷ [] = rw (e, fresh.start) (ap (λ (r : SessionRounds). r.steps) first_session) in
    first_of course.told course.left first_step (sym is ∙ rounds) some

pub sliced_other_slot : OnlyHamming → IsSession all_calls sliced_arguments (begins_with full []) (ends_with (record { zero_slot = []; one_slot = first_bytes }) []) (paused 0 1) → ⊥
unfolding is_empty
sliced_other_slot only s =
    let old = begins_with full [] in
    let new = ends_with (record { zero_slot = []; one_slot = first_bytes }) [] in
    let same = asks_for all_calls sliced_arguments old new (paused 0 1) sliced s reads_sliced in
    let read : Reads run (paused 0 1) old.source new.source s.course = subst (λ (a : Settings). Reads a.command (paused 0 1) old.source new.source s.course) same s.read in
    let fresh : IsFresh s.course = subst (λ (a : Settings). Starts all_calls a.command (paused 0 1) a old.vault s.course) same s.started in
    let met : MeetsFirst all_calls s.course.bytes s.course.needs = subst (λ (a : Settings). Meets all_calls a a.command s.course) same s.met in
    let rounds : (rounds_of sliced s.course).steps ≡ s.course.told ++ s.course.left = subst (λ (a : Settings). (rounds_of a s.course).steps ≡ s.course.told ++ s.course.left) same s.rounds in
    let stored : Stores true (paused 0 1) sliced s.course old.vault new.vault = subst (λ (a : Settings). Stores a.keep (paused 0 1) a s.course old.vault new.vault) same s.stored in
    let bytes = gave_whole old.source new.source script s.course.bytes refl read in
    let needs = only s.course.needs (subst (λ (b : List ℕ). MeetsFirst all_calls b s.course.needs) (sym bytes) met) in
    let told = sliced_told s.course fresh needs rounds (some_end s.course.told 0 1 s.ended.at) in
    let now : told_slots sliced s.course full ≡ record { zero_slot = first_bytes; one_slot = [] } = rw (told, fresh.turn, sym bytes) refl in
    let (after, is, held) = stored in
    let zero_is : is_empty (zero_of new.vault) ≡ is_empty first_bytes = ap (λ (v : Option Slots). is_empty (zero_of v)) (is ∙ ap Some (held ∙ now)) in
    let never : true ≡ false = zero_is ∙ ap is_empty first_is ∙ some_first in
    cc

-- ---- a watcher that pauses

abbrev pub kept_arguments : List (List ℕ)
kept_arguments = codes "run" ∷ codes "keep=yes" ∷ []

abbrev pub kept_settings : Settings
kept_settings = record { command = run; workers = 1; round = 256; budget = 2 ^ 20; slice = None; keep = true; number = 0 }

reads_kept : options all_options kept_arguments ≡ settings kept_settings
unfolding is_digit number_from number_of widest same_bytes command_text key_text row all_options default_round settings_of number_in number_within yes_or_no put_key key_named row_named same_key place_of_key checked options_from options
reads_kept = refl

whole_session : session_rounds divisor_of (hamming ∷ []) (2 ^ 20) 256 None fresh_start ≡ record { steps = first_step ∷ second_step ∷ []; settled = second_step.state ∷ []; left = None; is_stopped = false }
unfolding rounds_compute
whole_session = refl

-- a watcher that has heard nothing and will answer so, and one that has heard a record and answered Pause to it
abbrev will_answer : List Advice → Hearing
will_answer advices = record { heard = Some []; coming = Some advices; pauses = 0 }

abbrev has_paused : SessionStep → List Advice → Hearing
has_paused step advices = record { heard = Some (records_of (step ∷ [])); coming = Some advices; pauses = 1 }

stays_paused : (step : SessionStep) (rest : List Advice) → Stays true (records_of (step ∷ [])) true (will_answer (Pause ∷ rest)) (has_paused step rest)
stays_paused step rest = record {
  advices = Pause ∷ [];
  as_many = refl;
  none_leaves = refl;
  coming = (rest, refl, refl);
  outlasting = refl;
  heard = refl;
  pauses = refl;
  calm = λ k. refl;
  last = refl;
}

abbrev pub paused_course : Course
paused_course = record { bytes = script; needs = hamming ∷ []; start = fresh_start; turn = 0; told = first_step ∷ []; left = second_step ∷ []; is_paused = true; text = []; is_faulty = false }

pub paused_session : MeetsFirst all_calls script (hamming ∷ []) → IsSession all_calls kept_arguments (begins_with full (will_answer (Pause ∷ Go ∷ []) ∷ [])) (ends_with (record { zero_slot = first_bytes; one_slot = [] }) (has_paused first_step (Go ∷ []) ∷ [])) (paused 0 1)
paused_session met = record {
  asked = kept_settings;
  course = paused_course;
  accepted = rw reads_kept (refl, λ i e. cc);
  possible = refl;
  read = record { gave = sym (append-nil script); ended = refl; within = short };
  started = record { start = refl; turn = refl };
  met = met;
  rounds = rw whole_session refl;
  ended = record { kept = refl; at = ([], first_step, refl, refl, refl); why = inl refl };
  heard = Kept.kept _ _ _ _ _ _ (stays_paused first_step (Go ∷ [])) Kept.no_more;
  stored = (record { zero_slot = first_bytes; one_slot = [] }, refl, refl);
  replied = tt;
  written = refl;
  counted = record { source = refl; sink = refl; vault = refl };
}

none_paused : (advices : List Advice) (w : Hearing) → Contains (will_answer advices ∷ []) w → 1 ≡ w.pauses → ⊥
none_paused advices w (zero, l, e) one = omega (arith, one ∙ ap (λ (x : Hearing). x.pauses) (sym e))
none_paused advices w (suc k, l, e) one = omega (arith, l)

-- a session that keeps its checkpoints, one of whose watchers answered Pause, doesn't end with a text, whatever else it did
no_text : (args : List (List ℕ)) (asked : Settings) (step : SessionStep) (rest : List Advice) (n : ℕ) (old new : Outside) → options all_options args ≡ settings asked → asked.keep ≡ true → old.watchers ≡ will_answer (Pause ∷ rest) ∷ [] → new.watchers ≡ has_paused step rest ∷ [] → IsSession all_calls args old new (done n) → ⊥
no_text args asked step rest n old new reads keeps before heard s =
    let same = asks_for all_calls args old new (done n) asked s reads in
    let (w, at, how) = paused_once all_calls args old new (done n) s (ap (λ (a : Settings). a.keep) same ∙ keeps) (has_paused step rest) (rw heard (0, omega arith, refl)) in
    ⊎_elim (λ (e : 1 ≡ w.pauses). none_paused (Pause ∷ rest) w (subst (λ (ws : List Hearing). Contains ws w) before at) e)
    (λ (e : (1 ≡ w.pauses + 1) × ((query blocks : ℕ) × (done n ≡ paused query blocks))). (let f : done n ≡ paused e.1.0 e.1.1 = e.1.2 in cc)) how

pub paused_no_text : (n : ℕ) (old new : Outside) → old.watchers ≡ will_answer (Pause ∷ Go ∷ []) ∷ [] → new.watchers ≡ has_paused first_step (Go ∷ []) ∷ [] → IsSession all_calls kept_arguments old new (done n) → ⊥
paused_no_text n old new before heard s = no_text kept_arguments kept_settings first_step (Go ∷ []) n old new reads_kept refl before heard s

-- ---- a checkpoint of version 1

-- after one block of the search
abbrev pub older : Checkpoint
older = after 1 (sha256 script) [] 1 3

abbrev pub resume_arguments : List (List ℕ)
resume_arguments = codes "resume" ∷ codes "keep=yes" ∷ []

abbrev pub resume_settings : Settings
resume_settings = record { command = resume; workers = 1; round = 256; budget = 2 ^ 20; slice = None; keep = true; number = 0 }

reads_resume : options all_options resume_arguments ≡ settings resume_settings
unfolding is_digit number_from number_of widest same_bytes command_text key_text row all_options default_round settings_of number_in number_within yes_or_no put_key key_named row_named same_key place_of_key checked options_from options
reads_resume = refl

abbrev pub older_slots : Slots
older_slots = record { zero_slot = checkpoint_text older; one_slot = codes "y" }

reads_older : checkpoint_in (checkpoint_text older) ≡ point older
unfolding checkpoint_computes plainly
reads_older = reads_plainly (checkpoint_text older) refl ∙ refl

reads_byte : checkpoint_in (codes "y") ≡ unread damaged
unfolding checkpoint_computes checkpoint_in
reads_byte = refl

some_text : is_empty (checkpoint_text older) ≡ false
unfolding checkpoint_computes is_empty
some_text = refl

takes_older : choice older_slots ≡ takes older
unfolding chosen later_of choice_among choice
takes_older = rw (some_text, reads_older, reads_byte) refl

for_script : is_for (sha256 script) (2 ^ 20) older ≡ true
unfolding checkpoint_computes same_bytes is_for
for_script = refl

fits_older : misfit divisor_of (hamming ∷ []) (2 ^ 20) (start_of (hamming ∷ []) older) ≡ None
unfolding truth_computes
fits_older = refl

older_rounds : session_rounds divisor_of (hamming ∷ []) (2 ^ 20) 256 None (start_of (hamming ∷ []) older) ≡ record { steps = second_step ∷ []; settled = second_step.state ∷ []; left = None; is_stopped = false }
unfolding rounds_compute
older_rounds = refl

abbrev pub second_bytes : List ℕ
second_bytes = stored_bytes 2 (sha256 script) (2 ^ 20) 1 second_step

abbrev pub resumed_course : Course
resumed_course = record { bytes = script; needs = hamming ∷ []; start = start_of (hamming ∷ []) older; turn = 1; told = second_step ∷ []; left = []; is_paused = true; text = []; is_faulty = false }

pub resumed_session : MeetsFirst all_calls script (hamming ∷ []) → IsSession all_calls resume_arguments (begins_with older_slots (will_answer (Pause ∷ []) ∷ [])) (ends_with (put One second_bytes older_slots) (has_paused second_step [] ∷ [])) (paused 0 2)
unfolding next_turn
resumed_session met = record {
  asked = resume_settings;
  course = resumed_course;
  accepted = rw reads_resume (refl, λ i e. cc);
  possible = refl;
  read = record { gave = sym (append-nil script); ended = refl; within = short };
  started = ((older, record { found = takes_older; same = for_script; start = refl; turn = refl }), fits_older);
  met = met;
  rounds = rw older_rounds refl;
  ended = record { kept = refl; at = ([], second_step, refl, refl, refl); why = inl refl };
  heard = Kept.kept _ _ _ _ _ _ (stays_paused second_step []) Kept.no_more;
  stored = (put One second_bytes older_slots, refl, refl);
  replied = tt;
  written = refl;
  counted = record { source = refl; sink = refl; vault = refl };
}

pub resumed_no_text : (n : ℕ) (old new : Outside) → old.watchers ≡ will_answer (Pause ∷ []) ∷ [] → new.watchers ≡ has_paused second_step [] ∷ [] → IsSession all_calls resume_arguments old new (done n) → ⊥
resumed_no_text n old new before heard s = no_text resume_arguments resume_settings second_step [] n old new reads_resume refl before heard s

only_older : (p : Checkpoint) → choice older_slots ≡ takes p → p ≡ older
only_older p is = (let e : takes p ≡ takes older = sym is ∙ takes_older in cc)

nothing_resumed : (session_rounds divisor_of [] (2 ^ 20) 256 None (start_of [] older)).steps ≡ []
unfolding rounds_compute
nothing_resumed = refl

resumed_told : (course : Course) (p : Checkpoint) → GoesOnFrom resume_settings (Some older_slots) course p → (course.needs ≡ []) ⊎ (course.needs ≡ hamming ∷ []) → (rounds_of resume_settings course).steps ≡ course.told ++ course.left → ¬ (course.told ≡ []) → (course.told ≡ second_step ∷ []) × (course.turn ≡ 1)
unfolding next_turn
resumed_told course p from (inl e) rounds some =
    let p_is = only_older p from.found in
    let start : course.start ≡ start_of [] older = from.start ∙ ap (λ (q : Checkpoint). start_of course.needs q) p_is ∙ ap (λ (needs : List Matrix). start_of needs older) e in
    let is : (rounds_of resume_settings course).steps ≡ [] = rw (e, start) nothing_resumed in
    absurd (some (none_of course.told course.left (sym is ∙ rounds)))
resumed_told course p from (inr e) rounds some =
    let p_is = only_older p from.found in
    let start : course.start ≡ start_of (hamming ∷ []) older = from.start ∙ ap (λ (q : Checkpoint). start_of course.needs q) p_is ∙ ap (λ (needs : List Matrix). start_of needs older) e in
    let is : (rounds_of resume_settings course).steps ≡ second_step ∷ [] = rw (e, start) (ap (λ (r : SessionRounds). r.steps) older_rounds) in
    (first_of course.told course.left second_step (sym is ∙ rounds) some, from.turn ∙ ap (λ (q : Checkpoint). next_turn q.turn) p_is)

longer_text : (length second_bytes == 1) ≡ false
unfolding checkpoint_computes stored_bytes point_of
longer_text = refl

pub resumed_other_slot : OnlyHamming → IsSession all_calls resume_arguments (begins_with older_slots (will_answer (Pause ∷ []) ∷ [])) (ends_with (put Zero second_bytes older_slots) (has_paused second_step [] ∷ [])) (paused 0 2) → ⊥
unfolding next_turn
resumed_other_slot only s =
    let old = begins_with older_slots (will_answer (Pause ∷ []) ∷ []) in
    let new = ends_with (put Zero second_bytes older_slots) (has_paused second_step [] ∷ []) in
    let same = asks_for all_calls resume_arguments old new (paused 0 2) resume_settings s reads_resume in
    let read : Reads resume (paused 0 2) old.source new.source s.course = subst (λ (a : Settings). Reads a.command (paused 0 2) old.source new.source s.course) same s.read in
    let started : Starts all_calls resume (paused 0 2) resume_settings old.vault s.course = subst (λ (a : Settings). Starts all_calls a.command (paused 0 2) a old.vault s.course) same s.started in
    let met : MeetsFirst all_calls s.course.bytes s.course.needs = subst (λ (a : Settings). Meets all_calls a a.command s.course) same s.met in
    let rounds : (rounds_of resume_settings s.course).steps ≡ s.course.told ++ s.course.left = subst (λ (a : Settings). (rounds_of a s.course).steps ≡ s.course.told ++ s.course.left) same s.rounds in
    let stored : Stores true (paused 0 2) resume_settings s.course old.vault new.vault = subst (λ (a : Settings). Stores a.keep (paused 0 2) a s.course old.vault new.vault) same s.stored in
    let bytes = gave_whole old.source new.source script s.course.bytes refl read in
    let needs = only s.course.needs (subst (λ (b : List ℕ). MeetsFirst all_calls b s.course.needs) (sym bytes) met) in
    let (told, turn) = resumed_told s.course started.0.0 started.0.1 needs rounds (some_end s.course.told 0 2 s.ended.at) in
    let now : told_slots resume_settings s.course older_slots ≡ put One second_bytes older_slots = rw (told, turn, sym bytes) refl in
    let (after, is, held) = stored in
    let one_is : codes "y" ≡ second_bytes = ap one_of (is ∙ ap Some (held ∙ now)) in
    let never : true ≡ false = ap (λ (text : List ℕ). length text == 1) one_is ∙ longer_text in
    cc
