-- What follows from the contract of a session.
--   asks_for              accepted arguments ask for these settings
--   refused_exactly       refused arguments end the session with their index, and no others do
--   unsliced              without a slice no session is stopped by one
--   gave_whole            a source that was read to its end gave all that it had
--   completed             what is left when nothing fails, nothing pauses and the checkpoint is usable: the text, or no memory
use Rattle.std.proofs.Common.{◌≡◌, ℕ, ◌<◌, ◌≤◌, refl, arith, ap, sym, subst, ◌∙◌, zero, suc, ⊎_elim}
use Rattle.std.specs.Prelude.{List, [], ◌∷◌, ◌++◌, true, false, Option, Some, None, length, drop, unwrap_or, ◌-◌, IsTrue}
use Rattle.std.proofs.lemmas.List.{append-nil, length-append}
use Rattle.sha2.specs.Sha256.{sha256}
use Rattle.lc_algebra.specs.Matrix.{Matrix}
use Rattle.lc_algebra.specs.Divisor.{divisor_of}
use Rattle.lc_enumeration.specs.Search.{Answer, finished}
use Rattle.lc_enumeration.specs.Records.{Progress, Start, found_of, first_progress, last_state, Rounds, no_round, state_first, is_used_up, less_slice, round_length, after_round, rounds_within, rounds, no_steps, steps_first, session_from, session_rounds}
use Rattle.lc_enumeration.specs.Fitting.{Misfit, misfit}
use Rattle.lc_formats.specs.Checkpoint.{Checkpoint}
use Rattle.lc_formats.specs.Truth.{start_of}
use Rattle.lc_session_rules.specs.Needs.{IsNeeds, MeetsFirst}
use Rattle.lc_io.specs.Vaults.{Slots}
use Rattle.lc_language.specs.declared.Call.{Call}
use Rattle.lc_session_rules.specs.Options.{Command, run, resume, check, summary, Settings, Options, settings, usage as refuses, all_options, options}
use Rattle.lc_session_rules.specs.Slots.{Choice, nothing_stored, none_decodes, takes, choice, is_for}
use Rattle.lc_session_rules.specs.Session.{Outside, Course, most_bytes, Accepts, WasRead, GaveTooMuch, ReadsScript, Reads, Starts, Resumes, Meets, Finds, IsUnfit, rounds_of, reads, IsSession}
use Rattle.lc_session_rules.specs.Promises.{IsUsable, IsAnswer, IsAmple}
use Rattle.lc_session_rules.specs.Endings.{Ending, done, usage, paused, source_fault, sink_fault, vault_fault, no_memory, no_checkpoint, damaged_checkpoint, other_script, rejected, too_long, unfit}
use Rattle.lc_session_rules.proofs.SaidLaws.{of_resume}

pub asks_for : (table : List Call) (args : List (List ℕ)) (old new : Outside) (ending : Ending) (asked : Settings) (s : IsSession table args old new ending) → options all_options args ≡ settings asked → s.asked ≡ asked
asks_for table args old new ending asked s is = (rw is at s.accepted).0

only_refused : (o : Options) (asked : Settings) (old new : Outside) (ending : Ending) (i : ℕ) → Accepts o asked old new ending → ending ≡ usage i → o ≡ refuses i
only_refused (refuses j) asked old new ending i a is = (let same : usage j ≡ usage i = sym a.1 ∙ is in cc)
only_refused (settings s) asked old new ending i a is = absurd (a.1 i is)

pub refused_exactly : (table : List Call) (args : List (List ℕ)) (old new : Outside) (ending : Ending) (i : ℕ) (s : IsSession table args old new ending)
    → (options all_options args ≡ refuses i → ending ≡ usage i) × (ending ≡ usage i → options all_options args ≡ refuses i)
refused_exactly table args old new ending i s = (λ is. (rw is at s.accepted).1, λ is. only_refused (options all_options args) s.asked old new ending i s.accepted is)

unsliced_step : (answer : Option Answer) (next : Progress) (rest : Rounds) → (rest.is_stopped ≡ false) × (rest.left ≡ None)
    → let r : Rounds = elim answer as (λ _. Rounds) [ Some _ ↦ no_round None false | None ↦ state_first next rest ] in (r.is_stopped ≡ false) × (r.left ≡ None)
unfolding no_round state_first
unsliced_step None next rest h = h
unsliced_step (Some a) next rest h = (refl, refl)

unsliced_rounds : (most d : ℕ) (C : Matrix) (budget longest : ℕ) (state : Progress) → ((rounds_within most d C budget longest None state).is_stopped ≡ false) × ((rounds_within most d C budget longest None state).left ≡ None)
unfolding rounds_within no_round state_first is_used_up less_slice
unsliced_rounds zero d C budget longest state = (refl, refl)
unsliced_rounds (suc most) d C budget longest state =
    let next = after_round C state (round_length C budget longest None state.blocks) in
    unsliced_step (finished d C budget state.blocks (found_of state)) next (rounds_within most d C budget longest None next) (unsliced_rounds most d C budget longest next)

unsliced_from : (divisor : Matrix → ℕ) (needs : List Matrix) (budget longest : ℕ) (settled : List Progress) (current : Option Progress) → (session_from divisor needs budget longest None settled current).is_stopped ≡ false
unfolding session_from no_steps steps_first rounds
unsliced_from divisor [] budget longest settled current = refl
unsliced_from divisor (C ∷ needs) budget longest settled current =
    let s = unwrap_or current (first_progress C) in
    let r = unsliced_rounds (suc (budget - s.blocks)) (divisor C) C budget longest s in
    rw (r.0, r.1) (unsliced_from divisor needs budget longest (settled ++ last_state s (rounds (divisor C) C budget longest None s).states ∷ []) None)

pub unsliced : (divisor : Matrix → ℕ) (needs : List Matrix) (budget longest : ℕ) (start : Start) → (session_rounds divisor needs budget longest None start).is_stopped ≡ false
unfolding session_rounds
unsliced divisor needs budget longest start = unsliced_from divisor (drop (length start.settled) needs) budget longest start.settled start.current

-- what `resume` finds is what the premise says
one_choice : (held : Option Slots) (slots : Slots) (c d : Choice) → held ≡ Some slots → choice slots ≡ c → Finds held d → d ≡ c
one_choice held slots c d told is found = let f : Finds (Some slots) d = subst (λ (h : Option Slots). Finds h d) told found in sym f ∙ is

pub gave_whole : (old new : Option (List ℕ)) (bytes given : List ℕ) → old ≡ Some bytes → WasRead old new given → bytes ≡ given
gave_whole None new bytes given is r = absurd (let e = is in cc)
gave_whole (Some held) None bytes given is r = absurd r.gave
gave_whole (Some held) (Some left) bytes given is r =
    let e : held ≡ bytes = (let same = is in cc) in
    sym e ∙ r.gave ∙ ap (λ (l : List ℕ). given ++ l) r.ended ∙ append-nil given

not_too_much : (old new : Option (List ℕ)) (bytes : List ℕ) → old ≡ Some bytes → length bytes ≤ most_bytes → GaveTooMuch old new → ⊥
not_too_much None new bytes is within r = absurd (let e = is in cc)
not_too_much (Some held) None bytes is within r = absurd r.2
not_too_much (Some held) (Some left) bytes is within (given, size, gave) =
    let e : held ≡ bytes = (let same = is in cc) in
    let whole : length held ≡ length (given ++ left) = ap (λ (l : List ℕ). length l) gave in
    omega (arith, within, size, ap (λ (l : List ℕ). length l) e, whole, length-append given left)

stops_not : (asked : Settings) (course : Course) → asked.slice ≡ None → (rounds_of asked course).is_stopped ≡ true → ⊥
stops_not asked course none stopped =
    let open_end : (rounds_of asked course).is_stopped ≡ false = rw none (unsliced divisor_of course.needs asked.budget asked.round course.start) in
    (let e : true ≡ false = sym stopped ∙ open_end in cc)

reads_script : (command : Command) (ending : Ending) (old new : Option (List ℕ)) (course : Course) → IsTrue (reads command) → Reads command ending old new course → ReadsScript ending old new course
reads_script run ending old new course h r = r
reads_script resume ending old new course h r = r
reads_script check ending old new course h r = r
reads_script summary ending old new course h r = absurd (let e = h in cc)

same_taken : (p q : Checkpoint) → takes p ≡ takes q → p ≡ q
same_taken p q is = cc

-- a checkpoint that fits every need fits those that were met
none_unfit : (table : List Call) (asked : Settings) (course : Course) (m : Misfit) (held : Option Slots) (u : IsUsable table asked course.bytes held) → course.start ≡ start_of course.needs u.p → MeetsFirst table course.bytes course.needs → IsUnfit table asked course m → ⊥
none_unfit table asked course m held u start met unfits =
    let f = u.fits course.needs m met (subst (λ (t : Start). misfit divisor_of course.needs asked.budget t ≡ Some m) start unfits.0) in
    ⊎_elim (λ (e : (m.need < length course.needs) × MeetsFirst table course.bytes course.needs). omega (arith, f.0, e.0)) (λ (e : IsNeeds table course.bytes course.needs). f.1 e) unfits.1

pub completed : (table : List Call) (args : List (List ℕ)) (old new : Outside) (ending : Ending) (s : IsSession table args old new ending) → IsAmple table args old new s.asked s.course → IsAnswer ending
completed table args old new (done n) s a = tt
completed table args old new (usage i) s a = absurd ((rw a.arguments at s.accepted).1 i refl)
completed table args old new (paused query blocks) s a =
    absurd (⊎_elim (λ (e : s.course.is_paused ≡ true). let f : true ≡ false = sym e ∙ a.unpaused s.ended.kept in cc) (λ (e : (s.course.left ≡ []) × ((rounds_of s.asked s.course).is_stopped ≡ true)). stops_not s.asked s.course a.unsliced e.1) s.ended.why)
completed table args old new source_fault s a = absurd (a.source_works s.counted.0)
completed table args old new sink_fault s a = absurd (a.sink_works s.counted.1)
completed table args old new (vault_fault told) s a = absurd (a.vault_works s.counted.2)
completed table args old new (no_memory told) s a = tt
completed table args old new no_checkpoint s a =
    let c = of_resume s.asked.command s.possible in
    let u = a.usable c in
    let found : Finds old.vault nothing_stored = subst (λ c. Starts table c no_checkpoint s.asked old.vault s.course) c s.started in
    absurd (let e = one_choice old.vault u.slots (takes u.p) nothing_stored u.told u.taken found in cc)
completed table args old new damaged_checkpoint s a =
    let c = of_resume s.asked.command s.possible in
    let u = a.usable c in
    let found : Finds old.vault none_decodes = subst (λ c. Starts table c damaged_checkpoint s.asked old.vault s.course) c s.started in
    absurd (let e = one_choice old.vault u.slots (takes u.p) none_decodes u.told u.taken found in cc)
completed table args old new (other_script script budget) s a =
    let c = of_resume s.asked.command s.possible in
    let u = a.usable c in
    let started : Resumes table (other_script script budget) s.asked old.vault s.course = subst (λ c. Starts table c (other_script script budget) s.asked old.vault s.course) c s.started in
    let read : WasRead old.source new.source s.course.bytes = subst (λ c. Reads c (other_script script budget) old.source new.source s.course) c s.read in
    let p_is : started.0 ≡ u.p = same_taken started.0 u.p (one_choice old.vault u.slots (takes u.p) (takes started.0) u.told u.taken started.1) in
    let bytes_are : a.bytes ≡ s.course.bytes = gave_whole old.source new.source a.bytes s.course.bytes a.source read in
    let same : is_for (sha256 a.bytes) s.asked.budget u.p ≡ false = subst (λ (p : Checkpoint). is_for (sha256 a.bytes) s.asked.budget p ≡ false) p_is (subst (λ (b : List ℕ). is_for (sha256 b) s.asked.budget started.0 ≡ false) (sym bytes_are) started.2) in
    absurd (let e : true ≡ false = sym u.same ∙ same in cc)
completed table args old new (rejected reason) s a = tt
completed table args old new too_long s a = absurd (not_too_much old.source new.source a.bytes a.source a.within (reads_script s.asked.command too_long old.source new.source s.course s.possible s.read))
completed table args old new (unfit query told found) s a =
    let c = of_resume s.asked.command s.possible in
    let ending : Ending = unfit query told found in
    let started : Resumes table ending s.asked old.vault s.course = subst (λ c. Starts table c ending s.asked old.vault s.course) c s.started in
    let read : WasRead old.source new.source s.course.bytes = subst (λ c. Reads c ending old.source new.source s.course) c s.read in
    let met : MeetsFirst table s.course.bytes s.course.needs = subst (λ c. Meets table s.asked c s.course) c s.met in
    let u : IsUsable table s.asked s.course.bytes old.vault = subst (λ (b : List ℕ). IsUsable table s.asked b old.vault) (gave_whole old.source new.source a.bytes s.course.bytes a.source read) (a.usable c) in
    let p_is : started.0 ≡ u.p = same_taken started.0 u.p (one_choice old.vault u.slots (takes u.p) (takes started.0) u.told u.taken started.1.found) in
    absurd (none_unfit table s.asked s.course (record { need = query; told = told; found = found }) old.vault u (started.1.start ∙ ap (λ (p : Checkpoint). start_of s.course.needs p) p_is) met started.3)
