-- How sessions of `run` and `resume` end.
--   run_ends             `run`, once it has emptied the slots
--   resume_ends          `resume`, once it has taken a checkpoint
use Rattle.std.proofs.Common.{◌≡◌, ◌≤◌, ◌^◌, ◌⊎◌, inl, inr, ℕ, Bool, true, false, IsTrue, Result, Ok, Err, List, [], Option, None, refl, sym, ap, subst, ◌∙◌}
use Rattle.std.specs.Prelude.{MatchResult}
use Rattle.sha2.specs.Sha256.{sha256}
use Rattle.lc_algebra.specs.Matrix.{Matrix}
use Rattle.lc_algebra.specs.Divisor.{divisor_of}
use Rattle.lc_enumeration.specs.Records.{SessionStep, fresh_start}
use Rattle.lc_enumeration.specs.Fitting.{misfit}
use Rattle.lc_formats.specs.Checkpoint.{Checkpoint, current_of}
use Rattle.lc_io.specs.Vaults.{Slots}
use Rattle.lc_calls.specs.Built.{built_calls}
use Rattle.lc_session_rules.specs.Options.{Command, run, resume, Settings}
use Rattle.lc_session_rules.specs.Needs.{OneScript, OneStep, NoFault}
use Rattle.lc_session_rules.specs.Nears.{NearsHold}
use Rattle.lc_session_rules.specs.Slots.{next_turn, takes, is_for}
use Rattle.lc_session_rules.specs.Endings.{Ending, done, paused, sink_fault, vault_fault, no_memory, unfit}
use Rattle.lc_session_rules.specs.Session as session
use Rattle.lc_session_rules.specs.Session.{Outside, IsFresh, IsResumed, MayBeResumed, Finds, can_end, Starts, Resumes, IsStarted, Judges, end_number, IsSession}
use Rattle.lc_rounds.specs.Way.{Around}
use Rattle.lc_rounds.specs.declared.rounds.Stop.{Stop}
use Rattle.lc_rounds.specs.declared.rounds.Stop.TheVariants as stop
use Rattle.lc_session_rules.specs.Course.{afresh, after, begins}
use Rattle.lc_session_rules.proofs.FitLaws.{fits_anew}
use Rattle.lc_rounds.specs.declared.course.Course.{Course}
use Rattle.lc_rounds.specs.declared.need.Halt.{Halt}
use Rattle.lc_rounds.specs.declared.need.Halt.TheVariants as halt
use Rattle.lc_text.specs.declared.statements.Text.{Text}
use Rattle.lc_rounds.specs.Going.{World, rounds_from, IsMisfit}
use Rattle.lc_text.specs.Text.{Prints, EndsBefore}
use Rattle.lc_text.specs.Worlds.{outside_of, world}
use Rattle.lc_text.proofs.SessionLaws.{IsReady, course_of, fits_all, paused_session, torn_session, starved_session, unfit_session, done_session, unwritten_session}
use Rattle.lc_text.proofs.ReplyLaws.{whole_met, run_replies, resumed, resume_replies, resume_unfit}
use Rattle.lc_session.specs.declared.status.Status.{Status}
use Rattle.lc_session.specs.Ending.{ending_of}
use Rattle.lc_session.specs.Closing.{Closes, IsClosed}

can_so : (ending : Ending) (c d : Command) → c ≡ d → can_end ending d ≡ true → IsTrue (can_end ending c)
can_so ending c d e h = ap (can_end ending) e ∙ h

starts_so : (ending : Ending) (asked : Settings) (held : Option Slots) (course : session.Course) (d : Command) → asked.command ≡ d → Starts built_calls d ending asked held course → Starts built_calls asked.command ending asked held course
starts_so ending asked held course d e h = subst (λ (x : Command). Starts built_calls x ending asked held course) (sym e) h

is_started_so : (asked : Settings) (held : Option Slots) (course : session.Course) (d : Command) → asked.command ≡ d → IsStarted d asked held course → IsStarted asked.command asked held course
is_started_so asked held course d e h = subst (λ (x : Command). IsStarted x asked held course) (sym e) h

judges_so : (bytes : List ℕ) (c d : Command) → c ≡ d → Judges d bytes → Judges c bytes
judges_so bytes c d e h = subst (λ (x : Command). Judges x bytes) (sym e) h

module _ (args : List (List ℕ)) (asked : Settings) (old : Outside) (source : Option (List ℕ)) (source_faults : ℕ) (bytes : List ℕ) (held : Option Slots) (ready : IsReady args asked old source source_faults bytes held) (script : OneScript bytes) (one : OneStep built_calls) (sound : NoFault bytes) (small : asked.budget ≤ 2 ^ 40) (long : 1 ≤ asked.round) (near : NearsHold built_calls bytes asked.budget) (c : Course) (now : Around) (sink : Option (List ℕ)) (sink_faults : ℕ) where
  abbrev pub final : Outside
  final = outside_of source source_faults sink sink_faults now

  abbrev pub unwritten : Outside
  unwritten = outside_of source source_faults old.sink old.sink_faults now

  ends_as : (s : Status) (e : Ending) → ending_of s ≡ e → (sink ≡ old.sink) → (sink_faults ≡ old.sink_faults) → IsSession built_calls args old unwritten e → IsSession built_calls args old final (ending_of s)
  ends_as s e is same calm h =
      subst (λ (x : Ending). IsSession built_calls args old final x) (sym is)
      (subst (λ (n : ℕ). IsSession built_calls args old (outside_of source source_faults sink n now) e) (sym calm)
      (subst (λ (o : Option (List ℕ)). IsSession built_calls args old (outside_of source source_faults o old.sink_faults now) e) (sym same) h))

  as_status : (s : Status) (e : Ending) → ending_of s ≡ e → IsSession built_calls args old final e → IsSession built_calls args old final (ending_of s)
  as_status s e is h = subst (λ (x : Ending). IsSession built_calls args old final x) (sym is) h

  -- ---- run

  fresh : (course : session.Course) → course.start ≡ fresh_start → course.turn ≡ 0 → IsFresh course
  fresh course s t = record { start = s; turn = t }

  never_unfit : (needs : List Matrix) (need told found : ℕ) → IsMisfit (world asked bytes afresh 0 held old) needs c now need told found → ⊥
  unfolding fresh_start
  never_unfit needs need told found h = let e = sym h.first ∙ fits_anew divisor_of asked.budget [] needs [] tt in cc

  run_written : (t : Text) (s : Status) → asked.command ≡ run → Prints (world asked bytes afresh 0 held old) bytes t c now → IsClosed t.bytes.items (end_number t.ends) old.sink sink old.sink_faults sink_faults s → IsSession built_calls args old final (ending_of s)
  run_written t s runs h (inl (is, written, calm)) =
      as_status s (done (end_number t.ends)) (ap ending_of is)
      (done_session args asked old source source_faults bytes held ready afresh 0 c now t sink sink_faults h (whole_met bytes h.needs h.asks_all) (can_so (done (end_number t.ends)) asked.command run runs refl)
      (starts_so (done (end_number t.ends)) asked old.vault (course_of bytes afresh 0 h.needs h.told [] h.way.is_paused t.bytes.items t.ends) run runs (record { start = refl; turn = refl }))
      (run_replies bytes script one sound asked small long near old held 0 t c now h runs) (judges_so bytes asked.command run runs tt) written calm)
  run_written t s runs h (inr (is, written, risen)) =
      as_status s sink_fault (ap ending_of is)
      (unwritten_session args asked old source source_faults bytes held ready afresh 0 c now t sink sink_faults h (whole_met bytes h.needs h.asks_all) (can_so sink_fault asked.command run runs refl)
      (starts_so sink_fault asked old.vault (course_of bytes afresh 0 h.needs h.told [] h.way.is_paused t.bytes.items t.ends) run runs (record { start = refl; turn = refl }))
      (run_replies bytes script one sound asked small long near old held 0 t c now h runs) written risen)

  run_halted : (x : Halt) (s : Status) → asked.command ≡ run → EndsBefore (world asked bytes afresh 0 held old) bytes c now x → Closes (Err x) c old.sink sink old.sink_faults sink_faults s → IsSession built_calls args old final (ending_of s)
  run_halted (halt.Stop stop.Paused) s runs h (is, same, calm) =
      ends_as s (paused c.pace.last.query c.pace.last.blocks) (ap ending_of is) same calm
      (paused_session args asked old source source_faults bytes held ready afresh 0 c now h.0 h.1 h.2 (can_so (paused c.pace.last.query c.pace.last.blocks) asked.command run runs refl)
      (starts_so (paused c.pace.last.query c.pace.last.blocks) asked old.vault (course_of bytes afresh 0 h.0 h.2.told h.2.left h.2.stopped.is_paused [] false) run runs (record { start = refl; turn = refl })))
  run_halted (halt.Stop stop.VaultFault) s runs h (is, same, calm) =
      ends_as s (vault_fault c.pace.told) (ap ending_of is) same calm
      (torn_session args asked old source source_faults bytes held ready afresh 0 c now h.0 h.1 h.2 (can_so (vault_fault c.pace.told) asked.command run runs refl)
      (starts_so (vault_fault c.pace.told) asked old.vault (course_of bytes afresh 0 h.0 h.2.told h.2.left h.2.stopped.is_paused [] false) run runs (record { start = refl; turn = refl }))
      (is_started_so asked old.vault (course_of bytes afresh 0 h.0 h.2.told h.2.left h.2.stopped.is_paused [] false) run runs tt))
  run_halted (halt.Stop stop.NoMemory) s runs h (is, same, calm) =
      ends_as s (no_memory c.pace.told) (ap ending_of is) same calm
      (starved_session args asked old source source_faults bytes held ready afresh 0 c now h.0 h.1 h.2 (can_so (no_memory c.pace.told) asked.command run runs refl)
      (starts_so (no_memory c.pace.told) asked old.vault (course_of bytes afresh 0 h.0 h.2.told h.2.left h.2.stopped.is_paused [] false) run runs (record { start = refl; turn = refl }))
      (is_started_so asked old.vault (course_of bytes afresh 0 h.0 h.2.told h.2.left h.2.stopped.is_paused [] false) run runs tt))
  run_halted (halt.Unfit told found) s runs h closed = absurd (never_unfit h.0 c.met told found h.2)

  pub run_ends : (r : Result Text Halt) (s : Status) → asked.command ≡ run → MatchResult r (λ t. Prints (world asked bytes afresh 0 held old) bytes t c now) (λ x. EndsBefore (world asked bytes afresh 0 held old) bytes c now x) → Closes r c old.sink sink old.sink_faults sink_faults s → IsSession built_calls args old final (ending_of s)
  run_ends (Ok t) s runs h closed = run_written t s runs h closed
  run_ends (Err x) s runs h closed = run_halted x s runs h closed

  -- ---- resume

  module _ (p : Checkpoint) (found : Finds old.vault (takes p)) (same_script : IsTrue (is_for (sha256 bytes) asked.budget p)) (turn : ℕ) (turns : turn ≡ next_turn p.turn) (resumes : asked.command ≡ resume) where
    abbrev pub over : World
    over = world asked bytes (after p.version p.settled (current_of p)) turn held old

    abbrev pub its_course : (needs : List Matrix) (told left : List SessionStep) (is_paused : Bool) (text : List ℕ) (faulty : Bool) → session.Course
    its_course needs told left is_paused text faulty = course_of bytes (after p.version p.settled (current_of p)) turn needs told left is_paused text faulty

    taken_up : (needs : List Matrix) (told left : List SessionStep) (is_paused : Bool) (text : List ℕ) (faulty : Bool) → IsResumed asked old.vault (its_course needs told left is_paused text faulty)
    taken_up needs told left is_paused text faulty = resumed bytes script one sound asked small long near old held turn p found same_script turns needs told left is_paused text faulty

    may_be : (why : Stop) (needs : List Matrix) (told left : List SessionStep) (is_paused : Bool) → ((why ≡ stop.NoMemory) × (told ≡ [])) ⊎ (misfit divisor_of needs asked.budget (begins (after p.version p.settled (current_of p)) needs) ≡ None) → MayBeResumed asked old.vault (its_course needs told left is_paused [] false)
    may_be why needs told left is_paused (inl e) = inl e.1
    may_be why needs told left is_paused (inr e) = inr (taken_up needs told left is_paused [] false, e)

    starts_resumed : (ending : Ending) (course : session.Course) → Resumes built_calls ending asked old.vault course → Starts built_calls asked.command ending asked old.vault course
    starts_resumed ending course h = starts_so ending asked old.vault course resume resumes h

    resume_written : (t : Text) (s : Status) → Prints over bytes t c now → IsClosed t.bytes.items (end_number t.ends) old.sink sink old.sink_faults sink_faults s → IsSession built_calls args old final (ending_of s)
    resume_written t s h (inl (is, written, calm)) =
        as_status s (done (end_number t.ends)) (ap ending_of is)
        (done_session args asked old source source_faults bytes held ready (after p.version p.settled (current_of p)) turn c now t sink sink_faults h (whole_met bytes h.needs h.asks_all) (can_so (done (end_number t.ends)) asked.command resume resumes refl)
        (starts_resumed (done (end_number t.ends)) (its_course h.needs h.told [] h.way.is_paused t.bytes.items t.ends) (taken_up h.needs h.told [] h.way.is_paused t.bytes.items t.ends, h.fitting))
        (resume_replies bytes script one sound asked small long near old held turn p found same_script turns t c now h resumes) (judges_so bytes asked.command resume resumes tt) written calm)
    resume_written t s h (inr (is, written, risen)) =
        as_status s sink_fault (ap ending_of is)
        (unwritten_session args asked old source source_faults bytes held ready (after p.version p.settled (current_of p)) turn c now t sink sink_faults h (whole_met bytes h.needs h.asks_all) (can_so sink_fault asked.command resume resumes refl)
        (starts_resumed sink_fault (its_course h.needs h.told [] h.way.is_paused t.bytes.items t.ends) (taken_up h.needs h.told [] h.way.is_paused t.bytes.items t.ends, h.fitting))
        (resume_replies bytes script one sound asked small long near old held turn p found same_script turns t c now h resumes) written risen)

    resume_halted : (x : Halt) (s : Status) → EndsBefore over bytes c now x → Closes (Err x) c old.sink sink old.sink_faults sink_faults s → IsSession built_calls args old final (ending_of s)
    resume_halted (halt.Stop stop.Paused) s h (is, same, calm) =
        ends_as s (paused c.pace.last.query c.pace.last.blocks) (ap ending_of is) same calm
        (paused_session args asked old source source_faults bytes held ready (after p.version p.settled (current_of p)) turn c now h.0 h.1 h.2 (can_so (paused c.pace.last.query c.pace.last.blocks) asked.command resume resumes refl)
        (starts_resumed (paused c.pace.last.query c.pace.last.blocks) (its_course h.0 h.2.told h.2.left h.2.stopped.is_paused [] false)
        (taken_up h.0 h.2.told h.2.left h.2.stopped.is_paused [] false, fits_all (λ e. cc) h.2.fitting)))
    resume_halted (halt.Stop stop.VaultFault) s h (is, same, calm) =
        ends_as s (vault_fault c.pace.told) (ap ending_of is) same calm
        (torn_session args asked old source source_faults bytes held ready (after p.version p.settled (current_of p)) turn c now h.0 h.1 h.2 (can_so (vault_fault c.pace.told) asked.command resume resumes refl)
        (starts_resumed (vault_fault c.pace.told) (its_course h.0 h.2.told h.2.left h.2.stopped.is_paused [] false) (may_be stop.VaultFault h.0 h.2.told h.2.left h.2.stopped.is_paused h.2.fitting))
        (is_started_so asked old.vault (its_course h.0 h.2.told h.2.left h.2.stopped.is_paused [] false) resume resumes (taken_up h.0 h.2.told h.2.left h.2.stopped.is_paused [] false)))
    resume_halted (halt.Stop stop.NoMemory) s h (is, same, calm) =
        ends_as s (no_memory c.pace.told) (ap ending_of is) same calm
        (starved_session args asked old source source_faults bytes held ready (after p.version p.settled (current_of p)) turn c now h.0 h.1 h.2 (can_so (no_memory c.pace.told) asked.command resume resumes refl)
        (starts_resumed (no_memory c.pace.told) (its_course h.0 h.2.told h.2.left h.2.stopped.is_paused [] false) (may_be stop.NoMemory h.0 h.2.told h.2.left h.2.stopped.is_paused h.2.fitting))
        (is_started_so asked old.vault (its_course h.0 h.2.told h.2.left h.2.stopped.is_paused [] false) resume resumes (taken_up h.0 h.2.told h.2.left h.2.stopped.is_paused [] false)))
    resume_halted (halt.Unfit told found_there) s h (is, same, calm) =
        ends_as s (unfit c.met told found_there) (ap ending_of is) same calm
        (unfit_session args asked old source source_faults bytes held ready (after p.version p.settled (current_of p)) turn c now h.0 told found_there h.1 resumes h.2
        (λ is_paused. starts_resumed (unfit c.met told found_there) (its_course h.0 [] (rounds_from over h.0).steps is_paused [] false) (resume_unfit bytes script one sound asked small long near old held turn p found same_script turns c now h.0 told found_there is_paused h.1 h.2 h.3)))

    pub resume_ends : (r : Result Text Halt) (s : Status) → MatchResult r (λ t. Prints over bytes t c now) (λ x. EndsBefore over bytes c now x) → Closes r c old.sink sink old.sink_faults sink_faults s → IsSession built_calls args old final (ending_of s)
    resume_ends (Ok t) s h closed = resume_written t s h closed
    resume_ends (Err x) s h closed = resume_halted x s h closed
