-- How a session of `run` or `resume` ends, from what its text and its searches did.
--   IsReady              its searches start
--   course_of            how it went
--   fits_all             its records fit, unless memory was refused
--   assembled            the contract of a session, from its parts
--   paused_session, torn_session, starved_session, unfit_session      it ended before its script
--   done_session, unwritten_session      it has its text
use Rattle.std.proofs.Common.{◌≡◌, ◌⊎◌, inl, inr, ℕ, Bool, true, false, IsTrue, List, [], ◌++◌, Option, Some, None, refl, sym, ap, subst, ◌∙◌}
use Rattle.std.specs.Io.KnownBytes.{Appends}
use Rattle.std.proofs.lemmas.List.{append-nil}
use Rattle.sha2.specs.Sha256.{sha256}
use Rattle.lc_algebra.specs.Matrix.{Matrix}
use Rattle.lc_enumeration.specs.Records.{SessionStep, SessionRounds}
use Rattle.lc_io.specs.Outside.{HasRisen, AppendsPart}
use Rattle.lc_io.specs.Vaults.{Slots, WhereTold, IsTorn}
use Rattle.lc_io.specs.Told.{Kept}
use Rattle.lc_io.proofs.SlotLaws.{WhereTold-then}
use Rattle.lc_io.specs.declared.watcher.Record.{Record}
use Rattle.lc_checkpoint.specs.Seen.{point_of}
use Rattle.lc_calls.specs.Built.{built_calls}
use Rattle.lc_session_rules.specs.Options.{Command, run, resume, Settings, Options, settings, options, all_options}
use Rattle.lc_session_rules.specs.Needs.{MeetsFirst}
use Rattle.lc_session_rules.specs.Slots.{slot_of, turn_after, slots_after}
use Rattle.lc_session_rules.specs.Endings.{Ending, done, usage, paused, sink_fault, vault_fault, no_memory, unfit}
use Rattle.lc_session_rules.specs.Session as session
use Rattle.lc_session_rules.specs.Session.{Outside, rounds_of, record_of, records_of, can_end, Accepts, WasRead, ReadsScript, Reads, Starts, Meets, begin_with, told_slots, Keeps, Tears, IsStarted, StoresIfKept, Stores, end_number, Replies, Judges, Replied, Writes, Counts, IsSession}
use Rattle.lc_rounds.specs.Way.{Around, Stored}
use Rattle.lc_rounds.specs.declared.pace.Pace.{Pace}
use Rattle.lc_rounds.specs.declared.rounds.Stop.{Stop}
use Rattle.lc_rounds.specs.declared.rounds.Stop.TheVariants.{Paused, VaultFault, NoMemory}
use Rattle.lc_session_rules.specs.Course.{Beginning, begins}
use Rattle.lc_rounds.specs.declared.course.Course.{Course}
use Rattle.lc_text.specs.declared.statements.Text.{Text}
use Rattle.lc_text.specs.Worlds.{outside_of, world}
use Rattle.lc_rounds.specs.Going.{World, IsOf, rounds_from, Stops, IsMisfit}
use Rattle.lc_text.specs.Text.{Prints}

-- its searches start
pub record IsReady (args : List (List ℕ)) (asked : Settings) (old : Outside) (source : Option (List ℕ)) (source_faults : ℕ) (bytes : List ℕ) (held : Option Slots) : Type 0 where
  pub accepted : options all_options args ≡ settings asked
  pub searches : (asked.command ≡ run) ⊎ (asked.command ≡ resume)
  pub read : WasRead old.source source bytes
  pub quiet : source_faults ≡ old.source_faults
  pub begun : asked.keep ≡ true → WhereTold old.vault held (λ before now. now ≡ begin_with asked.command before)
  pub unkept : asked.keep ≡ false → held ≡ old.vault

abbrev pub course_of : List ℕ → Beginning → ℕ → List Matrix → List SessionStep → List SessionStep → Bool → List ℕ → Bool → session.Course
course_of bytes b turn needs told left is_paused text faulty = record { bytes = bytes; needs = needs; start = begins b needs; turn = turn; told = told; left = left; is_paused = is_paused; text = text; is_faulty = faulty }

reads_so : (c : Command) (ending : Ending) (old new : Option (List ℕ)) (course : session.Course) → (c ≡ run) ⊎ (c ≡ resume) → ReadsScript ending old new course → Reads c ending old new course
reads_so c ending old new course (inl e) h = subst (λ (x : Command). Reads x ending old new course) (sym e) h
reads_so c ending old new course (inr e) h = subst (λ (x : Command). Reads x ending old new course) (sym e) h

meets_so : (c : Command) (asked : Settings) (course : session.Course) → (c ≡ run) ⊎ (c ≡ resume) → MeetsFirst built_calls course.bytes course.needs → Meets built_calls asked c course
meets_so c asked course (inl e) h = subst (λ (x : Command). Meets built_calls asked x course) (sym e) h
meets_so c asked course (inr e) h = subst (λ (x : Command). Meets built_calls asked x course) (sym e) h

pub accepts_so : (o : Options) (asked : Settings) (old new : Outside) (ending : Ending) → o ≡ settings asked → ((i : ℕ) → ¬ (ending ≡ usage i)) → Accepts o asked old new ending
accepts_so o asked old new ending e other = subst (λ (x : Options). Accepts x asked old new ending) (sym e) (refl, other)

pub assembled : (args : List (List ℕ)) (asked : Settings) (old new : Outside) (bytes : List ℕ) (held : Option Slots) (ready : IsReady args asked old new.source new.source_faults bytes held) (b : Beginning) (turn : ℕ) (needs : List Matrix) (told left : List SessionStep) (is_paused : Bool) (text : List ℕ) (faulty : Bool) (ending : Ending)
    → ((i : ℕ) → ¬ (ending ≡ usage i)) → IsTrue (can_end ending asked.command)
    → ReadsScript ending old.source new.source (course_of bytes b turn needs told left is_paused text faulty)
    → Starts built_calls asked.command ending asked old.vault (course_of bytes b turn needs told left is_paused text faulty)
    → MeetsFirst built_calls bytes needs
    → (rounds_from (world asked bytes b turn held old) needs).steps ≡ told ++ left
    → session.Ends ending asked (course_of bytes b turn needs told left is_paused text faulty)
    → Kept asked.keep (records_of told) is_paused old.watchers new.watchers
    → Stores asked.keep ending asked (course_of bytes b turn needs told left is_paused text faulty) old.vault new.vault
    → Replied built_calls ending asked old.vault (course_of bytes b turn needs told left is_paused text faulty)
    → Writes ending text old.sink new.sink → Counts ending old new
    → IsSession built_calls args old new ending
assembled args asked old new bytes held ready b turn needs told left is_paused text faulty ending other possible read started met rounds ended heard stored replied written counted = record {
  asked = asked;
  course = course_of bytes b turn needs told left is_paused text faulty;
  accepted = accepts_so (options all_options args) asked old new ending ready.accepted other;
  possible = possible;
  read = reads_so asked.command ending old.source new.source (course_of bytes b turn needs told left is_paused text faulty) ready.searches read;
  started = started;
  met = meets_so asked.command asked (course_of bytes b turn needs told left is_paused text faulty) ready.searches met;
  rounds = rounds;
  ended = ended;
  heard = heard;
  stored = stored;
  replied = replied;
  written = written;
  counted = counted;
}

-- ---- what is stored

stored_so : (asked : Settings) (bytes : List ℕ) (b : Beginning) (turn : ℕ) (held now : Option Slots) (old : Outside) (told : List SessionStep) (keep : Bool) (p : Pace) → IsOf (world asked bytes b turn held old) p → Stored keep (point_of p.point).script p.point.budget turn told held now → Stored keep (sha256 bytes) asked.budget turn told held now
unfolding point_of
stored_so asked bytes b turn held now old told keep p of h =
    subst (λ (n : ℕ). Stored keep (sha256 bytes) n turn told held now) of.budget (subst (λ (d : List ℕ). Stored keep d p.point.budget turn told held now) of.digest h)

keeps : (args : List (List ℕ)) (asked : Settings) (old : Outside) (source : Option (List ℕ)) (source_faults : ℕ) (bytes : List ℕ) (held now : Option Slots) (course : session.Course) → IsReady args asked old source source_faults bytes held → course.bytes ≡ bytes → asked.keep ≡ true → Stored true (sha256 bytes) asked.budget course.turn course.told held now → Keeps asked course old.vault now
keeps args asked old source source_faults bytes held now course ready same kept h =
    WhereTold-then old.vault held now (λ before mid. mid ≡ begin_with asked.command before) (λ mid after. after ≡ slots_after 2 (sha256 bytes) asked.budget course.turn course.told mid) (λ before after. after ≡ told_slots asked course before)
    (λ a m c p q. q ∙ ap (slots_after 2 (sha256 bytes) asked.budget course.turn course.told) p ∙ ap (λ (d : List ℕ). slots_after 2 (sha256 d) asked.budget course.turn course.told (begin_with asked.command a)) (sym same)) (ready.begun kept) h

tears : (args : List (List ℕ)) (asked : Settings) (old : Outside) (source : Option (List ℕ)) (source_faults : ℕ) (bytes : List ℕ) (held now : Option Slots) (course : session.Course) → IsReady args asked old source source_faults bytes held → course.bytes ≡ bytes → asked.keep ≡ true
    → WhereTold held now (λ before after. IsTorn (slot_of (turn_after course.turn course.told)) (slots_after 2 (sha256 bytes) asked.budget course.turn course.told before) after) → Tears asked course old.vault now
tears args asked old source source_faults bytes held now course ready same kept h =
    WhereTold-then old.vault held now (λ before mid. mid ≡ begin_with asked.command before) (λ mid after. IsTorn (slot_of (turn_after course.turn course.told)) (slots_after 2 (sha256 bytes) asked.budget course.turn course.told mid) after) (λ before after. IsTorn (slot_of (turn_after course.turn course.told)) (told_slots asked course before) after)
    (λ a m c p q. subst (λ (slots : Slots). IsTorn (slot_of (turn_after course.turn course.told)) slots c) (ap (slots_after 2 (sha256 bytes) asked.budget course.turn course.told) p ∙ ap (λ (d : List ℕ). slots_after 2 (sha256 d) asked.budget course.turn course.told (begin_with asked.command a)) (sym same)) q) (ready.begun kept) h

-- with checkpoints, or without
stores_by : (args : List (List ℕ)) (asked : Settings) (old : Outside) (source : Option (List ℕ)) (source_faults : ℕ) (bytes : List ℕ) (held now : Option Slots) (course : session.Course) (ending : Ending) → IsReady args asked old source source_faults bytes held → course.bytes ≡ bytes → Stored asked.keep (sha256 bytes) asked.budget course.turn course.told held now
    → (Keeps asked course old.vault now → StoresIfKept ending asked course old.vault now) → Stores asked.keep ending asked course old.vault now
stores_by args asked old source source_faults bytes held now course ending ready same h f = by asked.keep refl h
  where
    by : (keep : Bool) → asked.keep ≡ keep → Stored keep (sha256 bytes) asked.budget course.turn course.told held now → Stores keep ending asked course old.vault now
    by true e k = f (keeps args asked old source source_faults bytes held now course ready same e k)
    by false e k = k ∙ ready.unkept e

-- the records of a session that stops fit, unless memory was refused
pub fits_all : {stop : Stop} {told : List SessionStep} {fits : Type 0} → ¬ (stop ≡ NoMemory) → ((stop ≡ NoMemory) × (told ≡ [])) ⊎ fits → fits
fits_all other (inl e) = absurd (other e.0)
fits_all other (inr f) = f

heard_so : (asked : Settings) (keep p : Bool) (notes : List Record) (old new : _) → keep ≡ asked.keep → Kept keep notes p old new → Kept asked.keep notes p old new
heard_so asked keep p notes old new e h = subst (λ (k : Bool). Kept k notes p old new) e h

keeps_nothing : (c : Command) (old new : Option Slots) → c ≡ resume → WhereTold old new (λ before after. after ≡ begin_with c before) → new ≡ old
keeps_nothing c None new e h = h
keeps_nothing c (Some old) new e h = h.1 ∙ ap Some (h.2 ∙ ap (λ (x : Command). begin_with x old) e)

-- ---- the endings

module _ (args : List (List ℕ)) (asked : Settings) (old : Outside) (source : Option (List ℕ)) (source_faults : ℕ) (bytes : List ℕ) (held : Option Slots) (ready : IsReady args asked old source source_faults bytes held) (b : Beginning) (turn : ℕ) (c : Course) (now : Around) where
  abbrev pub the_world : World
  the_world = world asked bytes b turn held old

  abbrev pub same_outside : Outside
  same_outside = outside_of source source_faults old.sink old.sink_faults now

  kept_stored : (told : List SessionStep) (is_paused : Bool) (needs : List Matrix) (left : List SessionStep) (text : List ℕ) (faulty : Bool) (ending : Ending) → IsOf the_world c.pace → Stored c.pace.keep (point_of c.pace.point).script c.pace.point.budget turn told held now.vault
      → (Keeps asked (course_of bytes b turn needs told left is_paused text faulty) old.vault now.vault → StoresIfKept ending asked (course_of bytes b turn needs told left is_paused text faulty) old.vault now.vault) → Stores asked.keep ending asked (course_of bytes b turn needs told left is_paused text faulty) old.vault now.vault
  kept_stored told is_paused needs left text faulty ending of h f =
      stores_by args asked old source source_faults bytes held now.vault (course_of bytes b turn needs told left is_paused text faulty) ending ready refl
      (subst (λ (k : Bool). Stored k (sha256 bytes) asked.budget turn told held now.vault) of.keep (stored_so asked bytes b turn held now.vault old told c.pace.keep c.pace of h)) f

  -- a watcher or the slice paused it
  pub paused_session : (needs : List Matrix) → MeetsFirst built_calls bytes needs → (h : Stops the_world needs c now Paused) → IsTrue (can_end (paused c.pace.last.query c.pace.last.blocks) asked.command)
      → Starts built_calls asked.command (paused c.pace.last.query c.pace.last.blocks) asked old.vault (course_of bytes b turn needs h.told h.left h.stopped.is_paused [] false)
      → IsSession built_calls args old same_outside (paused c.pace.last.query c.pace.last.blocks)
  paused_session needs met h possible started =
      let s = h.stopped in
      let stops = s.stops in
      let kept : asked.keep ≡ true = sym h.of.keep ∙ stops.0 in
      let ends = stops.1 in
      assembled args asked old same_outside bytes held ready b turn needs h.told h.left s.is_paused [] false (paused c.pace.last.query c.pace.last.blocks)
      (λ i e. cc) possible ready.read started met h.front
      (record {
        kept = kept;
        at = (ends.0, ends.1, ends.2, sym (ap (λ (r : Record). r.query) ends.3), sym (ap (λ (r : Record). r.blocks) ends.3));
        why = stops.2;
      })
      (heard_so asked c.pace.keep s.is_paused (records_of h.told) old.watchers now.watchers h.of.keep s.heard)
      (kept_stored h.told s.is_paused needs h.left [] false (paused c.pace.last.query c.pace.last.blocks) h.of (subst (λ (k : Bool). Stored k (point_of c.pace.point).script c.pace.point.budget turn h.told held now.vault) (sym stops.0) stops.3) (λ k. k))
      tt refl (record { source = ready.quiet; sink = refl; vault = stops.4 })

  -- the store of a checkpoint failed
  pub torn_session : (needs : List Matrix) → MeetsFirst built_calls bytes needs → (h : Stops the_world needs c now VaultFault) → IsTrue (can_end (vault_fault c.pace.told) asked.command)
      → Starts built_calls asked.command (vault_fault c.pace.told) asked old.vault (course_of bytes b turn needs h.told h.left h.stopped.is_paused [] false)
      → IsStarted asked.command asked old.vault (course_of bytes b turn needs h.told h.left h.stopped.is_paused [] false)
      → IsSession built_calls args old same_outside (vault_fault c.pace.told)
  unfolding point_of
  torn_session needs met h possible started is_started =
      let s = h.stopped in
      let stops = s.stops in
      let kept : asked.keep ≡ true = sym h.of.keep ∙ stops.0 in
      let course = course_of bytes b turn needs h.told h.left s.is_paused [] false in
      let torn : WhereTold held now.vault (λ before after. IsTorn (slot_of (turn_after turn h.told)) (slots_after 2 (sha256 bytes) asked.budget turn h.told before) after) =
      subst (λ (n : ℕ). WhereTold held now.vault (λ before after. IsTorn (slot_of (turn_after turn h.told)) (slots_after 2 (sha256 bytes) n turn h.told before) after)) h.of.budget
      (subst (λ (d : List ℕ). WhereTold held now.vault (λ before after. IsTorn (slot_of (turn_after turn h.told)) (slots_after 2 d c.pace.point.budget turn h.told before) after)) h.of.digest stops.3) in
      assembled args asked old same_outside bytes held ready b turn needs h.told h.left s.is_paused [] false (vault_fault c.pace.told)
      (λ i e. cc) possible ready.read started met h.front (s.count, inl kept, λ k. stops.1)
      (heard_so asked c.pace.keep s.is_paused (records_of h.told) old.watchers now.watchers h.of.keep s.heard)
      (subst (λ (k : Bool). Stores k (vault_fault c.pace.told) asked course old.vault now.vault) (sym kept) (inr (is_started, fits_all (λ e. cc) h.fitting, stops.2, tears args asked old source source_faults bytes held now.vault course ready refl kept torn)))
      tt refl (ready.quiet, refl, stops.4)

  -- memory was refused
  pub starved_session : (needs : List Matrix) → MeetsFirst built_calls bytes needs → (h : Stops the_world needs c now NoMemory) → IsTrue (can_end (no_memory c.pace.told) asked.command)
      → Starts built_calls asked.command (no_memory c.pace.told) asked old.vault (course_of bytes b turn needs h.told h.left h.stopped.is_paused [] false)
      → IsStarted asked.command asked old.vault (course_of bytes b turn needs h.told h.left h.stopped.is_paused [] false)
      → IsSession built_calls args old same_outside (no_memory c.pace.told)
  starved_session needs met h possible started is_started =
      let s = h.stopped in
      let stops = s.stops in
      assembled args asked old same_outside bytes held ready b turn needs h.told h.left s.is_paused [] false (no_memory c.pace.told)
      (λ i e. cc) possible (inl ready.read) started met h.front (s.count, λ k. stops.0 (h.of.keep ∙ k))
      (heard_so asked c.pace.keep s.is_paused (records_of h.told) old.watchers now.watchers h.of.keep s.heard)
      (kept_stored h.told s.is_paused needs h.left [] false (no_memory c.pace.told) h.of stops.1 (λ k. inr (is_started, k)))
      tt refl (record { source = ready.quiet; sink = refl; vault = stops.2 })

  -- the text is written
  pub done_session : (t : Text) (sink : Option (List ℕ)) (sink_faults : ℕ) (h : Prints the_world bytes t c now) → MeetsFirst built_calls bytes h.needs → IsTrue (can_end (done (end_number t.ends)) asked.command)
      → Starts built_calls asked.command (done (end_number t.ends)) asked old.vault (course_of bytes b turn h.needs h.told [] h.way.is_paused t.bytes.items t.ends)
      → Replies built_calls asked.command asked old.vault (course_of bytes b turn h.needs h.told [] h.way.is_paused t.bytes.items t.ends) → Judges asked.command bytes
      → Appends old.sink sink t.bytes.items → sink_faults ≡ old.sink_faults
      → IsSession built_calls args old (outside_of source source_faults sink sink_faults now) (done (end_number t.ends))
  done_session t sink sink_faults h met possible started replies judged written calm =
      assembled args asked old (outside_of source source_faults sink sink_faults now) bytes held ready b turn h.needs h.told [] h.way.is_paused t.bytes.items t.ends (done (end_number t.ends))
      (λ i e. cc) possible ready.read started met (ap (λ (r : SessionRounds). r.steps) h.rounds_are ∙ sym (append-nil h.told))
      (record { all = refl; unstopped = ap (λ (r : SessionRounds). r.is_stopped) h.rounds_are; unpaused = λ e. h.way.unpaused (h.of.keep ∙ e) })
      (heard_so asked c.pace.keep h.way.is_paused (records_of h.told) old.watchers now.watchers h.of.keep h.way.heard)
      (kept_stored h.told h.way.is_paused h.needs [] t.bytes.items t.ends (done (end_number t.ends)) h.of h.way.stored (λ k. k))
      (replies, refl, judged) written (record { source = ready.quiet; sink = calm; vault = h.way.quiet })

  -- the text is there, and the sink failed
  pub unwritten_session : (t : Text) (sink : Option (List ℕ)) (sink_faults : ℕ) (h : Prints the_world bytes t c now) → MeetsFirst built_calls bytes h.needs → IsTrue (can_end sink_fault asked.command)
      → Starts built_calls asked.command sink_fault asked old.vault (course_of bytes b turn h.needs h.told [] h.way.is_paused t.bytes.items t.ends)
      → Replies built_calls asked.command asked old.vault (course_of bytes b turn h.needs h.told [] h.way.is_paused t.bytes.items t.ends)
      → AppendsPart old.sink sink t.bytes.items → HasRisen old.sink_faults sink_faults
      → IsSession built_calls args old (outside_of source source_faults sink sink_faults now) sink_fault
  unwritten_session t sink sink_faults h met possible started replies written risen =
      assembled args asked old (outside_of source source_faults sink sink_faults now) bytes held ready b turn h.needs h.told [] h.way.is_paused t.bytes.items t.ends sink_fault
      (λ i e. cc) possible ready.read started met (ap (λ (r : SessionRounds). r.steps) h.rounds_are ∙ sym (append-nil h.told))
      (record { all = refl; unstopped = ap (λ (r : SessionRounds). r.is_stopped) h.rounds_are; unpaused = λ e. h.way.unpaused (h.of.keep ∙ e) })
      (heard_so asked c.pace.keep h.way.is_paused (records_of h.told) old.watchers now.watchers h.of.keep h.way.heard)
      (kept_stored h.told h.way.is_paused h.needs [] t.bytes.items t.ends sink_fault h.of h.way.stored (λ k. k))
      replies written (ready.quiet, risen, h.way.quiet)

  -- a record of the checkpoint doesn't fit
  pub unfit_session : (needs : List Matrix) (told found : ℕ) → MeetsFirst built_calls bytes needs → asked.command ≡ resume → IsMisfit the_world needs c now c.met told found
      → ((is_paused : Bool) → Starts built_calls asked.command (unfit c.met told found) asked old.vault (course_of bytes b turn needs [] (rounds_from the_world needs).steps is_paused [] false))
      → IsSession built_calls args old same_outside (unfit c.met told found)
  unfit_session needs told found met resumes h started =
      assembled args asked old same_outside bytes held ready b turn needs [] (rounds_from the_world needs).steps h.way.is_paused [] false (unfit c.met told found)
      (λ i e. cc) (subst (λ (x : Command). IsTrue (can_end (unfit c.met told found) x)) (sym resumes) refl) ready.read (started h.way.is_paused) met refl refl
      (heard_so asked c.pace.keep h.way.is_paused [] old.watchers now.watchers h.of.keep h.way.heard)
      (kept_stored [] h.way.is_paused needs (rounds_from the_world needs).steps [] false (unfit c.met told found) h.of h.way.stored (keeps_nothing asked.command old.vault now.vault resumes))
      tt refl (record { source = ready.quiet; sink = refl; vault = h.way.quiet })
