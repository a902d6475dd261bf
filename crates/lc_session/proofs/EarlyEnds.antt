-- Sessions that end before their first statement.
--   early                the contract of such a session, from its parts
--   refused_words        the arguments are refused
--   source_failed, too_much, unread      the source fails, or gives too much; memory is refused while it is read
--   not_emptied          `run` can't empty the slots
--   not_loaded, no_room  `resume` can't load them
--   nothing_found, damage_found, other_found      what `resume` finds
use Rattle.std.proofs.Common.{◌≡◌, ◌+◌, inl, inr, ℕ, Bool, true, false, IsTrue, List, [], ◌++◌, Option, None, refl, sym, ap, subst, ◌∙◌}
use Rattle.sha2.specs.Sha256.{sha256}
use Rattle.lc_enumeration.specs.Records.{fresh_start, session_from, session_rounds, no_steps}
use Rattle.lc_formats.specs.Checkpoint.{Checkpoint}
use Rattle.lc_io.specs.Outside.{HasRisen, GaveFront, GaveLess}
use Rattle.lc_io.specs.Vaults.{Slots, WhereTold}
use Rattle.lc_io.specs.Told.{Kept}
use Rattle.lc_io.proofs.SeveralRecords.{Kept-none}
use Rattle.lc_io.specs.Watchers.{Hearing}
use Rattle.lc_calls.specs.Built.{built_calls}
use Rattle.lc_session_rules.specs.Options.{Command, run, resume, check, summary, Settings, Options, settings, usage as refuses, options, all_options}
use Rattle.lc_session_rules.specs.Slots.{takes, nothing_stored, none_decodes, is_for}
use Rattle.lc_session_rules.specs.Endings.{Ending, usage, source_fault, vault_fault, no_memory, no_checkpoint, damaged_checkpoint, other_script, too_long}
use Rattle.lc_session_rules.specs.Session as session
use Rattle.lc_session_rules.specs.Session.{Outside, most_bytes, rounds_of, records_of, can_end, reads, Accepts, WasRead, GaveTooMuch, ReadsScript, Reads, Starts, Meets, AreHalfEmptied, Stores, StoresIfKept, Finds, Replied, Writes, Counts, IsSession}
use Rattle.lc_text.specs.Worlds.{outside_of}
use Rattle.lc_text.proofs.SessionLaws.{accepts_so}
use Rattle.lc_rounds.specs.Way.{Around}

abbrev pub none : List ℕ → session.Course
none bytes = record { bytes = bytes; needs = []; start = fresh_start; turn = 0; told = []; left = []; is_paused = false; text = []; is_faulty = false }

meets_none : (asked : Settings) (bytes : List ℕ) (c : Command) → Meets built_calls asked c (none bytes)
meets_none asked bytes run = inl refl
meets_none asked bytes resume = inl refl
meets_none asked bytes check = refl
meets_none asked bytes summary = inl refl

no_rounds : (asked : Settings) (bytes : List ℕ) → (rounds_of asked (none bytes)).steps ≡ [] ++ []
unfolding session_rounds session_from no_steps fresh_start
no_rounds asked bytes = refl

heard_none : (keep : Bool) (old new : List Hearing) → new ≡ old → Kept keep (records_of []) false old new
heard_none keep old new e = subst (λ (ws : List Hearing). Kept keep [] false old ws) (sym e) (Kept-none keep old)

pub early : (args : List (List ℕ)) (asked : Settings) (old new : Outside) (bytes : List ℕ) (ending : Ending) → options all_options args ≡ settings asked → ((i : ℕ) → ¬ (ending ≡ usage i)) → IsTrue (can_end ending asked.command) → Reads asked.command ending old.source new.source (none bytes) → Starts built_calls asked.command ending asked old.vault (none bytes)
    → session.Ends ending asked (none bytes) → new.watchers ≡ old.watchers → Stores asked.keep ending asked (none bytes) old.vault new.vault → Replied built_calls ending asked old.vault (none bytes) → Writes ending [] old.sink new.sink → Counts ending old new → IsSession built_calls args old new ending
early args asked old new bytes ending accepted other possible read started ended heard stored replied written counted = record {
  asked = asked;
  course = none bytes;
  accepted = accepts_so (options all_options args) asked old new ending accepted other;
  possible = possible;
  read = read;
  started = started;
  met = meets_none asked bytes asked.command;
  rounds = no_rounds asked bytes;
  ended = ended;
  heard = heard_none asked.keep old.watchers new.watchers heard;
  stored = stored;
  replied = replied;
  written = written;
  counted = counted;
}

same_slots : (keep : Bool) (ending : Ending) (asked : Settings) (course : session.Course) (old new : Option Slots) → new ≡ old → (new ≡ old → StoresIfKept ending asked course old new) → Stores keep ending asked course old new
same_slots true ending asked course old new e f = f e
same_slots false ending asked course old new e f = e

-- ---- the source

reads_by : (c : Command) (ending : Ending) (old new : Option (List ℕ)) (course : session.Course) → reads c ≡ true → ReadsScript ending old new course → Reads c ending old new course
reads_by run ending old new course e h = h
reads_by resume ending old new course e h = h
reads_by check ending old new course e h = h
reads_by summary ending old new course e h = absurd (let f = e in cc)

fault_starts : (asked : Settings) (held : Option Slots) (bytes : List ℕ) (c : Command) → Starts built_calls c source_fault asked held (none bytes)
fault_starts asked held bytes run = record { start = refl; turn = refl }
fault_starts asked held bytes resume = tt
fault_starts asked held bytes check = record { start = refl; turn = refl }
fault_starts asked held bytes summary = record { start = refl; turn = refl }

long_starts : (asked : Settings) (held : Option Slots) (bytes : List ℕ) (c : Command) → Starts built_calls c too_long asked held (none bytes)
long_starts asked held bytes run = record { start = refl; turn = refl }
long_starts asked held bytes resume = tt
long_starts asked held bytes check = record { start = refl; turn = refl }
long_starts asked held bytes summary = record { start = refl; turn = refl }

pub memory_starts : (asked : Settings) (held : Option Slots) (bytes : List ℕ) (c : Command) → Starts built_calls c (no_memory 0) asked held (none bytes)
memory_starts asked held bytes run = record { start = refl; turn = refl }
memory_starts asked held bytes resume = inl refl
memory_starts asked held bytes check = record { start = refl; turn = refl }
memory_starts asked held bytes summary = record { start = refl; turn = refl }

pub source_failed : (args : List (List ℕ)) (asked : Settings) (old : Outside) (source : Option (List ℕ)) (source_faults : ℕ) (now : Around) → options all_options args ≡ settings asked → reads asked.command ≡ true → now.vault ≡ old.vault → now.faults ≡ old.vault_faults → now.watchers ≡ old.watchers
    → GaveLess old.source source (most_bytes + 1) → HasRisen old.source_faults source_faults → IsSession built_calls args old (outside_of source source_faults old.sink old.sink_faults now) source_fault
source_failed args asked old source source_faults now accepted reading same calm heard gave risen =
    early args asked old (outside_of source source_faults old.sink old.sink_faults now) [] source_fault accepted (λ i e. cc) reading (reads_by asked.command source_fault old.source source (none []) reading gave) (fault_starts asked old.vault [] asked.command) refl heard
    (same_slots asked.keep source_fault asked (none []) old.vault now.vault same (λ e. e)) tt refl (risen, refl, calm)

pub too_much : (args : List (List ℕ)) (asked : Settings) (old : Outside) (source : Option (List ℕ)) (source_faults : ℕ) (now : Around) → options all_options args ≡ settings asked → reads asked.command ≡ true → now.vault ≡ old.vault → now.faults ≡ old.vault_faults → now.watchers ≡ old.watchers
    → GaveTooMuch old.source source → source_faults ≡ old.source_faults → IsSession built_calls args old (outside_of source source_faults old.sink old.sink_faults now) too_long
too_much args asked old source source_faults now accepted reading same calm heard gave quiet =
    early args asked old (outside_of source source_faults old.sink old.sink_faults now) [] too_long accepted (λ i e. cc) reading (reads_by asked.command too_long old.source source (none []) reading gave) (long_starts asked old.vault [] asked.command) refl heard
    (same_slots asked.keep too_long asked (none []) old.vault now.vault same (λ e. e)) tt refl (record { source = quiet; sink = refl; vault = calm })

pub unread : (args : List (List ℕ)) (asked : Settings) (old : Outside) (source : Option (List ℕ)) (source_faults : ℕ) (now : Around) → options all_options args ≡ settings asked → reads asked.command ≡ true → now.vault ≡ old.vault → now.faults ≡ old.vault_faults → now.watchers ≡ old.watchers
    → GaveFront old.source source (most_bytes + 1) → source_faults ≡ old.source_faults → IsSession built_calls args old (outside_of source source_faults old.sink old.sink_faults now) (no_memory 0)
unread args asked old source source_faults now accepted reading same calm heard gave quiet =
    early args asked old (outside_of source source_faults old.sink old.sink_faults now) [] (no_memory 0) accepted (λ i e. cc) refl (reads_by asked.command (no_memory 0) old.source source (none []) reading (inr (refl, gave))) (memory_starts asked old.vault [] asked.command) (refl, λ e. refl) heard
    (same_slots asked.keep (no_memory 0) asked (none []) old.vault now.vault same (λ e. inl (refl, e))) tt refl (record { source = quiet; sink = refl; vault = calm })

-- ---- the vault

module _ (args : List (List ℕ)) (asked : Settings) (old : Outside) (source : Option (List ℕ)) (source_faults : ℕ) (bytes : List ℕ) (now : Around) (accepted : options all_options args ≡ settings asked) (read : WasRead old.source source bytes) (quiet : source_faults ≡ old.source_faults) (heard : now.watchers ≡ old.watchers) where
  abbrev pub final : Outside
  final = outside_of source source_faults old.sink old.sink_faults now

  reads_so : (ending : Ending) (c : Command) → asked.command ≡ c → reads c ≡ true → ReadsScript ending old.source source (none bytes) → Reads asked.command ending old.source source (none bytes)
  reads_so ending c e r h = reads_by asked.command ending old.source source (none bytes) (ap reads e ∙ r) h

  starts_so : (ending : Ending) (c : Command) → asked.command ≡ c → Starts built_calls c ending asked old.vault (none bytes) → Starts built_calls asked.command ending asked old.vault (none bytes)
  starts_so ending c e h = subst (λ (x : Command). Starts built_calls x ending asked old.vault (none bytes)) (sym e) h

  pub not_emptied : asked.command ≡ run → asked.keep ≡ true → WhereTold old.vault now.vault AreHalfEmptied → HasRisen old.vault_faults now.faults → IsSession built_calls args old final (vault_fault 0)
  not_emptied runs kept half risen =
      early args asked old final bytes (vault_fault 0) accepted (λ i e. cc) (ap (can_end (vault_fault 0)) runs) (reads_so (vault_fault 0) run runs refl read) (starts_so (vault_fault 0) run runs (record { start = refl; turn = refl })) (refl, inl kept, λ e. refl) heard
      (subst (λ (k : Bool). Stores k (vault_fault 0) asked (none bytes) old.vault now.vault) (sym kept) (inl (refl, subst (λ (x : Command). session.FailsFirst x old.vault now.vault) (sym runs) half)))
      tt refl (quiet, refl, risen)

  pub not_loaded : asked.command ≡ resume → now.vault ≡ old.vault → HasRisen old.vault_faults now.faults → IsSession built_calls args old final (vault_fault 0)
  not_loaded resumes same risen =
      early args asked old final bytes (vault_fault 0) accepted (λ i e. cc) (ap (can_end (vault_fault 0)) resumes) (reads_so (vault_fault 0) resume resumes refl read) (starts_so (vault_fault 0) resume resumes (inl refl)) (refl, inr (resumes, refl), λ e. refl) heard
      (same_slots asked.keep (vault_fault 0) asked (none bytes) old.vault now.vault same (λ e. inl (refl, subst (λ (x : Command). session.FailsFirst x old.vault now.vault) (sym resumes) e)))
      tt refl (quiet, refl, risen)

  pub no_room : asked.command ≡ resume → now.vault ≡ old.vault → now.faults ≡ old.vault_faults → IsSession built_calls args old final (no_memory 0)
  no_room resumes same calm =
      early args asked old final bytes (no_memory 0) accepted (λ i e. cc) refl (reads_so (no_memory 0) resume resumes refl (inl read)) (starts_so (no_memory 0) resume resumes (inl refl)) (refl, λ e. refl) heard
      (same_slots asked.keep (no_memory 0) asked (none bytes) old.vault now.vault same (λ e. inl (refl, e))) tt refl (record { source = quiet; sink = refl; vault = calm })

  pub nothing_found : asked.command ≡ resume → now.vault ≡ old.vault → now.faults ≡ old.vault_faults → Finds old.vault nothing_stored → IsSession built_calls args old final no_checkpoint
  nothing_found resumes same calm found =
      early args asked old final bytes no_checkpoint accepted (λ i e. cc) (ap (can_end no_checkpoint) resumes) (reads_so no_checkpoint resume resumes refl read) (starts_so no_checkpoint resume resumes found) refl heard
      (same_slots asked.keep no_checkpoint asked (none bytes) old.vault now.vault same (λ e. e)) tt refl (record { source = quiet; sink = refl; vault = calm })

  pub damage_found : asked.command ≡ resume → now.vault ≡ old.vault → now.faults ≡ old.vault_faults → Finds old.vault none_decodes → IsSession built_calls args old final damaged_checkpoint
  damage_found resumes same calm found =
      early args asked old final bytes damaged_checkpoint accepted (λ i e. cc) (ap (can_end damaged_checkpoint) resumes) (reads_so damaged_checkpoint resume resumes refl read) (starts_so damaged_checkpoint resume resumes found) refl heard
      (same_slots asked.keep damaged_checkpoint asked (none bytes) old.vault now.vault same (λ e. e)) tt refl (record { source = quiet; sink = refl; vault = calm })

  pub other_found : (p : Checkpoint) → asked.command ≡ resume → now.vault ≡ old.vault → now.faults ≡ old.vault_faults → Finds old.vault (takes p) → is_for (sha256 bytes) asked.budget p ≡ false → IsSession built_calls args old final (other_script p.script p.budget)
  other_found p resumes same calm found other =
      early args asked old final bytes (other_script p.script p.budget) accepted (λ i e. cc) (ap (can_end (other_script p.script p.budget)) resumes) (reads_so (other_script p.script p.budget) resume resumes refl read) (starts_so (other_script p.script p.budget) resume resumes (p, found, other, refl, refl)) refl heard
      (same_slots asked.keep (other_script p.script p.budget) asked (none bytes) old.vault now.vault same (λ e. e)) tt refl (record { source = quiet; sink = refl; vault = calm })

-- the arguments are refused
pub refused_words : (args : List (List ℕ)) (old : Outside) (i : ℕ) → options all_options args ≡ refuses i → IsSession built_calls args old old (usage i)
refused_words args old i e = record {
  asked = any_settings;
  course = none [];
  accepted = subst (λ (o : Options). Accepts o any_settings old old (usage i)) (sym e) (refl, refl);
  possible = refl;
  read = refl;
  started = record { start = refl; turn = refl };
  met = inl refl;
  rounds = no_rounds any_settings [];
  ended = refl;
  heard = Kept-none false old.watchers;
  stored = refl;
  replied = tt;
  written = refl;
  counted = record { source = refl; sink = refl; vault = refl };
}
  where
    any_settings : Settings
    any_settings = record { command = run; workers = 1; round = 256; budget = 0; slice = None; keep = false; number = 0 }
