-- What a session says of itself is what it did.
--   paused_at             a session that is paused wrote nothing, and told the round that it names
--   fault_counts, memory_counts      one that a fault of the vault or want of memory ends wrote nothing, and says how many records it told
--   other_named           the digest and the budget told are those of the checkpoint that was found
--   unkept                without keep the vault is as it was
--   accepted_so, rejected_so         what `check` wrote is the line of the bytes, and its status is their verdict
--   summed                what `summary` wrote is the line of its number, and it read nothing
--   unfailed              a session that finishes met no fault
--   counted_so            a count of faults rises only under the ending that tells it
--   early_so              a session that ends before its searches told nothing, and left the sink, the vault and the watchers as they were
--   source_fails          a fault of the source: its count rose
--   sink_fails            a fault of the sink: a front of the text was written, and not all of it
--   unwritten             only the text and the line of a certificate are written
--   worded                what `resume` prints over any vault: its words are in the codes
--   nearest_so            what `run` and `resume` print for nearest words is true
--   paused_once           with checkpoints kept, a watcher that is handed back paused once at most, and then the session is paused
use Rattle.std.proofs.Common.{◌≡◌, ◌⊎◌, ⊎_elim, inl, inr, ◌+◌, ℕ, Bool, refl, sym, subst, ◌∙◌}
use Rattle.std.specs.Prelude.{List, [], ◌∷◌, ◌++◌, true, false, Option, Some, length, IsTrue, Contains}
use Rattle.std.specs.Io.KnownBytes.{Appends}
use Rattle.lc_enumeration.specs.Search.{Answer}
use Rattle.lc_enumeration.specs.Records.{SessionStep}
use Rattle.lc_formats.specs.Certificate.{Reason, accepted, rejected as rejects}
use Rattle.lc_formats.specs.Document.{document_in, IsCheckText}
use Rattle.lc_formats.specs.Proven.{IsVerdict}
use Rattle.lc_formats.specs.Checkpoint.{Checkpoint}
use Rattle.lc_io.specs.Outside.{HasRisen, AppendsPart}
use Rattle.lc_io.specs.Vaults.{Slots}
use Rattle.lc_io.specs.Watchers.{Hearing}
use Rattle.lc_io.specs.Told.{Kept}
use Rattle.lc_io.proofs.SeveralRecords.{Kept-once, Kept-silent, Kept-same}
use Rattle.lc_language.specs.declared.Call.{Call}
use Rattle.lc_language.specs.Evaluation.{IsText}
use Rattle.lc_session_rules.specs.Options.{Command, run, resume, check, summary, Settings}
use Rattle.lc_session_rules.specs.Summary.{summary_text}
use Rattle.lc_session_rules.specs.Answers.{IsTextBy, HasWords}
use Rattle.lc_session_rules.specs.Nears.{NearsHold}
use Rattle.lc_session_rules.specs.Slots.{takes, choice}
use Rattle.lc_session_rules.specs.Endings.{Ending, done, usage, paused, source_fault, sink_fault, vault_fault, no_memory, no_checkpoint, damaged_checkpoint, other_script, rejected, too_long, unfit}
use Rattle.lc_session_rules.specs.Session.{Outside, Course, records_of, Reads, Replies, Judges, Resumes, Starts, Ends, Stores, Writes, Counts, Finds, keeps, checks, resumes, IsAccepted, IsSession}
use Rattle.lc_session_rules.specs.Promises.{StartsTruly, ends_early}

of_check : (command : Command) → IsTrue (checks command) → command ≡ check
of_check run h = absurd (let e = h in cc)
of_check resume h = absurd (let e = h in cc)
of_check check h = refl
of_check summary h = absurd (let e = h in cc)

pub of_resume : (command : Command) → IsTrue (resumes command) → command ≡ resume
of_resume run h = absurd (let e = h in cc)
of_resume resume h = refl
of_resume check h = absurd (let e = h in cc)
of_resume summary h = absurd (let e = h in cc)

pub paused_at : (table : List Call) (args : List (List ℕ)) (old new : Outside) (query blocks : ℕ) (s : IsSession table args old new (paused query blocks))
    → ((before : List SessionStep) × (last : SessionStep) × (s.course.told ≡ before ++ last ∷ []) × (last.note.need ≡ query) × (last.note.blocks ≡ blocks)) × (s.asked.keep ≡ true) × (new.sink ≡ old.sink)
paused_at table args old new query blocks s = (s.ended.at, s.ended.kept, s.written)

pub fault_counts : (table : List Call) (args : List (List ℕ)) (old new : Outside) (told : ℕ) (s : IsSession table args old new (vault_fault told)) → (told ≡ length s.course.told) × HasRisen old.vault_faults new.vault_faults × (new.sink ≡ old.sink)
fault_counts table args old new told s = (s.ended.0, s.counted.2, s.written)

pub memory_counts : (table : List Call) (args : List (List ℕ)) (old new : Outside) (told : ℕ) (s : IsSession table args old new (no_memory told)) → (told ≡ length s.course.told) × (new.sink ≡ old.sink)
memory_counts table args old new told s = (s.ended.0, s.written)

pub other_named : (table : List Call) (args : List (List ℕ)) (old new : Outside) (script : List ℕ) (budget : ℕ) (s : IsSession table args old new (other_script script budget)) (slots : Slots) → old.vault ≡ Some slots
    → (p : Checkpoint) × (choice slots ≡ takes p) × (script ≡ p.script) × (budget ≡ p.budget)
other_named table args old new script budget s slots held =
    let c = of_resume s.asked.command s.possible in
    let started : Resumes table (other_script script budget) s.asked old.vault s.course = subst (λ c. Starts table c (other_script script budget) s.asked old.vault s.course) c s.started in
    let found : Finds (Some slots) (takes started.0) = subst (λ (h : Option Slots). Finds h (takes started.0)) held started.1 in
    (started.0, found, started.3, started.4)

pub unkept : (table : List Call) (args : List (List ℕ)) (old new : Outside) (ending : Ending) (s : IsSession table args old new ending) → s.asked.keep ≡ false → new.vault ≡ old.vault
unkept table args old new ending s e = let is : Stores false ending s.asked s.course old.vault new.vault = subst (λ k. Stores k ending s.asked s.course old.vault new.vault) e s.stored in is

pub accepted_so : (table : List Call) (args : List (List ℕ)) (old new : Outside) (n : ℕ) (s : IsSession table args old new (done n)) → s.asked.command ≡ check → IsVerdict (document_in s.course.bytes) accepted × IsCheckText s.course.bytes s.course.text × Appends old.sink new.sink s.course.text
accepted_so table args old new n s c =
    let reply : Replies table check s.asked old.vault s.course = subst (λ c. Replies table c s.asked old.vault s.course) c s.replied.0 in
    let judged : IsAccepted s.course.bytes = subst (λ c. Judges c s.course.bytes) c s.replied.2 in
    (judged.verdict, reply.0, s.written)

pub rejected_so : (table : List Call) (args : List (List ℕ)) (old new : Outside) (reason : Reason) (s : IsSession table args old new (rejected reason)) → IsVerdict (document_in s.course.bytes) (rejects reason) × IsCheckText s.course.bytes s.course.text × Appends old.sink new.sink s.course.text
rejected_so table args old new reason s =
    let reply : Replies table check s.asked old.vault s.course = subst (λ c. Replies table c s.asked old.vault s.course) (of_check s.asked.command s.possible) s.replied.0 in
    (s.replied.1, reply.0, s.written)

pub summed : (table : List Call) (args : List (List ℕ)) (old new : Outside) (n : ℕ) (s : IsSession table args old new (done n)) → s.asked.command ≡ summary → Appends old.sink new.sink (summary_text s.asked.number s.asked.budget s.asked.round) × (new.source ≡ old.source)
summed table args old new n s c =
    let reply : Replies table summary s.asked old.vault s.course = subst (λ c. Replies table c s.asked old.vault s.course) c s.replied.0 in
    let read : Reads summary (done n) old.source new.source s.course = subst (λ c. Reads c (done n) old.source new.source s.course) c s.read in
    (subst (λ (t : List ℕ). Appends old.sink new.sink t) reply.0 s.written, read)

pub unfailed : (table : List Call) (args : List (List ℕ)) (old new : Outside) (n : ℕ) (s : IsSession table args old new (done n)) → (new.source_faults ≡ old.source_faults) × (new.sink_faults ≡ old.sink_faults) × (new.vault_faults ≡ old.vault_faults)
unfailed table args old new n s = (s.counted.source, s.counted.sink, s.counted.vault)

counts_so : (ending : Ending) (old new : Outside) → Counts ending old new
    → (¬ (ending ≡ source_fault) → new.source_faults ≡ old.source_faults) × (¬ (ending ≡ sink_fault) → new.sink_faults ≡ old.sink_faults) × (((told : ℕ) → ¬ (ending ≡ vault_fault told)) → new.vault_faults ≡ old.vault_faults)
counts_so (done n) old new c = (λ no. c.source, λ no. c.sink, λ no. c.vault)
counts_so (usage i) old new c = (λ no. c.source, λ no. c.sink, λ no. c.vault)
counts_so (paused query blocks) old new c = (λ no. c.source, λ no. c.sink, λ no. c.vault)
counts_so source_fault old new c = (λ no. absurd (no refl), λ no. c.1, λ no. c.2)
counts_so sink_fault old new c = (λ no. c.0, λ no. absurd (no refl), λ no. c.2)
counts_so (vault_fault told) old new c = (λ no. c.0, λ no. c.1, λ no. absurd (no told refl))
counts_so (no_memory told) old new c = (λ no. c.source, λ no. c.sink, λ no. c.vault)
counts_so no_checkpoint old new c = (λ no. c.source, λ no. c.sink, λ no. c.vault)
counts_so damaged_checkpoint old new c = (λ no. c.source, λ no. c.sink, λ no. c.vault)
counts_so (other_script script budget) old new c = (λ no. c.source, λ no. c.sink, λ no. c.vault)
counts_so (rejected reason) old new c = (λ no. c.source, λ no. c.sink, λ no. c.vault)
counts_so too_long old new c = (λ no. c.source, λ no. c.sink, λ no. c.vault)
counts_so (unfit query told found) old new c = (λ no. c.source, λ no. c.sink, λ no. c.vault)

pub counted_so : (table : List Call) (args : List (List ℕ)) (old new : Outside) (ending : Ending) (s : IsSession table args old new ending)
    → (¬ (ending ≡ source_fault) → new.source_faults ≡ old.source_faults) × (¬ (ending ≡ sink_fault) → new.sink_faults ≡ old.sink_faults) × (((told : ℕ) → ¬ (ending ≡ vault_fault told)) → new.vault_faults ≡ old.vault_faults)
counted_so table args old new ending s = counts_so ending old new s.counted

-- what an ending before the searches leaves as it was
record IsStill (ending : Ending) (asked : Settings) (course : Course) (old new : Outside) : Type 0 where
  told : course.told ≡ []
  sink : new.sink ≡ old.sink
  vault : new.vault ≡ old.vault

by_keep : (keep : Bool) (P : Bool → Type 0) (Q : Type 0) → (P true → Q) → (P false → Q) → P keep → Q
by_keep true P Q yes_ no_ h = yes_ h
by_keep false P Q yes_ no_ h = no_ h

still_so : (ending : Ending) (asked : Settings) (course : Course) (old new : Outside) → IsTrue (ends_early ending) → Ends ending asked course → Stores asked.keep ending asked course old.vault new.vault → Writes ending course.text old.sink new.sink → IsStill ending asked course old new
still_so (done n) asked course old new early e s w = absurd (let f = early in cc)
still_so (usage i) asked course old new early e s w = record { told = e; sink = w; vault = by_keep asked.keep (λ k. Stores k (usage i) asked course old.vault new.vault) (new.vault ≡ old.vault) (λ h. h) (λ h. h) s }
still_so (paused query blocks) asked course old new early e s w = absurd (let f = early in cc)
still_so source_fault asked course old new early e s w = record { told = e; sink = w; vault = by_keep asked.keep (λ k. Stores k source_fault asked course old.vault new.vault) (new.vault ≡ old.vault) (λ h. h) (λ h. h) s }
still_so sink_fault asked course old new early e s w = absurd (let f = early in cc)
still_so (vault_fault told) asked course old new early e s w = absurd (let f = early in cc)
still_so (no_memory told) asked course old new early e s w = absurd (let f = early in cc)
still_so no_checkpoint asked course old new early e s w = record { told = e; sink = w; vault = by_keep asked.keep (λ k. Stores k no_checkpoint asked course old.vault new.vault) (new.vault ≡ old.vault) (λ h. h) (λ h. h) s }
still_so damaged_checkpoint asked course old new early e s w = record { told = e; sink = w; vault = by_keep asked.keep (λ k. Stores k damaged_checkpoint asked course old.vault new.vault) (new.vault ≡ old.vault) (λ h. h) (λ h. h) s }
still_so (other_script script budget) asked course old new early e s w = record { told = e; sink = w; vault = by_keep asked.keep (λ k. Stores k (other_script script budget) asked course old.vault new.vault) (new.vault ≡ old.vault) (λ h. h) (λ h. h) s }
still_so (rejected reason) asked course old new early e s w = absurd (let f = early in cc)
still_so too_long asked course old new early e s w = record { told = e; sink = w; vault = by_keep asked.keep (λ k. Stores k too_long asked course old.vault new.vault) (new.vault ≡ old.vault) (λ h. h) (λ h. h) s }
still_so (unfit query told found) asked course old new early e s w = record { told = e; sink = w; vault = by_keep asked.keep (λ k. Stores k (unfit query told found) asked course old.vault new.vault) (new.vault ≡ old.vault) (λ h. h) (λ h. h) s }

pub early_so : (table : List Call) (args : List (List ℕ)) (old new : Outside) (ending : Ending) (s : IsSession table args old new ending) → IsTrue (ends_early ending) → (s.course.told ≡ []) × (new.sink ≡ old.sink) × (new.vault ≡ old.vault) × (new.watchers ≡ old.watchers)
early_so table args old new ending s early =
    let still = still_so ending s.asked s.course old new early s.ended s.stored s.written in
    let heard : Kept s.asked.keep [] s.course.is_paused old.watchers new.watchers = subst (λ (l : List SessionStep). Kept s.asked.keep (records_of l) s.course.is_paused old.watchers new.watchers) still.told s.heard in
    (still.told, still.sink, still.vault, Kept-same s.asked.keep s.course.is_paused old.watchers new.watchers heard)

pub source_fails : (table : List Call) (args : List (List ℕ)) (old new : Outside) (s : IsSession table args old new source_fault) → HasRisen old.source_faults new.source_faults
source_fails table args old new s = s.counted.0

-- the text that a session prints, by its command
says_so : (table : List Call) (c : Command) (asked : Settings) (held : Option Slots) (course : Course) → Starts table c sink_fault asked held course → Replies table c asked held course
    → (StartsTruly table c asked held course → IsText table asked.budget course.bytes course.text course.is_faulty) × (c ≡ check → IsCheckText course.bytes course.text) × (c ≡ summary → course.text ≡ summary_text asked.number asked.budget asked.round)
says_so table run asked held course started reply = (λ truly. reply.1.printed, λ e. absurd (let f = e in cc), λ e. absurd (let f = e in cc))
says_so table resume asked held course started reply = (λ truly. (reply.1.honest started.0.0 started.0.1 (truly started.0.0 started.0.1)).printed, λ e. absurd (let f = e in cc), λ e. absurd (let f = e in cc))
says_so table check asked held course started reply = (λ truly. absurd truly, λ e. reply.0, λ e. absurd (let f = e in cc))
says_so table summary asked held course started reply = (λ truly. absurd truly, λ e. absurd (let f = e in cc), λ e. reply.0)

pub sink_fails : (table : List Call) (args : List (List ℕ)) (old new : Outside) (s : IsSession table args old new sink_fault)
    → HasRisen old.sink_faults new.sink_faults × AppendsPart old.sink new.sink s.course.text
    × (StartsTruly table s.asked.command s.asked old.vault s.course → IsText table s.asked.budget s.course.bytes s.course.text s.course.is_faulty) × (s.asked.command ≡ check → IsCheckText s.course.bytes s.course.text) × (s.asked.command ≡ summary → s.course.text ≡ summary_text s.asked.number s.asked.budget s.asked.round)
sink_fails table args old new s = let says = says_so table s.asked.command s.asked old.vault s.course s.started s.replied in (s.counted.1, s.written, says.0, says.1, says.2)

writes_so : (ending : Ending) (text : List ℕ) (old new : Option (List ℕ)) → Writes ending text old new → ((n : ℕ) → ¬ (ending ≡ done n)) → ¬ (ending ≡ sink_fault) → ((r : Reason) → ¬ (ending ≡ rejected r)) → new ≡ old
writes_so (done n) text old new w ends fails judged = absurd (ends n refl)
writes_so (usage i) text old new w ends fails judged = w
writes_so (paused query blocks) text old new w ends fails judged = w
writes_so source_fault text old new w ends fails judged = w
writes_so sink_fault text old new w ends fails judged = absurd (fails refl)
writes_so (vault_fault told) text old new w ends fails judged = w
writes_so (no_memory told) text old new w ends fails judged = w
writes_so no_checkpoint text old new w ends fails judged = w
writes_so damaged_checkpoint text old new w ends fails judged = w
writes_so (other_script script budget) text old new w ends fails judged = w
writes_so (rejected r) text old new w ends fails judged = absurd (judged r refl)
writes_so too_long text old new w ends fails judged = w
writes_so (unfit query told found) text old new w ends fails judged = w

pub unwritten : (table : List Call) (args : List (List ℕ)) (old new : Outside) (ending : Ending) (s : IsSession table args old new ending) → ((n : ℕ) → ¬ (ending ≡ done n)) → ¬ (ending ≡ sink_fault) → ((r : Reason) → ¬ (ending ≡ rejected r)) → new.sink ≡ old.sink
unwritten table args old new ending s = writes_so ending s.course.text old.sink new.sink s.written

pub nearest_so : (table : List Call) (args : List (List ℕ)) (old new : Outside) (n : ℕ) (s : IsSession table args old new (done n)) → IsTrue (keeps s.asked.command) → NearsHold table s.course.bytes s.asked.budget
nearest_so table args old new n s k = by s.asked.command k s.replied.0
  where
    by : (c : Command) → IsTrue (keeps c) → Replies table c s.asked old.vault s.course → NearsHold table s.course.bytes s.asked.budget
    by run k reply = reply.1.near
    by resume k reply = reply.1.near
    by check k reply = absurd (let e = k in cc)
    by summary k reply = absurd (let e = k in cc)

pub worded : (table : List Call) (args : List (List ℕ)) (old new : Outside) (n : ℕ) (s : IsSession table args old new (done n)) → s.asked.command ≡ resume → (answers : List Answer) × IsTextBy table s.asked.budget s.course.bytes answers s.course.text s.course.is_faulty × HasWords s.course.needs answers × Appends old.sink new.sink s.course.text
worded table args old new n s c =
    let reply : Replies table resume s.asked old.vault s.course = subst (λ c. Replies table c s.asked old.vault s.course) c s.replied.0 in
    (reply.1.answers, reply.1.printed, reply.1.words, s.written)

-- whether the session is paused, if a watcher paused it at its last record and checkpoints are kept
abbrev IsPausedAs : Ending → Type 0
IsPausedAs ending = (query blocks : ℕ) × (ending ≡ paused query blocks)

no_flag : {A : Type 0} (b : Bool) → b ≡ true → b ≡ false → A
no_flag b yes_ no_ = absurd (let e = sym yes_ ∙ no_ in cc)

silent_flag : {A : Type 0} (keep : Bool) (course : Course) (ws vs : List Hearing) → Kept keep (records_of course.told) course.is_paused ws vs → course.told ≡ [] → course.is_paused ≡ true → A
silent_flag keep course ws vs h silent flag =
    no_flag course.is_paused flag (Kept-silent keep course.is_paused ws vs (subst (λ (l : List SessionStep). Kept keep (records_of l) course.is_paused ws vs) silent h))

pauses_so : (ending : Ending) (asked : Settings) (course : Course) (ws vs : List Hearing) → asked.keep ≡ true → Ends ending asked course → Kept asked.keep (records_of course.told) course.is_paused ws vs → course.is_paused ≡ true → IsPausedAs ending
pauses_so (done n) asked course ws vs keep e h flag = no_flag course.is_paused flag (e.unpaused keep)
pauses_so (usage i) asked course ws vs keep e h flag = silent_flag asked.keep course ws vs h e flag
pauses_so (paused query blocks) asked course ws vs keep e h flag = (query, blocks, refl)
pauses_so source_fault asked course ws vs keep e h flag = silent_flag asked.keep course ws vs h e flag
pauses_so sink_fault asked course ws vs keep e h flag = no_flag course.is_paused flag (e.unpaused keep)
pauses_so (vault_fault told) asked course ws vs keep e h flag = no_flag course.is_paused flag (e.2 keep)
pauses_so (no_memory told) asked course ws vs keep e h flag = no_flag course.is_paused flag (e.1 keep)
pauses_so no_checkpoint asked course ws vs keep e h flag = silent_flag asked.keep course ws vs h e flag
pauses_so damaged_checkpoint asked course ws vs keep e h flag = silent_flag asked.keep course ws vs h e flag
pauses_so (other_script script budget) asked course ws vs keep e h flag = silent_flag asked.keep course ws vs h e flag
pauses_so (rejected reason) asked course ws vs keep e h flag = no_flag course.is_paused flag (e.unpaused keep)
pauses_so too_long asked course ws vs keep e h flag = silent_flag asked.keep course ws vs h e flag
pauses_so (unfit query told found) asked course ws vs keep e h flag = silent_flag asked.keep course ws vs h e flag

pub paused_once : (table : List Call) (args : List (List ℕ)) (old new : Outside) (ending : Ending) (s : IsSession table args old new ending) → s.asked.keep ≡ true → (v : Hearing) → Contains new.watchers v
    → (w : Hearing) × Contains old.watchers w × ((v.pauses ≡ w.pauses) ⊎ ((v.pauses ≡ w.pauses + 1) × ((query blocks : ℕ) × (ending ≡ paused query blocks))))
paused_once table args old new ending s keep v at =
    let heard : Kept true (records_of s.course.told) s.course.is_paused old.watchers new.watchers = subst (λ (k : Bool). Kept k (records_of s.course.told) s.course.is_paused old.watchers new.watchers) keep s.heard in
    let (w, in_old, so) = Kept-once (records_of s.course.told) s.course.is_paused old.watchers new.watchers heard v at in (
      w,
      in_old,
      ⊎_elim (λ (e : v.pauses ≡ w.pauses). inl e)
          (λ (e : (v.pauses ≡ w.pauses + 1) × (s.course.is_paused ≡ true)). inr (e.0, pauses_so ending s.asked s.course old.watchers new.watchers keep s.ended s.heard e.1)) so,
    )
