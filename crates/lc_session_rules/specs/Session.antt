-- What a session does, for every command, every outside and every way in which it ends.
--   Outside                      what is known of the outside before or after a session: the bytes that the source has still to
--                                give and how often it failed, the bytes that the sink has taken and how often it failed, the
--                                slots of the vault and how often it failed, and the watchers
--   Course                       how a session went: the bytes that it read, the needs that it met, where its searches started,
--                                the turn of its first checkpoint, the steps that it told and those that were to come, whether a
--                                watcher paused it at the last record, the text that it prints, and whether a fault line ends that
--   most_bytes                   the most bytes of a script: 2^20
--   can_end ending command       which commands can end so
--   rounds_of asked course       the rounds of the searches from the start on, for the needs met
--   WasRead old new bytes        the source was read to its end, and gave these bytes, no more than a script may have
--   IsSession table args old new ending      the whole contract, one field for each promise:
--     asked, accepted            the arguments are refused, or ask for the settings
--     possible                   the command can end so
--     read                       what was taken from the source
--     started                    the checkpoint that resume takes; each refusal of checkpoints comes exactly in its case
--     met                        the needs that the session met
--     rounds                     the records told are the first of the rounds from the start on
--     ended                      which records these are, by the ending; when a session pauses, and when it doesn't
--     heard                      what the watchers heard, and which of them are handed back
--     stored                     what is in the slots of the vault
--     replied                    the text: that of the script, of the certificate or of the summary; that it is true
--     written                    what the sink took
--     counted                    whose count of faults rose
use Rattle.std.specs.Prelude.{◌≡◌, ℕ, ◌⊎◌, ◌+◌, ◌^◌, ◌<◌, ◌≤◌, Bool, true, false, IsTrue, List, [], ◌∷◌, ◌++◌, length, map, Option, Some, None, IfSome, All}
use Rattle.std.specs.Io.KnownBytes.{Consumes, Appends, IsAtEnd}
use Rattle.sha2.specs.Sha256.{sha256}
use Rattle.lc_algebra.specs.Matrix.{Matrix}
use Rattle.lc_enumeration.specs.Search.{Answer, answer}
use Rattle.lc_enumeration.specs.Records.{Note, Start, fresh_start, SessionStep, SessionRounds, session_rounds}
use Rattle.lc_enumeration.specs.Fitting.{Misfit, misfit}
use Rattle.lc_enumeration.specs.Truth.{AnswerHolds}
use Rattle.lc_formats.specs.Certificate.{accepted, rejected as rejects}
use Rattle.lc_formats.specs.Claim.{Document}
use Rattle.lc_formats.specs.Document.{document_in, document, IsCheckText}
use Rattle.lc_formats.specs.Proven.{IsVerdict, Proves}
use Rattle.lc_formats.specs.Checkpoint.{Checkpoint}
use Rattle.lc_formats.specs.Truth.{start_of}
use Rattle.lc_algebra.specs.Divisor.{divisor_of}
use Rattle.lc_io.specs.declared.watcher.Record.{Record}
use Rattle.lc_io.specs.Outside.{HasRisen, GaveFront, GaveLess, AppendsPart}
use Rattle.lc_io.specs.Vaults.{Slots, empty_slots, put, WhereTold, IsTorn}
use Rattle.lc_io.specs.declared.vault.Slot.TheVariants.{Zero, One}
use Rattle.lc_io.specs.Watchers.{Hearing}
use Rattle.lc_io.specs.Told.{Kept}
use Rattle.lc_language.specs.declared.Call.{Call}
use Rattle.lc_language.specs.Evaluation.{IsText}
use Rattle.lc_session_rules.specs.Options.{Command, run, resume, check, summary, Settings, Options, settings, usage as refuses, options, all_options}
use Rattle.lc_session_rules.specs.Needs.{IsNeeds, MeetsFirst}
use Rattle.lc_session_rules.specs.Nears.{NearsHold}
use Rattle.lc_session_rules.specs.Answers.{IsTextBy, Settle, HasWords}
use Rattle.lc_session_rules.specs.Slots.{slot_of, next_turn, turn_after, slots_after, IsTrueCheckpoint, Choice, nothing_stored, none_decodes, takes, choice, is_for}
use Rattle.lc_session_rules.specs.Summary.{summary_code, summary_text}
use Rattle.lc_session_rules.specs.Endings.{Ending, done, usage, paused, source_fault, sink_fault, vault_fault, no_memory, no_checkpoint, damaged_checkpoint, other_script, rejected, too_long, unfit}

pub record Outside : Type 0 where
  pub source : Option (List ℕ)
  pub source_faults : ℕ
  pub sink : Option (List ℕ)
  pub sink_faults : ℕ
  pub vault : Option Slots
  pub vault_faults : ℕ
  pub watchers : List Hearing

pub record Course : Type 0 where
  pub bytes : List ℕ
  pub needs : List Matrix
  pub start : Start
  pub turn : ℕ
  pub told : List SessionStep
  pub left : List SessionStep
  pub is_paused : Bool
  pub text : List ℕ
  pub is_faulty : Bool

abbrev pub most_bytes : ℕ
most_bytes = 2 ^ 20

abbrev pub rounds_of : Settings → Course → SessionRounds
rounds_of asked course = session_rounds divisor_of course.needs asked.budget asked.round asked.slice course.start

-- the record of a note, as watchers hear it
abbrev pub record_of : Note → Record
record_of note = record { query = note.need; blocks = note.blocks; bound = note.bound; best = note.best }

-- the records of these steps
abbrev pub records_of : List SessionStep → List Record
records_of steps = map (λ s. record_of s.note) steps

-- the commands that may keep checkpoints: run and resume
abbrev pub keeps : Command → Bool
keeps run = true
keeps resume = true
keeps check = false
keeps summary = false

-- the command that goes on from a checkpoint
abbrev pub resumes : Command → Bool
resumes run = false
resumes resume = true
resumes check = false
resumes summary = false

-- the command that checks a certificate
abbrev pub checks : Command → Bool
checks run = false
checks resume = false
checks check = true
checks summary = false

-- the commands that read the source: all but the summary
abbrev pub reads : Command → Bool
reads run = true
reads resume = true
reads check = true
reads summary = false

-- which commands can end so
abbrev pub can_end : Ending → Command → Bool
can_end (done n) command = true
can_end (usage i) command = true
can_end (paused query blocks) command = keeps command
can_end source_fault command = reads command
can_end sink_fault command = true
can_end (vault_fault told) command = keeps command
can_end (no_memory told) command = true
can_end no_checkpoint command = resumes command
can_end damaged_checkpoint command = resumes command
can_end (other_script script budget) command = resumes command
can_end (rejected reason) command = checks command
can_end too_long command = reads command
can_end (unfit query told found) command = resumes command

-- refused arguments end the session with their index, and only these do. Then all is as it was
abbrev pub Accepts : Options → Settings → Outside → Outside → Ending → Type 0
Accepts (refuses i) asked old new ending = (new ≡ old) × (ending ≡ usage i)
Accepts (settings s) asked old new ending = (asked ≡ s) × ((i : ℕ) → ¬ (ending ≡ usage i))

-- the source was read to its end
pub record WasRead (old new : Option (List ℕ)) (bytes : List ℕ) : Type 0 where
  pub gave : Consumes old new bytes
  pub ended : IsAtEnd new
  pub within : length bytes ≤ most_bytes

-- it gave one byte more than a script may have
abbrev pub GaveTooMuch : Option (List ℕ) → Option (List ℕ) → Type 0
GaveTooMuch old new = (bytes : List ℕ) × (length bytes ≡ most_bytes + 1) × Consumes old new bytes

-- what was taken from the source, by the ending: the whole script, a front of it, one byte more than a script may have, or nothing
abbrev pub ReadsScript : Ending → Option (List ℕ) → Option (List ℕ) → Course → Type 0
ReadsScript (done n) old new course = WasRead old new course.bytes
ReadsScript (usage i) old new course = new ≡ old
ReadsScript (paused query blocks) old new course = WasRead old new course.bytes
ReadsScript source_fault old new course = GaveLess old new (most_bytes + 1)
ReadsScript sink_fault old new course = WasRead old new course.bytes
ReadsScript (vault_fault told) old new course = WasRead old new course.bytes
ReadsScript (no_memory told) old new course = WasRead old new course.bytes ⊎ ((course.told ≡ []) × GaveFront old new (most_bytes + 1))
ReadsScript no_checkpoint old new course = WasRead old new course.bytes
ReadsScript damaged_checkpoint old new course = WasRead old new course.bytes
ReadsScript (other_script script budget) old new course = WasRead old new course.bytes
ReadsScript (rejected reason) old new course = WasRead old new course.bytes
ReadsScript too_long old new course = GaveTooMuch old new
ReadsScript (unfit query told found) old new course = WasRead old new course.bytes

-- a summary reads nothing
abbrev pub Reads : Command → Ending → Option (List ℕ) → Option (List ℕ) → Course → Type 0
Reads run ending old new course = ReadsScript ending old new course
Reads resume ending old new course = ReadsScript ending old new course
Reads check ending old new course = ReadsScript ending old new course
Reads summary ending old new course = new ≡ old

-- if the vault tells its slots, this is what `resume` finds in them
abbrev pub Finds : Option Slots → Choice → Type 0
Finds held found = IfSome held (λ slots. choice slots ≡ found)

-- a checkpoint of this script and budget was taken, and the session goes on from it
pub record GoesOnFrom (asked : Settings) (held : Option Slots) (course : Course) (p : Checkpoint) : Type 0 where
  pub found : Finds held (takes p)
  pub same : IsTrue (is_for (sha256 course.bytes) asked.budget p)
  pub start : course.start ≡ start_of course.needs p
  pub turn : course.turn ≡ next_turn p.turn

-- some checkpoint was taken, and the session goes on from it
abbrev pub IsResumed : Settings → Option Slots → Course → Type 0
IsResumed asked held course = (p : Checkpoint) × GoesOnFrom asked held course p

-- the first record that doesn't fit its need, once that need is met; that there are more records than needs shows at the end of the text
abbrev pub IsUnfit : List Call → Settings → Course → Misfit → Type 0
IsUnfit table asked course m =
    (misfit divisor_of course.needs asked.budget course.start ≡ Some m)
    × (((m.need < length course.needs) × MeetsFirst table course.bytes course.needs) ⊎ IsNeeds table course.bytes course.needs)

-- every record that the session used fits its need
abbrev pub Fits : Settings → Course → Type 0
Fits asked course = misfit divisor_of course.needs asked.budget course.start ≡ None

-- a checkpoint was taken, or no record was told: the session may have ended before it took one
abbrev pub MayBeResumed : Settings → Option Slots → Course → Type 0
MayBeResumed asked held course = (course.told ≡ []) ⊎ (IsResumed asked held course × Fits asked course)

-- what `resume` found in the slots, by the ending: a checkpoint whose records fit, where it came so far; and each refusal of
-- checkpoints comes in its case alone
abbrev pub Resumes : List Call → Ending → Settings → Option Slots → Course → Type 0
Resumes table (done n) asked held course = IsResumed asked held course × Fits asked course
Resumes table (usage i) asked held course = Unit {0}
Resumes table (paused query blocks) asked held course = IsResumed asked held course × Fits asked course
Resumes table source_fault asked held course = Unit {0}
Resumes table sink_fault asked held course = IsResumed asked held course × Fits asked course
Resumes table (vault_fault told) asked held course = MayBeResumed asked held course
Resumes table (no_memory told) asked held course = MayBeResumed asked held course
Resumes table no_checkpoint asked held course = Finds held nothing_stored
Resumes table damaged_checkpoint asked held course = Finds held none_decodes
Resumes table (other_script script budget) asked held course =
    (p : Checkpoint) × Finds held (takes p) × (is_for (sha256 course.bytes) asked.budget p ≡ false) × (script ≡ p.script) × (budget ≡ p.budget)
Resumes table (rejected reason) asked held course = ⊥
Resumes table too_long asked held course = Unit {0}
Resumes table (unfit query told found) asked held course =
    (p : Checkpoint) × GoesOnFrom asked held course p × ¬ IsTrueCheckpoint table course.bytes asked.budget p
    × IsUnfit table asked course (record { need = query; told = told; found = found })

-- a session that begins: its searches start afresh
pub record IsFresh (course : Course) : Type 0 where
  pub start : course.start ≡ fresh_start
  pub turn : course.turn ≡ 0

-- where the searches start, by the command: `resume` goes on from a checkpoint, the others start afresh
abbrev pub Starts : List Call → Command → Ending → Settings → Option Slots → Course → Type 0
Starts table run ending asked held course = IsFresh course
Starts table resume ending asked held course = Resumes table ending asked held course
Starts table check ending asked held course = IsFresh course
Starts table summary ending asked held course = IsFresh course

-- which needs the session met: those of the first statements of its script; the code of a summary; none
abbrev pub Meets : List Call → Settings → Command → Course → Type 0
Meets table asked run course = MeetsFirst table course.bytes course.needs
Meets table asked resume course = MeetsFirst table course.bytes course.needs
Meets table asked check course = course.needs ≡ []
Meets table asked summary course = (course.needs ≡ []) ⊎ (course.needs ≡ summary_code asked.number ∷ [])

-- these steps end with one whose record has this query and these blocks
abbrev pub EndsAt : List SessionStep → ℕ → ℕ → Type 0
EndsAt told query blocks = (before : List SessionStep) × (last : SessionStep) × (told ≡ before ++ last ∷ []) × (last.note.need ≡ query) × (last.note.blocks ≡ blocks)

-- if checkpoints are kept, no watcher paused the session at its last record
abbrev pub IsUnpaused : Settings → Course → Type 0
IsUnpaused asked course = asked.keep ≡ true → course.is_paused ≡ false

-- all rounds were done, the slice stopped none, and no watcher paused the session
pub record IsWhole (asked : Settings) (course : Course) : Type 0 where
  pub all : course.left ≡ []
  pub unstopped : (rounds_of asked course).is_stopped ≡ false
  pub unpaused : IsUnpaused asked course

-- checkpoints are kept, and a watcher paused the session at its last record, or the slice is used up and a round would follow
pub record IsPaused (asked : Settings) (course : Course) (query blocks : ℕ) : Type 0 where
  pub kept : asked.keep ≡ true
  pub at : EndsAt course.told query blocks
  pub why : (course.is_paused ≡ true) ⊎ ((course.left ≡ []) × ((rounds_of asked course).is_stopped ≡ true))

-- which records were told, by the ending: all, those up to the pause, the first `told` of them, or none
abbrev pub Ends : Ending → Settings → Course → Type 0
Ends (done n) asked course = IsWhole asked course
Ends (usage i) asked course = course.told ≡ []
Ends (paused query blocks) asked course = IsPaused asked course query blocks
Ends source_fault asked course = course.told ≡ []
Ends sink_fault asked course = IsWhole asked course
Ends (vault_fault told) asked course = (told ≡ length course.told) × ((asked.keep ≡ true) ⊎ ((asked.command ≡ resume) × (told ≡ 0))) × IsUnpaused asked course
Ends (no_memory told) asked course = (told ≡ length course.told) × IsUnpaused asked course
Ends no_checkpoint asked course = course.told ≡ []
Ends damaged_checkpoint asked course = course.told ≡ []
Ends (other_script script budget) asked course = course.told ≡ []
Ends (rejected reason) asked course = IsWhole asked course
Ends too_long asked course = course.told ≡ []
Ends (unfit query told found) asked course = course.told ≡ []

-- `run` empties the slots before its first round; `resume` leaves them as they are
abbrev pub begin_with : Command → Slots → Slots
begin_with run slots = empty_slots
begin_with resume slots = slots
begin_with check slots = slots
begin_with summary slots = slots

-- the slots after the checkpoints of the steps told
abbrev pub told_slots : Settings → Course → Slots → Slots
told_slots asked course slots = slots_after 2 (sha256 course.bytes) asked.budget course.turn course.told (begin_with asked.command slots)

-- if the vault tells its slots, they hold the checkpoints of the steps told
abbrev pub Keeps : Settings → Course → Option Slots → Option Slots → Type 0
Keeps asked course old new = WhereTold old new (λ before after. after ≡ told_slots asked course before)

-- and then the store of the next checkpoint failed
abbrev pub Tears : Settings → Course → Option Slots → Option Slots → Type 0
Tears asked course old new = WhereTold old new (λ before after. IsTorn (slot_of (turn_after course.turn course.told)) (told_slots asked course before) after)

-- a slot could not be emptied: slot Zero holds any bytes and slot One is as it was, or slot Zero is empty and slot One holds any bytes
abbrev pub AreHalfEmptied : Slots → Slots → Type 0
AreHalfEmptied before after = (bytes : List ℕ) × ((after ≡ put Zero bytes before) ⊎ (after ≡ put One bytes empty_slots))

-- the vault failed before the first round
abbrev pub FailsFirst : Command → Option Slots → Option Slots → Type 0
FailsFirst run old new = WhereTold old new AreHalfEmptied
FailsFirst resume old new = new ≡ old
FailsFirst check old new = ⊥
FailsFirst summary old new = ⊥

-- the searches have started: `resume` has taken a checkpoint
abbrev pub IsStarted : Command → Settings → Option Slots → Course → Type 0
IsStarted run asked held course = Unit {0}
IsStarted resume asked held course = IsResumed asked held course
IsStarted check asked held course = Unit {0}
IsStarted summary asked held course = Unit {0}

-- what is in the slots, by the ending, if checkpoints are kept: those of the steps told, all but one slot of them if a store
-- failed, or what was there
abbrev pub StoresIfKept : Ending → Settings → Course → Option Slots → Option Slots → Type 0
StoresIfKept (done n) asked course old new = Keeps asked course old new
StoresIfKept (usage i) asked course old new = new ≡ old
StoresIfKept (paused query blocks) asked course old new = Keeps asked course old new
StoresIfKept source_fault asked course old new = new ≡ old
StoresIfKept sink_fault asked course old new = Keeps asked course old new
StoresIfKept (vault_fault told) asked course old new = ((course.told ≡ []) × FailsFirst asked.command old new) ⊎ (IsStarted asked.command asked old course × Fits asked course × ¬ (course.left ≡ []) × Tears asked course old new)
StoresIfKept (no_memory told) asked course old new = ((course.told ≡ []) × (new ≡ old)) ⊎ (IsStarted asked.command asked old course × Keeps asked course old new)
StoresIfKept no_checkpoint asked course old new = new ≡ old
StoresIfKept damaged_checkpoint asked course old new = new ≡ old
StoresIfKept (other_script script budget) asked course old new = new ≡ old
StoresIfKept (rejected reason) asked course old new = new ≡ old
StoresIfKept too_long asked course old new = new ≡ old
StoresIfKept (unfit query told found) asked course old new = new ≡ old

-- the same, and what was there if none are kept
abbrev pub Stores : Bool → Ending → Settings → Course → Option Slots → Option Slots → Type 0
Stores true ending asked course old new = StoresIfKept ending asked course old new
Stores false ending asked course old new = new ≡ old

-- the text of the script under its budget, whatever the workers, the slice, the watchers and the sessions before were; each need and
-- each query for a nearest word is answered truly
pub record IsScriptText (table : List Call) (asked : Settings) (course : Course) : Type 0 where
  pub printed : IsText table asked.budget course.bytes course.text course.is_faulty
  pub truth : All (λ C. AnswerHolds C (answer (divisor_of C) C asked.budget)) course.needs
  pub near : NearsHold table course.bytes asked.budget

-- what `resume` prints over any vault: the answers are those of the records used and the rounds done, and their words are there;
-- each query for a nearest word is answered truly. If the checkpoint that it took is true, it is the text of the script
pub record IsResumedText (table : List Call) (asked : Settings) (held : Option Slots) (course : Course) : Type 0 where
  pub answers : List Answer
  pub settled : Settle asked.budget course.needs (rounds_of asked course).settled answers
  pub printed : IsTextBy table asked.budget course.bytes answers course.text course.is_faulty
  pub words : HasWords course.needs answers
  pub near : NearsHold table course.bytes asked.budget
  pub honest : (p : Checkpoint) → GoesOnFrom asked held course p → IsTrueCheckpoint table course.bytes asked.budget p → IsScriptText table asked course

-- what the text is, by the command: that of the script, by its search or by the records of a checkpoint; the line of the
-- certificate; the line of the summary, whose answer is true
abbrev pub Replies : List Call → Command → Settings → Option Slots → Course → Type 0
Replies table run asked held course = IsNeeds table course.bytes course.needs × IsScriptText table asked course
Replies table resume asked held course = IsNeeds table course.bytes course.needs × IsResumedText table asked held course
Replies table check asked held course = IsCheckText course.bytes course.text × (course.is_faulty ≡ false)
Replies table summary asked held course =
    (course.text ≡ summary_text asked.number asked.budget asked.round) × (course.is_faulty ≡ false) × (course.needs ≡ summary_code asked.number ∷ [])
    × AnswerHolds (summary_code asked.number) (answer (divisor_of (summary_code asked.number)) (summary_code asked.number) asked.budget)

-- the bytes are a certificate of either version that is accepted, and its distance is that of its rows, or of the code that its
-- claim defines
pub record IsAccepted (bytes : List ℕ) : Type 0 where
  pub certificate : Document
  pub reads : document_in bytes ≡ document certificate
  pub verdict : IsVerdict (document_in bytes) accepted
  pub proves : Proves certificate

-- `check` ends with Done only for a certificate that is accepted
abbrev pub Judges : Command → List ℕ → Type 0
Judges run bytes = Unit {0}
Judges resume bytes = Unit {0}
Judges check bytes = IsAccepted bytes
Judges summary bytes = Unit {0}

-- the number of Done: 1 if a fault line ends the text
abbrev pub end_number : Bool → ℕ
end_number true = 1
end_number false = 0

-- the text was made, by the endings that print one: it is what the command asks for. Done has the number of the text, Rejected
-- the first reason
abbrev pub Replied : List Call → Ending → Settings → Option Slots → Course → Type 0
Replied table (done n) asked held course = Replies table asked.command asked held course × (n ≡ end_number course.is_faulty) × Judges asked.command course.bytes
Replied table sink_fault asked held course = Replies table asked.command asked held course
Replied table (rejected reason) asked held course = Replies table asked.command asked held course × IsVerdict (document_in course.bytes) (rejects reason)
Replied table _ asked held course = Unit {0}

-- what the sink took, by the ending: the whole text, a front of it that is not the whole, or nothing
abbrev pub Writes : Ending → List ℕ → Option (List ℕ) → Option (List ℕ) → Type 0
Writes (done n) text old new = Appends old new text
Writes sink_fault text old new = AppendsPart old new text
Writes (rejected reason) text old new = Appends old new text
Writes _ text old new = new ≡ old

-- none of the three failed
pub record NoneFailed (old new : Outside) : Type 0 where
  pub source : new.source_faults ≡ old.source_faults
  pub sink : new.sink_faults ≡ old.sink_faults
  pub vault : new.vault_faults ≡ old.vault_faults

-- whose count of faults rose, by the ending: that of the source, the sink or the vault that failed, and no other one
abbrev pub Counts : Ending → Outside → Outside → Type 0
Counts source_fault old new = HasRisen old.source_faults new.source_faults × (new.sink_faults ≡ old.sink_faults) × (new.vault_faults ≡ old.vault_faults)
Counts sink_fault old new = (new.source_faults ≡ old.source_faults) × HasRisen old.sink_faults new.sink_faults × (new.vault_faults ≡ old.vault_faults)
Counts (vault_fault told) old new = (new.source_faults ≡ old.source_faults) × (new.sink_faults ≡ old.sink_faults) × HasRisen old.vault_faults new.vault_faults
Counts _ old new = NoneFailed old new

pub record IsSession (table : List Call) (args : List (List ℕ)) (old new : Outside) (ending : Ending) : Type 0 where
  pub asked : Settings
  pub course : Course
  pub accepted : Accepts (options all_options args) asked old new ending
  pub possible : IsTrue (can_end ending asked.command)
  pub read : Reads asked.command ending old.source new.source course
  pub started : Starts table asked.command ending asked old.vault course
  pub met : Meets table asked asked.command course
  pub rounds : (rounds_of asked course).steps ≡ course.told ++ course.left
  pub ended : Ends ending asked course
  pub heard : Kept asked.keep (records_of course.told) course.is_paused old.watchers new.watchers
  pub stored : Stores asked.keep ending asked course old.vault new.vault
  pub replied : Replied table ending asked old.vault course
  pub written : Writes ending course.text old.sink new.sink
  pub counted : Counts ending old new
