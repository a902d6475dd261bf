-- Sessions of scripts store true checkpoints.
--   read_whole           a session that told a record has read its script
--   is_grounded          so the laws of stored slots rest on nothing
--   torn_ground          nor does a session whose store failed
--   stores_truly         the slots after a session
--   stores_afresh        those after a session of `run` that emptied them
--   true_turn            the turn of a true checkpoint is below 2^58
--   tells_early          and so is that of a record told
--   slots_stay           true slots stay true
use Rattle.std.proofs.Common.{◌≡◌, ◌⊎◌, inl, inr, ◌≤◌, ◌<◌, ◌^◌, ℕ, true, List, [], ◌∷◌, ◌++◌, length, Option, Some, refl, sym, subst, ◌∙◌}
use Rattle.std.specs.Prelude.{IsTrue}
use Rattle.lc_enumeration.specs.Records.{SessionStep}
use Rattle.lc_formats.specs.Checkpoint.{Checkpoint}
use Rattle.lc_io.specs.Outside.{HasRisen}
use Rattle.lc_io.specs.Vaults.{Slots}
use Rattle.lc_calls.specs.Built.{built_calls}
use Rattle.lc_session_rules.specs.Options.{Command, run, resume, check, summary, Settings, Options, settings, usage as refuses, options, all_options}
use Rattle.lc_session_rules.specs.Slots.{turn_after, IsTrueCheckpoint, AreTrueSlots}
use Rattle.lc_session_rules.specs.Endings.{Ending, done, usage, paused, source_fault, sink_fault, vault_fault, no_memory, no_checkpoint, damaged_checkpoint, other_script, rejected, too_long, unfit}
use Rattle.lc_session_rules.specs.Session.{Outside, Course, most_bytes, keeps, Accepts, ReadsScript, Reads, Ends, IsSession}
use Rattle.lc_session_rules.specs.Promises.{StartsTruly, StoresTruly, StoresAfresh, FailsSo}
use Rattle.lc_session_rules.specs.Chain.{IsGround, HasBegun}
use Rattle.lc_session_rules.proofs.GroundLaws as chains
use Rattle.lc_session_rules.proofs.StoredTruly.{IsGrounded, grounded_stores, grounded_afresh, grounded_early, grounded_stay}
use Rattle.lc_script_laws.proofs.GroundLaws.{script_is_ground}
use Rattle.lc_session_rules.proofs.OptionLaws.{options_usual}

-- a session that told a record has read its script
read_whole : (ending : Ending) (asked : Settings) (old new : Option (List ℕ)) (course : Course) → ReadsScript ending old new course → Ends ending asked course → (course.told ≡ []) ⊎ (length course.bytes ≤ most_bytes)
read_whole (done n) asked old new course r e = inr r.within
read_whole (usage i) asked old new course r e = inl e
read_whole (paused query blocks) asked old new course r e = inr r.within
read_whole source_fault asked old new course r e = inl e
read_whole sink_fault asked old new course r e = inr r.within
read_whole (vault_fault told) asked old new course r e = inr r.within
read_whole (no_memory told) asked old new course (inl r) e = inr r.within
read_whole (no_memory told) asked old new course (inr r) e = inl r.0
read_whole no_checkpoint asked old new course r e = inl e
read_whole damaged_checkpoint asked old new course r e = inl e
read_whole (other_script script budget) asked old new course r e = inl e
read_whole (rejected reason) asked old new course r e = inr r.within
read_whole too_long asked old new course r e = inl e
read_whole (unfit query told found) asked old new course r e = inl e

reads_by : (c : Command) (ending : Ending) (asked : Settings) (held : Option Slots) (old new : Option (List ℕ)) (course : Course) → StartsTruly built_calls c asked held course → Reads c ending old new course → Ends ending asked course → (course.told ≡ []) ⊎ (length course.bytes ≤ most_bytes)
reads_by run ending asked held old new course truly r e = read_whole ending asked old new course r e
reads_by resume ending asked held old new course truly r e = read_whole ending asked old new course r e
reads_by check ending asked held old new course truly r e = absurd truly
reads_by summary ending asked held old new course truly r e = absurd truly

-- refused arguments tell no record
refused_silent : (ending : Ending) (i : ℕ) (asked : Settings) (course : Course) → ending ≡ usage i → Ends ending asked course → course.told ≡ []
refused_silent ending i asked course e ends = subst (λ (x : Ending). Ends x asked course) e ends

-- accepted arguments ask for a budget of at most 2^40 blocks
accepted_ground : (args : List (List ℕ)) (s asked : Settings) (course : Course) → options all_options args ≡ settings s → asked ≡ s → length course.bytes ≤ most_bytes → IsGround built_calls course.bytes asked.budget
accepted_ground args s asked course is same short = script_is_ground course.bytes asked.budget short (subst (λ (t : Settings). t.budget ≤ 2 ^ 40) (sym same) (options_usual all_options args s is).budget_is)

grounded_by : (args : List (List ℕ)) (o : Options) (asked : Settings) (old new : Outside) (ending : Ending) (course : Course) → options all_options args ≡ o → Accepts o asked old new ending → Ends ending asked course → (course.told ≡ []) ⊎ (length course.bytes ≤ most_bytes) → IsGrounded built_calls asked course
grounded_by args (refuses i) asked old new ending course is h ends read = inl (refused_silent ending i asked course h.1 ends)
grounded_by args (settings s) asked old new ending course is h ends (inl e) = inl e
grounded_by args (settings s) asked old new ending course is h ends (inr short) = inr (accepted_ground args s asked course is h.0 short)

-- whatever the slots, if the command is one that keeps checkpoints
reads_if_kept : (c : Command) (ending : Ending) (asked : Settings) (old new : Option (List ℕ)) (course : Course) → IsTrue (keeps c) → Reads c ending old new course → Ends ending asked course → (course.told ≡ []) ⊎ (length course.bytes ≤ most_bytes)
reads_if_kept run ending asked old new course may r e = read_whole ending asked old new course r e
reads_if_kept resume ending asked old new course may r e = read_whole ending asked old new course r e
reads_if_kept check ending asked old new course may r e = absurd (let f = may in cc)
reads_if_kept summary ending asked old new course may r e = absurd (let f = may in cc)

-- a session whose store failed has read its script, and its arguments are accepted
read_torn : (c : Command) (ending : Ending) (old new : Option (List ℕ)) (course : Course) → IsTrue (keeps c) → Reads c ending old new course → (told : ℕ) → ending ≡ vault_fault told → length course.bytes ≤ most_bytes
read_torn run ending old new course may r told e = (subst (λ (x : Ending). ReadsScript x old new course) e r).within
read_torn resume ending old new course may r told e = (subst (λ (x : Ending). ReadsScript x old new course) e r).within
read_torn check ending old new course may r told e = absurd (let f = may in cc)
read_torn summary ending old new course may r told e = absurd (let f = may in cc)

torn_ground : (args : List (List ℕ)) (o : Options) (asked : Settings) (old new : Outside) (ending : Ending) (course : Course) → options all_options args ≡ o → Accepts o asked old new ending → length course.bytes ≤ most_bytes → (told : ℕ) → ending ≡ vault_fault told → IsGround built_calls course.bytes asked.budget
torn_ground args (refuses i) asked old new ending course is h short told e = absurd (let f = sym h.1 ∙ e in cc)
torn_ground args (settings s) asked old new ending course is h short told e = accepted_ground args s asked course is h.0 short

pub slots_stay : (args : List (List ℕ)) (old new : Outside) (ending : Ending) (s : IsSession built_calls args old new ending) (before after : Slots) → IsTrue (keeps s.asked.command) → old.vault ≡ Some before → new.vault ≡ Some after
    → AreTrueSlots built_calls s.course.bytes s.asked.budget before → (HasRisen old.vault_faults new.vault_faults → FailsSo s.asked s.course before after) → AreTrueSlots built_calls s.course.bytes s.asked.budget after
slots_stay args old new ending s before after may is now both so =
    let grounded = grounded_by args (options all_options args) s.asked old new ending s.course refl s.accepted s.ended (reads_if_kept s.asked.command ending s.asked old.source new.source s.course may s.read s.ended) in
    grounded_stay built_calls args old new ending s before after grounded
    (λ told e. torn_ground args (options all_options args) s.asked old new ending s.course refl s.accepted (read_torn s.asked.command ending old.source new.source s.course may s.read told e) told e) may is now both so

is_grounded : (args : List (List ℕ)) (old new : Outside) (ending : Ending) (s : IsSession built_calls args old new ending) → StartsTruly built_calls s.asked.command s.asked old.vault s.course → IsGrounded built_calls s.asked s.course
is_grounded args old new ending s truly =
    grounded_by args (options all_options args) s.asked old new ending s.course refl s.accepted s.ended
    (reads_by s.asked.command ending s.asked old.vault old.source new.source s.course truly s.read s.ended)

pub stores_truly : (args : List (List ℕ)) (old new : Outside) (ending : Ending) (s : IsSession built_calls args old new ending) → StartsTruly built_calls s.asked.command s.asked old.vault s.course → s.asked.keep ≡ true → StoresTruly built_calls s.asked s.course old new
stores_truly args old new ending s truly keeps = grounded_stores built_calls args old new ending s (is_grounded args old new ending s truly) truly keeps

pub stores_afresh : (args : List (List ℕ)) (old new : Outside) (ending : Ending) (s : IsSession built_calls args old new ending) → s.asked.command ≡ run → s.asked.keep ≡ true → HasBegun ending s.course → StoresAfresh built_calls s.asked s.course old new
stores_afresh args old new ending s runs keeps begun =
    let truly : StartsTruly built_calls s.asked.command s.asked old.vault s.course = subst (λ (c : Command). StartsTruly built_calls c s.asked old.vault s.course) (sym runs) tt in
    grounded_afresh built_calls args old new ending s (is_grounded args old new ending s truly) runs keeps begun

pub true_turn : (bytes : List ℕ) (budget : ℕ) → length bytes ≤ most_bytes → budget ≤ 2 ^ 40 → (p : Checkpoint) → IsTrueCheckpoint built_calls bytes budget p → p.turn < 2 ^ 58
true_turn bytes budget short small p holds = chains.true_turn built_calls bytes budget (script_is_ground bytes budget short small) p holds

pub tells_early : (args : List (List ℕ)) (old new : Outside) (ending : Ending) (s : IsSession built_calls args old new ending) → StartsTruly built_calls s.asked.command s.asked old.vault s.course
    → (before : List SessionStep) (last : SessionStep) → s.course.told ≡ before ++ last ∷ [] → turn_after s.course.turn before < 2 ^ 58
tells_early args old new ending s truly before last told = grounded_early built_calls args old new ending s (is_grounded args old new ending s truly) truly before last told
