-- A session that keeps its checkpoints goes on in a chain.
--   chosen_is            the checkpoint that is taken is the chosen one
--   one_more, next_stored        if a store that failed left the checkpoint of the next step, the slots are those after one step more
--   torn_leaves          so, whatever it left, some of the first steps were stored, and a store after them may have failed
--   resumed_kept         `resume` stored the checkpoints of the records told
--   resumed_torn         and then a store failed
--   resume_goes_on       `resume`, however it ends, leaves slots of a chain
--   run_begins           `run` does, once it emptied the slots
use Rattle.std.proofs.Common.{◌≡◌, ◌≤◌, ⊎_elim, inl, inr, ℕ, Bool, true, false, List, [], ◌∷◌, ◌++◌, refl, sym, ap, subst, ◌∙◌, arith, ◌⊎◌}
use Rattle.std.specs.Prelude.{Option, Some, None, if◌then◌else◌, ◌&&◌}
use Rattle.std.proofs.lemmas.List.{append_assoc}
use Rattle.sha2.specs.Sha256.{sha256}
use Rattle.lc_algebra.specs.Divisor.{divisor_of}
use Rattle.lc_enumeration.specs.Records.{Start, fresh_start, session_rounds, SessionStep}
use Rattle.lc_formats.specs.Checkpoint.{Checkpoint}
use Rattle.lc_formats.specs.Truth.{divisor_in, start_of}
use Rattle.lc_io.specs.Vaults.{Slots, empty_slots, in_slot, put}
use Rattle.lc_language.specs.declared.Call.{Call}
use Rattle.lc_session_rules.specs.Options.{Command, run, resume, Settings}
use Rattle.lc_session_rules.specs.Needs.{MeetsFirst}
use Rattle.lc_session_rules.specs.Slots.{nothing_stored, takes, choice_among, chosen, choice, is_empty, slot_of, turn_after, stored_bytes, slots_after, start_in}
use Rattle.lc_session_rules.specs.Endings.{Ending, done, usage, paused, source_fault, sink_fault, vault_fault, no_memory, no_checkpoint, damaged_checkpoint, other_script, rejected, too_long, unfit}
use Rattle.lc_session_rules.specs.Session.{Outside, Course, rounds_of, Finds, GoesOnFrom, IsResumed, IsFresh, Fits, Starts, Meets, begin_with, told_slots, Keeps, Tears, FailsFirst, IsStarted, Stores, StoresIfKept, IsSession}
use Rattle.lc_session_rules.specs.Chain.{IsLeft, Leaves, Goes, Chain, HasBegun, IsNextCheckpoint, TearsSo, GoesOn}
use Rattle.lc_algebra.specs.Matrix.{Matrix}
use Rattle.lc_session_rules.proofs.OptionLaws.{told_long, rounds_long}
use Rattle.lc_session_rules.proofs.SlotsAfter.{slots_after-append}

pub chosen_is : (slots : Slots) (p : Checkpoint) → choice slots ≡ takes p → chosen slots ≡ Some p
unfolding choice choice_among
chosen_is slots p is = by_empty (is_empty slots.zero_slot && is_empty slots.one_slot) (chosen slots) is
  where
    by_empty : (b : Bool) (o : Option Checkpoint) → (if b then nothing_stored else choice_among o) ≡ takes p → o ≡ Some p
    by_empty true o e = absurd (let f = e in cc)
    by_empty false None e = absurd (let f = e in cc)
    by_empty false (Some q) e = (let f = e in cc)

-- a session that told nothing
silently : (table : List Call) (bytes : List ℕ) (budget : ℕ) (needs : List Matrix) (start : Start) (told : List SessionStep) → MeetsFirst table bytes needs → told ≡ [] → Goes 2 table bytes budget needs start told
silently table bytes budget needs start told met none = record {
  version_is = inr refl;
  met = met;
  longest = 1;
  long = omega arith;
  slice = None;
  left = (session_rounds (divisor_in 2) needs budget 1 None start).steps;
  rounds = ap (λ (l : List SessionStep). l ++ (session_rounds (divisor_in 2) needs budget 1 None start).steps) (sym none);
}

goes_resumed : (table : List Call) (asked : Settings) (course : Course) (held : Option Slots) (before : Slots) (p : Checkpoint) (told left : List SessionStep) → held ≡ Some before → GoesOnFrom asked held course p → MeetsFirst table course.bytes course.needs → (rounds_of asked course).steps ≡ told ++ left → (told ≡ []) ⊎ (1 ≤ asked.round)
    → Goes 2 table course.bytes asked.budget course.needs (start_in (divisor_in 2) course.needs p) told
unfolding divisor_in start_in start_of
goes_resumed table asked course held before p told left is from met rounds (inl none) = silently table course.bytes asked.budget course.needs (start_in (divisor_in 2) course.needs p) told met none
goes_resumed table asked course held before p told left is from met rounds (inr long) = record {
  version_is = inr refl;
  met = met;
  longest = asked.round;
  long = long;
  slice = asked.slice;
  left = left;
  rounds = subst (λ (t : Start). (session_rounds divisor_of course.needs asked.budget asked.round asked.slice t).steps ≡ told ++ left) from.start rounds;
}

-- one step more is told, and one less is left
pub one_more : (steps told left : List SessionStep) (s : SessionStep) (rest : List SessionStep) → steps ≡ told ++ left → left ≡ s ∷ rest → steps ≡ (told ++ s ∷ []) ++ rest
one_more steps told left s rest rounds is = rounds ∙ ap (λ (l : List SessionStep). told ++ l) is ∙ sym (append_assoc told (s ∷ []) rest)

-- a store that failed left the checkpoint of the next step: so the slots are those after one step more
pub next_stored : (asked : Settings) (course : Course) (before after : Slots) (held : List ℕ) (s : SessionStep) → after ≡ put (slot_of (turn_after course.turn course.told)) held (told_slots asked course before) → held ≡ stored_bytes 2 (sha256 course.bytes) asked.budget (turn_after course.turn course.told) s
    → after ≡ slots_after 2 (sha256 course.bytes) asked.budget course.turn (course.told ++ s ∷ []) (begin_with asked.command before)
next_stored asked course before after held s is bytes =
    is ∙ ap (λ (h : List ℕ). put (slot_of (turn_after course.turn course.told)) h (told_slots asked course before)) bytes
    ∙ sym (slots_after-append 2 (sha256 course.bytes) asked.budget course.turn course.told (s ∷ []) (begin_with asked.command before))

-- some of the first steps were stored, and a store after them may have failed
abbrev LeavesSome : Settings → Course → Slots → Slots → Type 0
LeavesSome asked course before after = (told left : List SessionStep) × ((rounds_of asked course).steps ≡ told ++ left) × Leaves 2 (sha256 course.bytes) asked.budget course.turn told (begin_with asked.command before) after

torn_leaves : (asked : Settings) (course : Course) (before after : Slots) (held : List ℕ) → (rounds_of asked course).steps ≡ course.told ++ course.left → after ≡ put (slot_of (turn_after course.turn course.told)) held (told_slots asked course before)
    → IsLeft (in_slot (slot_of (turn_after course.turn course.told)) (told_slots asked course before)) held ⊎ IsNextCheckpoint asked course held → LeavesSome asked course before after
torn_leaves asked course before after held rounds is (inl left) = (course.told, course.left, rounds, inr (held, left, is))
torn_leaves asked course before after held rounds is (inr (s, rest, next, given)) =
    (course.told ++ s ∷ [], rest, one_more (rounds_of asked course).steps course.told course.left s rest rounds next, inl (next_stored asked course before after held s is given))

-- the premises on a session of a chain, as its course has them
record IsNext (table : List Call) (asked : Settings) (course : Course) (held : Option Slots) (version : ℕ) (before : Slots) : Type 0 where
  pub resumes : asked.command ≡ resume
  pub told : held ≡ Some before
  pub known : version ≤ 2
  pub chain : Chain table course.bytes asked.budget version before
  pub met : MeetsFirst table course.bytes course.needs
  pub rounds : (rounds_of asked course).steps ≡ course.told ++ course.left
  pub long : (course.told ≡ []) ⊎ (1 ≤ asked.round)

unchanged : (table : List Call) (asked : Settings) (course : Course) (held new : Option Slots) (version : ℕ) (before : Slots) → IsNext table asked course held version before → new ≡ held → GoesOn table course.bytes asked.budget new
unchanged table asked course held new version before n same = (before, same ∙ n.told, (version, n.known, n.chain))

resumed_leaves : (table : List Call) (asked : Settings) (course : Course) (held : Option Slots) (version : ℕ) (before after : Slots) → IsNext table asked course held version before → IsResumed asked held course → (told left : List SessionStep) → (rounds_of asked course).steps ≡ told ++ left → (told ≡ []) ⊎ (1 ≤ asked.round)
    → Leaves 2 (sha256 course.bytes) asked.budget course.turn told before after → Chain table course.bytes asked.budget 2 after
resumed_leaves table asked course held version before after n (p, from) told left rounds long leaves =
    Chain.resumed version 2 course.needs p told before after n.chain n.known
    (chosen_is before p (let found : Finds (Some before) (takes p) = subst (λ (h : Option Slots). Finds h (takes p)) n.told from.found in found))
    (goes_resumed table asked course held before p told left n.told from n.met rounds long)
    (subst (λ (t : ℕ). Leaves 2 (sha256 course.bytes) asked.budget t told before after) from.turn leaves)

-- a session that resumes finds the slots as it left them to be
found_so : (asked : Settings) (course : Course) (before : Slots) → asked.command ≡ resume → told_slots asked course before ≡ slots_after 2 (sha256 course.bytes) asked.budget course.turn course.told before
found_so asked course before is = ap (λ (c : Command). slots_after 2 (sha256 course.bytes) asked.budget course.turn course.told (begin_with c before)) is

resumed_kept : (table : List Call) (asked : Settings) (course : Course) (held new : Option Slots) (version : ℕ) (before : Slots) → IsNext table asked course held version before → IsResumed asked held course → Keeps asked course held new → GoesOn table course.bytes asked.budget new
resumed_kept table asked course held new version before n from keeps =
    let k : Keeps asked course (Some before) new = subst (λ (h : Option Slots). Keeps asked course h new) n.told keeps in
    (k.0, k.1, (2, omega arith, resumed_leaves table asked course held version before k.0 n from course.told course.left n.rounds n.long (inl (k.2 ∙ found_so asked course before n.resumes))))

resumed_torn : (table : List Call) (asked : Settings) (course : Course) (held new : Option Slots) (version : ℕ) (before : Slots) → IsNext table asked course held version before → IsResumed asked held course → 1 ≤ asked.round → ((after : Slots) → new ≡ Some after → TearsSo asked course before after) → Tears asked course held new → GoesOn table course.bytes asked.budget new
resumed_torn table asked course held new version before n from long so tears =
    let k : Tears asked course (Some before) new = subst (λ (h : Option Slots). Tears asked course h new) n.told tears in
    let l = torn_leaves asked course before k.0 k.2.0 n.rounds k.2.1 (so k.0 k.1 k.2.0 k.2.1) in
    (k.0, k.1, (2, omega arith, resumed_leaves table asked course held version before k.0 n from l.0 l.1 l.2 (inr long) (subst (λ (c : Command). Leaves 2 (sha256 course.bytes) asked.budget course.turn l.0 (begin_with c before) k.0) n.resumes l.3)))

pub kept_stores : (keep : Bool) (ending : Ending) (asked : Settings) (course : Course) (old new : Option Slots) → keep ≡ true → Stores keep ending asked course old new → StoresIfKept ending asked course old new
kept_stores true ending asked course old new is h = h
kept_stores false ending asked course old new is h = absurd (let e = is in cc)

resume_by : (table : List Call) (ending : Ending) (asked : Settings) (course : Course) (held new : Option Slots) (version : ℕ) (before : Slots) → IsNext table asked course held version before → (((i : ℕ) → ¬ (ending ≡ usage i)) → 1 ≤ asked.round) → ((after : Slots) → new ≡ Some after → TearsSo asked course before after) → Starts table resume ending asked held course
    → StoresIfKept ending asked course held new → GoesOn table course.bytes asked.budget new
resume_by table (done m) asked course held new version before n long so started stored = resumed_kept table asked course held new version before n started.0 stored
resume_by table (usage i) asked course held new version before n long so started stored = unchanged table asked course held new version before n stored
resume_by table (paused query blocks) asked course held new version before n long so started stored = resumed_kept table asked course held new version before n started.0 stored
resume_by table source_fault asked course held new version before n long so started stored = unchanged table asked course held new version before n stored
resume_by table sink_fault asked course held new version before n long so started stored = resumed_kept table asked course held new version before n started.0 stored
resume_by table (vault_fault told) asked course held new version before n long so started stored =
    ⊎_elim (λ (e : (course.told ≡ []) × FailsFirst asked.command held new). unchanged table asked course held new version before n (subst (λ (c : Command). FailsFirst c held new) n.resumes e.1))
    (λ (e : IsStarted asked.command asked held course × Fits asked course × ¬ (course.left ≡ []) × Tears asked course held new). resumed_torn table asked course held new version before n (subst (λ (c : Command). IsStarted c asked held course) n.resumes e.0) (long (λ i f. (let g = f in cc))) so e.3) stored
resume_by table (no_memory told) asked course held new version before n long so started stored =
    ⊎_elim (λ (e : (course.told ≡ []) × (new ≡ held)). unchanged table asked course held new version before n e.1)
    (λ (e : IsStarted asked.command asked held course × Keeps asked course held new). resumed_kept table asked course held new version before n (subst (λ (c : Command). IsStarted c asked held course) n.resumes e.0) e.1) stored
resume_by table no_checkpoint asked course held new version before n long so started stored = unchanged table asked course held new version before n stored
resume_by table damaged_checkpoint asked course held new version before n long so started stored = unchanged table asked course held new version before n stored
resume_by table (other_script script budget) asked course held new version before n long so started stored = unchanged table asked course held new version before n stored
resume_by table (rejected reason) asked course held new version before n long so started stored = unchanged table asked course held new version before n stored
resume_by table too_long asked course held new version before n long so started stored = unchanged table asked course held new version before n stored
resume_by table (unfit query told found) asked course held new version before n long so started stored = unchanged table asked course held new version before n stored

pub resume_goes_on : (table : List Call) (args : List (List ℕ)) (old new : Outside) (ending : Ending) (s : IsSession table args old new ending) (version : ℕ) (before : Slots) → s.asked.command ≡ resume → s.asked.keep ≡ true → old.vault ≡ Some before → version ≤ 2
    → Chain table s.course.bytes s.asked.budget version before → ((after : Slots) → new.vault ≡ Some after → TearsSo s.asked s.course before after) → GoesOn table s.course.bytes s.asked.budget new.vault
resume_goes_on table args old new ending s version before resumes keeps told known chain so =
    resume_by table ending s.asked s.course old.vault new.vault version before
    (record { resumes = resumes; told = told; known = known; chain = chain; met = subst (λ (c : Command). Meets table s.asked c s.course) resumes s.met; rounds = s.rounds; long = told_long table args old new ending s })
    (rounds_long table args old new ending s) so (subst (λ (c : Command). Starts table c ending s.asked old.vault s.course) resumes s.started) (kept_stores s.asked.keep ending s.asked s.course old.vault new.vault keeps s.stored)

-- the premises on a `run`, as its course has them
record IsFirst (table : List Call) (asked : Settings) (course : Course) (held : Option Slots) (before : Slots) : Type 0 where
  pub runs : asked.command ≡ run
  pub told : held ≡ Some before
  pub fresh : IsFresh course
  pub met : MeetsFirst table course.bytes course.needs
  pub rounds : (rounds_of asked course).steps ≡ course.told ++ course.left
  pub long : (course.told ≡ []) ⊎ (1 ≤ asked.round)

goes_first : (table : List Call) (asked : Settings) (course : Course) (held : Option Slots) (before : Slots) (told left : List SessionStep) → IsFirst table asked course held before → (rounds_of asked course).steps ≡ told ++ left → (told ≡ []) ⊎ (1 ≤ asked.round) → Goes 2 table course.bytes asked.budget course.needs fresh_start told
unfolding divisor_in
goes_first table asked course held before told left f rounds (inl none) = silently table course.bytes asked.budget course.needs fresh_start told f.met none
goes_first table asked course held before told left f rounds (inr long) = record {
  version_is = inr refl;
  met = f.met;
  longest = asked.round;
  long = long;
  slice = asked.slice;
  left = left;
  rounds = subst (λ (t : Start). (session_rounds divisor_of course.needs asked.budget asked.round asked.slice t).steps ≡ told ++ left) f.fresh.start rounds;
}

emptied_so : (asked : Settings) (course : Course) (before : Slots) → asked.command ≡ run → told_slots asked course before ≡ slots_after 2 (sha256 course.bytes) asked.budget course.turn course.told empty_slots
emptied_so asked course before is = ap (λ (c : Command). slots_after 2 (sha256 course.bytes) asked.budget course.turn course.told (begin_with c before)) is

first_leaves : (table : List Call) (asked : Settings) (course : Course) (held : Option Slots) (before after : Slots) → IsFirst table asked course held before → (told left : List SessionStep) → (rounds_of asked course).steps ≡ told ++ left → (told ≡ []) ⊎ (1 ≤ asked.round)
    → Leaves 2 (sha256 course.bytes) asked.budget course.turn told empty_slots after → Chain table course.bytes asked.budget 2 after
first_leaves table asked course held before after f told left rounds long leaves =
    Chain.begun 2 course.needs told after (goes_first table asked course held before told left f rounds long) (subst (λ (t : ℕ). Leaves 2 (sha256 course.bytes) asked.budget t told empty_slots after) f.fresh.turn leaves)

first_kept : (table : List Call) (asked : Settings) (course : Course) (held new : Option Slots) (before : Slots) → IsFirst table asked course held before → Keeps asked course held new → GoesOn table course.bytes asked.budget new
first_kept table asked course held new before f keeps =
    let k : Keeps asked course (Some before) new = subst (λ (h : Option Slots). Keeps asked course h new) f.told keeps in
    (k.0, k.1, (2, omega arith, first_leaves table asked course held before k.0 f course.told course.left f.rounds f.long (inl (k.2 ∙ emptied_so asked course before f.runs))))

first_torn : (table : List Call) (asked : Settings) (course : Course) (held new : Option Slots) (before : Slots) → IsFirst table asked course held before → 1 ≤ asked.round → ((after : Slots) → new ≡ Some after → TearsSo asked course before after) → Tears asked course held new → GoesOn table course.bytes asked.budget new
first_torn table asked course held new before f long so tears =
    let k : Tears asked course (Some before) new = subst (λ (h : Option Slots). Tears asked course h new) f.told tears in
    let l = torn_leaves asked course before k.0 k.2.0 f.rounds k.2.1 (so k.0 k.1 k.2.0 k.2.1) in
    (k.0, k.1, (2, omega arith, first_leaves table asked course held before k.0 f l.0 l.1 l.2 (inr long) (subst (λ (c : Command). Leaves 2 (sha256 course.bytes) asked.budget course.turn l.0 (begin_with c before) k.0) f.runs l.3)))

run_by : (table : List Call) (ending : Ending) (asked : Settings) (course : Course) (held new : Option Slots) (before : Slots) → IsFirst table asked course held before → HasBegun ending course → (((i : ℕ) → ¬ (ending ≡ usage i)) → 1 ≤ asked.round) → ((after : Slots) → new ≡ Some after → TearsSo asked course before after)
    → StoresIfKept ending asked course held new → GoesOn table course.bytes asked.budget new
run_by table (done m) asked course held new before f begun long so stored = first_kept table asked course held new before f stored
run_by table (usage i) asked course held new before f begun long so stored = absurd begun
run_by table (paused query blocks) asked course held new before f begun long so stored = first_kept table asked course held new before f stored
run_by table source_fault asked course held new before f begun long so stored = absurd begun
run_by table sink_fault asked course held new before f begun long so stored = first_kept table asked course held new before f stored
run_by table (vault_fault told) asked course held new before f begun long so stored =
    ⊎_elim (λ (e : (course.told ≡ []) × FailsFirst asked.command held new). absurd (begun e.0))
    (λ (e : IsStarted asked.command asked held course × Fits asked course × ¬ (course.left ≡ []) × Tears asked course held new). first_torn table asked course held new before f (long (λ i g. (let h = g in cc))) so e.3) stored
run_by table (no_memory told) asked course held new before f begun long so stored =
    ⊎_elim (λ (e : (course.told ≡ []) × (new ≡ held)). absurd (begun e.0)) (λ (e : IsStarted asked.command asked held course × Keeps asked course held new). first_kept table asked course held new before f e.1) stored
run_by table no_checkpoint asked course held new before f begun long so stored = absurd begun
run_by table damaged_checkpoint asked course held new before f begun long so stored = absurd begun
run_by table (other_script script budget) asked course held new before f begun long so stored = absurd begun
run_by table (rejected reason) asked course held new before f begun long so stored = absurd begun
run_by table too_long asked course held new before f begun long so stored = absurd begun
run_by table (unfit query told found) asked course held new before f begun long so stored = absurd begun

pub run_begins : (table : List Call) (args : List (List ℕ)) (old new : Outside) (ending : Ending) (s : IsSession table args old new ending) (before : Slots) → s.asked.command ≡ run → s.asked.keep ≡ true → old.vault ≡ Some before
    → HasBegun ending s.course → ((after : Slots) → new.vault ≡ Some after → TearsSo s.asked s.course before after) → GoesOn table s.course.bytes s.asked.budget new.vault
run_begins table args old new ending s before runs keeps told begun so =
    run_by table ending s.asked s.course old.vault new.vault before
    (record { runs = runs; told = told; fresh = subst (λ (c : Command). Starts table c ending s.asked old.vault s.course) runs s.started; met = subst (λ (c : Command). Meets table s.asked c s.course) runs s.met; rounds = s.rounds; long = told_long table args old new ending s })
    begun (rounds_long table args old new ending s) so (kept_stores s.asked.keep ending s.asked s.course old.vault new.vault keeps s.stored)
