-- Sessions store true checkpoints.
--   run_steps, resume_steps      the steps of a session that starts truly have true checkpoints
--   true_last            the checkpoint of one of them
--   steps_same           a slot that they are stored in is empty or true
--   next_truly           the steps told, and the next one, have true checkpoints
--   IsGrounded           what is asked of the script: nothing, as long as no record is told
--   stores_truly         the slots after a session
--   stores_afresh        those after a session of `run` that emptied them
--   same_stores          those of a session that stored nothing
--   tells_early          its turns are below 2^58
--   taken_truly          over true slots `resume` takes a true checkpoint
--   grounded_stay, true_slots_stay      true slots stay true
use Rattle.std.proofs.Common.{◌≡◌, ◌≤◌, ◌<◌, ◌^◌, ◌⊎◌, ⊎_elim, inl, inr, ℕ, true, List, [], ◌∷◌, ◌++◌, refl, sym, subst, ◌∙◌, arith}
use Rattle.std.specs.Prelude.{Bool, false, Option, Some, None, IsTrue}
use Rattle.sha2.specs.Sha256.{sha256}
use Rattle.lc_algebra.specs.Matrix.{Matrix}
use Rattle.lc_algebra.specs.Divisor.{divisor_of}
use Rattle.lc_enumeration.specs.Records.{Start, fresh_start, SessionStep, session_rounds}
use Rattle.lc_formats.specs.Checkpoint.{Checkpoint, checkpoint_in}
use Rattle.lc_formats.proofs.Evaluated.{checkpoint_computes}
use Rattle.lc_formats.specs.Truth.{divisor_in, IsTrueFor, start_of}
use Rattle.lc_io.specs.declared.vault.Slot.{Slot}
use Rattle.lc_io.specs.declared.vault.Slot.TheVariants.{Zero, One}
use Rattle.lc_io.specs.Outside.{HasRisen}
use Rattle.lc_io.specs.Vaults.{Slots, empty_slots, in_slot, other, put, WhereTold}
use Rattle.lc_io.proofs.SlotLaws.{WhereTold-map, WhereTold-refl}
use Rattle.lc_language.specs.declared.Call.{Call}
use Rattle.lc_session_rules.specs.Options.{Command, run, resume, check, summary, Settings}
use Rattle.lc_session_rules.specs.Needs.{MeetsFirst}
use Rattle.lc_session_rules.specs.Slots.{slot_of, next_turn, turn_after, point_of, stored_bytes, slots_after, takes, start_in, IsTrueCheckpoint, IsTornOr, IsEmptyOrTrue, AreTrueSlots}
use Rattle.lc_session_rules.specs.Endings.{Ending, done, usage, paused, source_fault, sink_fault, vault_fault, no_memory, no_checkpoint, damaged_checkpoint, other_script, rejected, too_long, unfit}
use Rattle.lc_session_rules.specs.Session.{Outside, Course, rounds_of, Finds, GoesOnFrom, IsResumed, IsFresh, Starts, Meets, Ends, begin_with, told_slots, Keeps, Tears, AreHalfEmptied, FailsFirst, IsStarted, StoresIfKept, Stores, Counts, keeps, IsSession}
use Rattle.lc_session_rules.specs.Promises.{StartsTruly, IsSameOrTrue, next_slot, StoresTruly, StoresAfresh, FailsSo}
use Rattle.lc_session_rules.specs.Chain.{IsLeft, IsGround, HasBegun}
use Rattle.lc_session_rules.proofs.TrueSteps.{AreTrueSteps, true_front}
use Rattle.lc_session_rules.proofs.GroundLaws.{true_turn}
use Rattle.lc_session_rules.proofs.ChainLaws.{begun_truly, resumed_start}
use Rattle.lc_session_rules.proofs.SessionChains.{chosen_is, one_more, next_stored, kept_stores}
use Rattle.lc_session_rules.proofs.HonestLaws.{chosen_true}
use Rattle.lc_session_rules.proofs.OptionLaws.{told_long, rounds_long}

-- ---- the steps told

run_steps : (table : List Call) (asked : Settings) (course : Course) (told left : List SessionStep) → 1 ≤ asked.round → IsGround table course.bytes asked.budget → IsFresh course → MeetsFirst table course.bytes course.needs → (rounds_of asked course).steps ≡ told ++ left
    → AreTrueSteps 2 course.needs (sha256 course.bytes) asked.budget course.turn told
unfolding divisor_in
run_steps table asked course told left long ground fresh met rounds =
    let d = sha256 course.bytes in
    let over = λ (t : Start). (session_rounds divisor_of course.needs asked.budget asked.round asked.slice t).steps in
    let all : AreTrueSteps 2 course.needs d asked.budget 0 (over fresh_start) = begun_truly table course.bytes asked.budget asked.round 2 course.needs long ground (inr refl) met asked.slice in
    let mine : over fresh_start ≡ told ++ left = subst (λ (t : Start). over t ≡ told ++ left) fresh.start rounds in
    subst (λ (t : ℕ). AreTrueSteps 2 course.needs d asked.budget t told) (sym fresh.turn) (true_front 2 course.needs d asked.budget 0 told left (subst (AreTrueSteps 2 course.needs d asked.budget 0) mine all))

at_most_two : (version : ℕ) → (version ≡ 1) ⊎ (version ≡ 2) → version ≤ 2
at_most_two version (inl e) = omega (arith, e)
at_most_two version (inr e) = omega (arith, e)

resume_steps : (table : List Call) (asked : Settings) (held : Option Slots) (course : Course) (p : Checkpoint) (told left : List SessionStep) → 1 ≤ asked.round → IsGround table course.bytes asked.budget → GoesOnFrom asked held course p → IsTrueCheckpoint table course.bytes asked.budget p → MeetsFirst table course.bytes course.needs → (rounds_of asked course).steps ≡ told ++ left
    → AreTrueSteps 2 course.needs (sha256 course.bytes) asked.budget course.turn told
unfolding divisor_in start_in start_of
resume_steps table asked held course p told left long ground from (front, met_front, holds) met rounds =
    let d = sha256 course.bytes in
    let over = λ (t : Start). (session_rounds divisor_of course.needs asked.budget asked.round asked.slice t).steps in
    let all : AreTrueSteps 2 course.needs d asked.budget (next_turn p.turn) (over (start_of course.needs p)) =
    resumed_start table course.bytes asked.budget asked.round 2 course.needs front p long ground (inr refl) holds.known (at_most_two p.version holds.known) met met_front holds asked.slice in
    let mine : over (start_of course.needs p) ≡ told ++ left = subst (λ (t : Start). over t ≡ told ++ left) from.start rounds in
    subst (λ (t : ℕ). AreTrueSteps 2 course.needs d asked.budget t told) (sym from.turn) (true_front 2 course.needs d asked.budget (next_turn p.turn) told left (subst (AreTrueSteps 2 course.needs d asked.budget (next_turn p.turn)) mine all))

true_last : (version : ℕ) (needs : List Matrix) (digest : List ℕ) (budget turn : ℕ) (before : List SessionStep) (s : SessionStep) → AreTrueSteps version needs digest budget turn (before ++ s ∷ []) → IsTrueFor needs digest budget (point_of version digest budget (turn_after turn before) s)
true_last version needs digest budget turn [] s h = h.0
true_last version needs digest budget turn (r ∷ before) s h = true_last version needs digest budget (next_turn turn) before s h.1

-- a session of `resume` took a checkpoint, or told nothing
resumed_or_silent : (table : List Call) (ending : Ending) (asked : Settings) (held : Option Slots) (course : Course) → Starts table resume ending asked held course → Ends ending asked course → (course.told ≡ []) ⊎ IsResumed asked held course
resumed_or_silent table (done n) asked held course h e = inr h.0
resumed_or_silent table (usage i) asked held course h e = inl e
resumed_or_silent table (paused query blocks) asked held course h e = inr h.0
resumed_or_silent table source_fault asked held course h e = inl e
resumed_or_silent table sink_fault asked held course h e = inr h.0
resumed_or_silent table (vault_fault told) asked held course (inl e) ended = inl e
resumed_or_silent table (vault_fault told) asked held course (inr h) ended = inr h.0
resumed_or_silent table (no_memory told) asked held course (inl e) ended = inl e
resumed_or_silent table (no_memory told) asked held course (inr h) ended = inr h.0
resumed_or_silent table no_checkpoint asked held course h e = inl e
resumed_or_silent table damaged_checkpoint asked held course h e = inl e
resumed_or_silent table (other_script script budget) asked held course h e = inl e
resumed_or_silent table (rejected reason) asked held course h e = absurd h
resumed_or_silent table too_long asked held course h e = inl e
resumed_or_silent table (unfit query told found) asked held course h e = inl e

-- what is asked of the script: nothing, as long as no record is told
abbrev pub IsGrounded : List Call → Settings → Course → Type 0
IsGrounded table asked course = (course.told ≡ []) ⊎ IsGround table course.bytes asked.budget

-- the needs are met, and these first steps have true checkpoints
record DoesTruly (table : List Call) (asked : Settings) (course : Course) (told : List SessionStep) : Type 0 where
  ground : IsGround table course.bytes asked.budget
  met : MeetsFirst table course.bytes course.needs
  steps : AreTrueSteps 2 course.needs (sha256 course.bytes) asked.budget course.turn told

does_truly : (table : List Call) (ending : Ending) (asked : Settings) (held : Option Slots) (course : Course) (c : Command) → StartsTruly table c asked held course → Starts table c ending asked held course → Meets table asked c course → Ends ending asked course → (rounds_of asked course).steps ≡ course.told ++ course.left
    → (course.told ≡ []) ⊎ (1 ≤ asked.round) → IsGrounded table asked course → (course.told ≡ []) ⊎ DoesTruly table asked course course.told
does_truly table ending asked held course c truly started met ended rounds (inl e) ground = inl e
does_truly table ending asked held course c truly started met ended rounds (inr long) (inl e) = inl e
does_truly table ending asked held course run truly started met ended rounds (inr long) (inr ground) = inr (record { ground = ground; met = met; steps = run_steps table asked course course.told course.left long ground started met rounds })
does_truly table ending asked held course resume truly started met ended rounds (inr long) (inr ground) =
    ⊎_elim (λ (e : course.told ≡ []). inl e)
    (λ (r : IsResumed asked held course). inr (record { ground = ground; met = met; steps = resume_steps table asked held course r.0 course.told course.left long ground r.1 (truly r.0 r.1) met rounds }))
    (resumed_or_silent table ending asked held course started ended)
does_truly table ending asked held course check truly started met ended rounds (inr long) (inr ground) = absurd truly
does_truly table ending asked held course summary truly started met ended rounds (inr long) (inr ground) = absurd truly

-- so do the steps told and the next one, of a session that has started
next_truly : (table : List Call) (ending : Ending) (asked : Settings) (held : Option Slots) (course : Course) (c : Command) → StartsTruly table c asked held course → Starts table c ending asked held course → IsStarted c asked held course → Meets table asked c course → (rounds_of asked course).steps ≡ course.told ++ course.left
    → 1 ≤ asked.round → IsGround table course.bytes asked.budget → (s : SessionStep) (rest : List SessionStep) → course.left ≡ s ∷ rest → DoesTruly table asked course (course.told ++ s ∷ [])
next_truly table ending asked held course run truly starts started met rounds long ground s rest is =
    record { ground = ground; met = met; steps = run_steps table asked course (course.told ++ s ∷ []) rest long ground starts met (one_more (rounds_of asked course).steps course.told course.left s rest rounds is) }
next_truly table ending asked held course resume truly starts started met rounds long ground s rest is = record {
  ground = ground;
  met = met;
  steps = resume_steps table asked held course started.0 (course.told ++ s ∷ []) rest long ground started.1 (truly started.0 started.1) met (one_more (rounds_of asked course).steps course.told course.left s rest rounds is);
}
next_truly table ending asked held course check truly starts started met rounds long ground s rest is = absurd truly
next_truly table ending asked held course summary truly starts started met rounds long ground s rest is = absurd truly

-- ---- the slots

module _ (table : List Call) (bytes : List ℕ) (budget : ℕ) where
  abbrev pub AreSameOrTrue : Slots → Slots → Type 0
  AreSameOrTrue before after = (slot : Slot) → IsSameOrTrue slot table bytes budget before after

  put_same : (at : Slot) (held : List ℕ) (before mid : Slots) → AreSameOrTrue before mid → IsEmptyOrTrue at table bytes budget held → AreSameOrTrue before (put at held mid)
  put_same Zero held before mid all one Zero = inr one
  put_same Zero held before mid all one One = all One
  put_same One held before mid all one Zero = all Zero
  put_same One held before mid all one One = inr one

  step_true : (needs : List Matrix) (turn : ℕ) (s : SessionStep) → IsGround table bytes budget → MeetsFirst table bytes needs → IsTrueFor needs (sha256 bytes) budget (point_of 2 (sha256 bytes) budget turn s) → IsEmptyOrTrue (slot_of turn) table bytes budget (stored_bytes 2 (sha256 bytes) budget turn s)
  unfolding point_of stored_bytes
  step_true needs turn s ground met holds =
      inr (point_of 2 (sha256 bytes) budget turn s, ground.reads_back (point_of 2 (sha256 bytes) budget turn s) (inr refl) (needs, met, holds), (needs, met, holds), refl)

  steps_same : (needs : List Matrix) → IsGround table bytes budget → MeetsFirst table bytes needs → (steps : List SessionStep) (turn : ℕ) (before mid : Slots) → AreSameOrTrue before mid → AreTrueSteps 2 needs (sha256 bytes) budget turn steps → AreSameOrTrue before (slots_after 2 (sha256 bytes) budget turn steps mid)
  steps_same needs ground met [] turn before mid all steps = all
  steps_same needs ground met (s ∷ rest) turn before mid all steps =
      steps_same needs ground met rest (next_turn turn) before (put (slot_of turn) (stored_bytes 2 (sha256 bytes) budget turn s) mid)
      (put_same (slot_of turn) (stored_bytes 2 (sha256 bytes) budget turn s) before mid all (step_true needs turn s ground met steps.0)) steps.1

  same_slots : (before : Slots) → AreSameOrTrue before before
  same_slots before slot = inl refl

  begin_same : (c : Command) (before : Slots) → AreSameOrTrue before (begin_with c before)
  begin_same run before Zero = inr (inl refl)
  begin_same run before One = inr (inl refl)
  begin_same resume before slot = inl refl
  begin_same check before slot = inl refl
  begin_same summary before slot = inl refl

  beside : (at : Slot) (held : List ℕ) (before mid after : Slots) → AreSameOrTrue before mid → after ≡ put at held mid → IsSameOrTrue (other at) table bytes budget before after
  beside at held before mid after all is = subst (IsSameOrTrue (other at) table bytes budget before) (sym is) (by at)
    where
      by : (at : Slot) → IsSameOrTrue (other at) table bytes budget before (put at held mid)
      by Zero = all One
      by One = all Zero

-- the slots once the checkpoints of these first steps were stored
begun_same : (table : List Call) (asked : Settings) (course : Course) (told : List SessionStep) → DoesTruly table asked course told → (before : Slots) → AreSameOrTrue table course.bytes asked.budget before (slots_after 2 (sha256 course.bytes) asked.budget course.turn told (begin_with asked.command before))
begun_same table asked course told h before =
    steps_same table course.bytes asked.budget course.needs h.ground h.met told course.turn before (begin_with asked.command before) (begin_same table course.bytes asked.budget asked.command before) h.steps

-- and of the records told
told_same : (table : List Call) (asked : Settings) (course : Course) → (course.told ≡ []) ⊎ DoesTruly table asked course course.told → (before : Slots) → AreSameOrTrue table course.bytes asked.budget before (told_slots asked course before)
told_same table asked course (inl e) before =
    subst (λ (l : List SessionStep). AreSameOrTrue table course.bytes asked.budget before (slots_after 2 (sha256 course.bytes) asked.budget course.turn l (begin_with asked.command before))) (sym e)
    (begin_same table course.bytes asked.budget asked.command before)
told_same table asked course (inr h) before = begun_same table asked course course.told h before

-- what a session did with its slots
data Did (ending : Ending) (asked : Settings) (course : Course) (old new : Outside) : Type 0 where
  nothing : new.vault ≡ old.vault → Did ending asked course old new
  stored : Keeps asked course old.vault new.vault → Did ending asked course old new
  failed : (told : ℕ) → ending ≡ vault_fault told → HasRisen old.vault_faults new.vault_faults → course.told ≡ [] → FailsFirst asked.command old.vault new.vault → Did ending asked course old new
  tore : (told : ℕ) → ending ≡ vault_fault told → HasRisen old.vault_faults new.vault_faults → IsStarted asked.command asked old.vault course → Tears asked course old.vault new.vault → Did ending asked course old new

did_so : (ending : Ending) (asked : Settings) (course : Course) (old new : Outside) → StoresIfKept ending asked course old.vault new.vault → Counts ending old new → Did ending asked course old new
did_so (done n) asked course old new h c = Did.stored h
did_so (usage i) asked course old new h c = Did.nothing h
did_so (paused query blocks) asked course old new h c = Did.stored h
did_so source_fault asked course old new h c = Did.nothing h
did_so sink_fault asked course old new h c = Did.stored h
did_so (vault_fault told) asked course old new (inl h) c = Did.failed told refl c.2 h.0 h.1
did_so (vault_fault told) asked course old new (inr h) c = Did.tore told refl c.2 h.0 h.3
did_so (no_memory told) asked course old new (inl h) c = Did.nothing h.1
did_so (no_memory told) asked course old new (inr h) c = Did.stored h.1
did_so no_checkpoint asked course old new h c = Did.nothing h
did_so damaged_checkpoint asked course old new h c = Did.nothing h
did_so (other_script script budget) asked course old new h c = Did.nothing h
did_so (rejected reason) asked course old new h c = Did.nothing h
did_so too_long asked course old new h c = Did.nothing h
did_so (unfit query told found) asked course old new h c = Did.nothing h

module _ (table : List Call) (asked : Settings) (course : Course) (old new : Outside) where
  -- what `StoresTruly` says of the slots before and after
  abbrev IsLeftSo : Slots → Slots → Type 0
  IsLeftSo before after =
      ((slot : Slot) → IsSameOrTrue slot table course.bytes asked.budget before after)
      ⊎ (HasRisen old.vault_faults new.vault_faults × (IsSameOrTrue (other (next_slot course)) table course.bytes asked.budget before after ⊎ ((asked.command ≡ run) × (course.told ≡ []) × AreHalfEmptied before after)))

  pub same_stores : new.vault ≡ old.vault → StoresTruly table asked course old new
  same_stores same = subst (λ (v : Option Slots). WhereTold old.vault v (λ before after. IsLeftSo before after)) (sym same) (WhereTold-refl old.vault _ (λ a. inl (same_slots table course.bytes asked.budget a)))

  fails_same : (c : Command) → asked.command ≡ c → course.told ≡ [] → HasRisen old.vault_faults new.vault_faults → FailsFirst c old.vault new.vault → StoresTruly table asked course old new
  fails_same run is silent risen h = WhereTold-map old.vault new.vault _ _ (λ before after half. inr (risen, inr (is, silent, half))) h
  fails_same resume is silent risen h = same_stores h
  fails_same check is silent risen h = absurd h
  fails_same summary is silent risen h = absurd h

  stores_so : (ending : Ending) → (course.told ≡ []) ⊎ DoesTruly table asked course course.told → Did ending asked course old new → StoresTruly table asked course old new
  stores_so ending truly (Did.nothing same) = same_stores same
  stores_so ending truly (Did.stored h) =
      WhereTold-map old.vault new.vault _ _ (λ before after is. inl (subst (AreSameOrTrue table course.bytes asked.budget before) (sym is) (told_same table asked course truly before))) h
  stores_so ending truly (Did.failed told ends risen silent h) = fails_same asked.command refl silent risen h
  stores_so ending truly (Did.tore told ends risen started h) =
      WhereTold-map old.vault new.vault _ _ (λ before after is. inr (risen, inl (beside table course.bytes asked.budget (next_slot course) is.0 before (told_slots asked course before) after (told_same table asked course truly before) is.1))) h

-- ---- the slots after a session of `run` that emptied them

told_afresh : (table : List Call) (asked : Settings) (course : Course) → (course.told ≡ []) ⊎ DoesTruly table asked course course.told → asked.command ≡ run → (before : Slots) → AreSameOrTrue table course.bytes asked.budget empty_slots (told_slots asked course before)
told_afresh table asked course truly runs before =
    subst (λ (c : Command). AreSameOrTrue table course.bytes asked.budget empty_slots (slots_after 2 (sha256 course.bytes) asked.budget course.turn course.told (begin_with c before))) (sym runs) (by truly)
  where
    by : (course.told ≡ []) ⊎ DoesTruly table asked course course.told → AreSameOrTrue table course.bytes asked.budget empty_slots (slots_after 2 (sha256 course.bytes) asked.budget course.turn course.told empty_slots)
    by (inl e) = subst (λ (l : List SessionStep). AreSameOrTrue table course.bytes asked.budget empty_slots (slots_after 2 (sha256 course.bytes) asked.budget course.turn l empty_slots)) (sym e) (same_slots table course.bytes asked.budget empty_slots)
    by (inr h) = steps_same table course.bytes asked.budget course.needs h.ground h.met course.told course.turn empty_slots empty_slots (same_slots table course.bytes asked.budget empty_slots) h.steps

empty_or_true : (slot : Slot) (table : List Call) (bytes : List ℕ) (budget : ℕ) (after : Slots) → IsSameOrTrue slot table bytes budget empty_slots after → IsEmptyOrTrue slot table bytes budget (in_slot slot after)
empty_or_true Zero table bytes budget after (inl e) = inl e
empty_or_true Zero table bytes budget after (inr h) = h
empty_or_true One table bytes budget after (inl e) = inl e
empty_or_true One table bytes budget after (inr h) = h

module _ (table : List Call) (asked : Settings) (course : Course) (old new : Outside) (truly : (course.told ≡ []) ⊎ DoesTruly table asked course course.told) (runs : asked.command ≡ run) where
  kept_afresh : Keeps asked course old.vault new.vault → StoresAfresh table asked course old new
  kept_afresh h = WhereTold-map old.vault new.vault _ _ (λ before after is. inl (λ slot.
      empty_or_true slot table course.bytes asked.budget after (subst (AreSameOrTrue table course.bytes asked.budget empty_slots) (sym is) (told_afresh table asked course truly runs before) slot))) h

  torn_afresh : HasRisen old.vault_faults new.vault_faults → Tears asked course old.vault new.vault → StoresAfresh table asked course old new
  torn_afresh risen h =
      let at = next_slot course in
      WhereTold-map old.vault new.vault _ _ (λ before after is. inr (
        risen,
        empty_or_true (other at) table course.bytes asked.budget after
            (beside table course.bytes asked.budget at is.0 empty_slots (told_slots asked course before) after (told_afresh table asked course truly runs before) is.1),
      )) h

  afresh_so : (ending : Ending) → HasBegun ending course → StoresIfKept ending asked course old.vault new.vault → Counts ending old new → StoresAfresh table asked course old new
  afresh_so (done n) begun h c = kept_afresh h
  afresh_so (usage i) begun h c = absurd begun
  afresh_so (paused query blocks) begun h c = kept_afresh h
  afresh_so source_fault begun h c = absurd begun
  afresh_so sink_fault begun h c = kept_afresh h
  afresh_so (vault_fault told) begun (inl h) c = absurd (begun h.0)
  afresh_so (vault_fault told) begun (inr h) c = torn_afresh c.2 h.3
  afresh_so (no_memory told) begun (inl h) c = absurd (begun h.0)
  afresh_so (no_memory told) begun (inr h) c = kept_afresh h.1
  afresh_so no_checkpoint begun h c = absurd begun
  afresh_so damaged_checkpoint begun h c = absurd begun
  afresh_so (other_script script budget) begun h c = absurd begun
  afresh_so (rejected reason) begun h c = absurd begun
  afresh_so too_long begun h c = absurd begun
  afresh_so (unfit query told found) begun h c = absurd begun

-- ---- sessions

truly_so : (table : List Call) (args : List (List ℕ)) (old new : Outside) (ending : Ending) (s : IsSession table args old new ending) → IsGrounded table s.asked s.course → StartsTruly table s.asked.command s.asked old.vault s.course → (s.course.told ≡ []) ⊎ DoesTruly table s.asked s.course s.course.told
truly_so table args old new ending s ground truly = does_truly table ending s.asked old.vault s.course s.asked.command truly s.started s.met s.ended s.rounds (told_long table args old new ending s) ground

pub grounded_stores : (table : List Call) (args : List (List ℕ)) (old new : Outside) (ending : Ending) (s : IsSession table args old new ending) → IsGrounded table s.asked s.course → StartsTruly table s.asked.command s.asked old.vault s.course → s.asked.keep ≡ true → StoresTruly table s.asked s.course old new
grounded_stores table args old new ending s ground truly keeps =
    stores_so table s.asked s.course old new ending (truly_so table args old new ending s ground truly) (did_so ending s.asked s.course old new (kept_stores s.asked.keep ending s.asked s.course old.vault new.vault keeps s.stored) s.counted)

pub grounded_afresh : (table : List Call) (args : List (List ℕ)) (old new : Outside) (ending : Ending) (s : IsSession table args old new ending) → IsGrounded table s.asked s.course → s.asked.command ≡ run → s.asked.keep ≡ true → HasBegun ending s.course → StoresAfresh table s.asked s.course old new
grounded_afresh table args old new ending s ground runs keeps begun =
    let truly : StartsTruly table s.asked.command s.asked old.vault s.course = subst (λ (c : Command). StartsTruly table c s.asked old.vault s.course) (sym runs) tt in
    afresh_so table s.asked s.course old new (truly_so table args old new ending s ground truly) runs ending begun (kept_stores s.asked.keep ending s.asked s.course old.vault new.vault keeps s.stored) s.counted

some_told : (before : List SessionStep) (s : SessionStep) → before ++ s ∷ [] ≡ [] → ⊥
some_told [] s e = (let f = e in cc)
some_told (r ∷ before) s e = (let f = e in cc)

early_so : (table : List Call) (asked : Settings) (course : Course) (before : List SessionStep) (last : SessionStep) → course.told ≡ before ++ last ∷ [] → DoesTruly table asked course course.told → turn_after course.turn before < 2 ^ 58
unfolding point_of
early_so table asked course before last told h =
    let d = sha256 course.bytes in
    let t = turn_after course.turn before in
    let holds = true_last 2 course.needs d asked.budget course.turn before last (subst (AreTrueSteps 2 course.needs d asked.budget course.turn) told h.steps) in
    true_turn table course.bytes asked.budget h.ground (point_of 2 d asked.budget t last) (course.needs, h.met, holds)

pub grounded_early : (table : List Call) (args : List (List ℕ)) (old new : Outside) (ending : Ending) (s : IsSession table args old new ending) → IsGrounded table s.asked s.course → StartsTruly table s.asked.command s.asked old.vault s.course
    → (before : List SessionStep) (last : SessionStep) → s.course.told ≡ before ++ last ∷ [] → turn_after s.course.turn before < 2 ^ 58
grounded_early table args old new ending s ground truly before last told =
    ⊎_elim (λ (e : s.course.told ≡ []). absurd (some_told before last (sym told ∙ e))) (λ (h : DoesTruly table s.asked s.course s.course.told). early_so table s.asked s.course before last told h) (truly_so table args old new ending s ground truly)

pub stores_truly : (table : List Call) (args : List (List ℕ)) (old new : Outside) (ending : Ending) (s : IsSession table args old new ending) → IsGround table s.course.bytes s.asked.budget → StartsTruly table s.asked.command s.asked old.vault s.course → s.asked.keep ≡ true → StoresTruly table s.asked s.course old new
stores_truly table args old new ending s ground truly keeps = grounded_stores table args old new ending s (inr ground) truly keeps

pub stores_afresh : (table : List Call) (args : List (List ℕ)) (old new : Outside) (ending : Ending) (s : IsSession table args old new ending) → IsGround table s.course.bytes s.asked.budget → s.asked.command ≡ run → s.asked.keep ≡ true → HasBegun ending s.course → StoresAfresh table s.asked s.course old new
stores_afresh table args old new ending s ground runs keeps begun = grounded_afresh table args old new ending s (inr ground) runs keeps begun

pub tells_early : (table : List Call) (args : List (List ℕ)) (old new : Outside) (ending : Ending) (s : IsSession table args old new ending) → IsGround table s.course.bytes s.asked.budget → StartsTruly table s.asked.command s.asked old.vault s.course
    → (before : List SessionStep) (last : SessionStep) → s.course.told ≡ before ++ last ∷ [] → turn_after s.course.turn before < 2 ^ 58
tells_early table args old new ending s ground truly before last told = grounded_early table args old new ending s (inr ground) truly before last told

pub taken_truly : (table : List Call) (asked : Settings) (held : Option Slots) (course : Course) (slots : Slots) → held ≡ Some slots → AreTrueSlots table course.bytes asked.budget slots → StartsTruly table resume asked held course
taken_truly table asked held course slots told both p from =
    let found : Finds (Some slots) (takes p) = subst (λ (h : Option Slots). Finds h (takes p)) told from.found in
    chosen_true table course.bytes asked.budget slots p both (chosen_is slots p found)

-- ---- true slots stay true

unread : (table : List Call) (bytes : List ℕ) (budget : ℕ) (slot : Slot) → IsTornOr slot table bytes budget (checkpoint_in [])
unfolding checkpoint_computes checkpoint_in
unread table bytes budget slot = tt

torn_slot : (table : List Call) (bytes : List ℕ) (budget : ℕ) (slot : Slot) (before held : List ℕ) → IsTornOr slot table bytes budget (checkpoint_in before) → IsLeft before held → IsTornOr slot table bytes budget (checkpoint_in held)
torn_slot table bytes budget slot before held is (inl e) = subst (λ (l : List ℕ). IsTornOr slot table bytes budget (checkpoint_in l)) (sym e) is
torn_slot table bytes budget slot before held is (inr (r, e)) = rw e tt

-- each of the two slots
abbrev AreTrue : List Call → List ℕ → ℕ → Slots → Type 0
AreTrue table bytes budget slots = (slot : Slot) → IsTornOr slot table bytes budget (checkpoint_in (in_slot slot slots))

each : (table : List Call) (bytes : List ℕ) (budget : ℕ) (slots : Slots) → AreTrueSlots table bytes budget slots → AreTrue table bytes budget slots
each table bytes budget slots both Zero = both.0
each table bytes budget slots both One = both.1

module _ (table : List Call) (bytes : List ℕ) (budget : ℕ) where
  stored_true : (slot : Slot) (held : List ℕ) → IsEmptyOrTrue slot table bytes budget held → IsTornOr slot table bytes budget (checkpoint_in held)
  stored_true slot held (inl e) = rw e (unread table bytes budget slot)
  stored_true slot held (inr (p, reads, holds, at)) = rw reads (holds, at)

  slot_true : (slot : Slot) (before after : Slots) → AreTrue table bytes budget before → IsSameOrTrue slot table bytes budget before after → IsTornOr slot table bytes budget (checkpoint_in (in_slot slot after))
  slot_true slot before after all (inl e) = rw e (all slot)
  slot_true slot before after all (inr h) = stored_true slot (in_slot slot after) h

  -- true slots, one of which a store that failed left as it may
  put_true : (at : Slot) (held : List ℕ) (mid after : Slots) → AreTrue table bytes budget mid → after ≡ put at held mid → IsLeft (in_slot at mid) held → AreTrueSlots table bytes budget after
  put_true Zero held mid after all is left = rw is (torn_slot table bytes budget Zero mid.zero_slot held (all Zero) left, all One)
  put_true One held mid after all is left = rw is (all Zero, torn_slot table bytes budget One mid.one_slot held (all One) left)

  emptied_true : AreTrue table bytes budget empty_slots
  emptied_true Zero = unread table bytes budget Zero
  emptied_true One = unread table bytes budget One

  half_true : (before after : Slots) (held : List ℕ) → AreTrue table bytes budget before → ((after ≡ put Zero held before) × IsLeft before.zero_slot held) ⊎ ((after ≡ put One held empty_slots) × IsLeft before.one_slot held) → AreTrueSlots table bytes budget after
  half_true before after held all (inl e) = put_true Zero held before after all e.0 e.1
  half_true before after held all (inr e) = rw e.0 (unread table bytes budget Zero, torn_slot table bytes budget One before.one_slot held (all One) e.1)

  same_true : (before after : Slots) → AreTrue table bytes budget before → AreSameOrTrue table bytes budget before after → AreTrueSlots table bytes budget after
  same_true before after all same = (slot_true Zero before after all (same Zero), slot_true One before after all (same One))

was_told : (old new : Option Slots) (before after : Slots) (P : Slots → Slots → Type 0) → old ≡ Some before → new ≡ Some after → WhereTold old new P → P before after
was_told None new before after P is now h = absurd (let e = is in cc)
was_told (Some held) new before after P is now (left, told, h) =
    let same : held ≡ before = (let e = is in cc) in
    let then_ : left ≡ after = (let e = sym told ∙ now in cc) in
    subst (λ (b : Slots). P b after) same (subst (λ (a : Slots). P held a) then_ h)

module _ (table : List Call) (ending : Ending) (asked : Settings) (course : Course) (old new : Outside) (before after : Slots) (is : old.vault ≡ Some before) (now : new.vault ≡ Some after) (all : AreTrue table course.bytes asked.budget before) where
  unmoved : new.vault ≡ old.vault → AreTrueSlots table course.bytes asked.budget after
  unmoved e = let same : before ≡ after = (let f = sym is ∙ sym e ∙ now in cc) in subst (AreTrueSlots table course.bytes asked.budget) same (all Zero, all One)

  -- what is known of the steps told and the next one, if the searches have started
  abbrev IsNextTrue : Type 0
  IsNextTrue = (told : ℕ) → ending ≡ vault_fault told → IsStarted asked.command asked old.vault course → (s : SessionStep) (rest : List SessionStep) → course.left ≡ s ∷ rest → DoesTruly table asked course (course.told ++ s ∷ [])

  fails_true : (course.told ≡ []) ⊎ DoesTruly table asked course course.told → ((s : SessionStep) (rest : List SessionStep) → course.left ≡ s ∷ rest → DoesTruly table asked course (course.told ++ s ∷ [])) → FailsSo asked course before after → AreTrueSlots table course.bytes asked.budget after
  fails_true truly next (inl (held, is, inl left)) =
      let mid = same_true table course.bytes asked.budget before (told_slots asked course before) all (told_same table asked course truly before) in
      put_true table course.bytes asked.budget (next_slot course) held (told_slots asked course before) after (each table course.bytes asked.budget (told_slots asked course before) mid) is left
  fails_true truly next (inl (held, is, inr (s, rest, first, given))) =
      same_true table course.bytes asked.budget before after all
      (subst (AreSameOrTrue table course.bytes asked.budget before) (sym (next_stored asked course before after held s is given)) (begun_same table asked course (course.told ++ s ∷ []) (next s rest first) before))
  fails_true truly next (inr (runs, silent, (held, half))) = half_true table course.bytes asked.budget before after held all half

  failed_true : (course.told ≡ []) ⊎ DoesTruly table asked course course.told → IsNextTrue → (c : Command) → asked.command ≡ c → (told : ℕ) → ending ≡ vault_fault told → FailsFirst c old.vault new.vault → FailsSo asked course before after → AreTrueSlots table course.bytes asked.budget after
  failed_true truly next run runs told ends h so = fails_true truly (next told ends (subst (λ (c : Command). IsStarted c asked old.vault course) (sym runs) tt)) so
  failed_true truly next resume resumes told ends h so = unmoved h
  failed_true truly next check checks told ends h so = absurd h
  failed_true truly next summary sums told ends h so = absurd h

  did_true : (course.told ≡ []) ⊎ DoesTruly table asked course course.told → IsNextTrue → Did ending asked course old new → (HasRisen old.vault_faults new.vault_faults → FailsSo asked course before after) → AreTrueSlots table course.bytes asked.budget after
  did_true truly next (Did.nothing e) so = unmoved e
  did_true truly next (Did.stored h) so =
      let stored : after ≡ told_slots asked course before = was_told old.vault new.vault before after (λ b a. a ≡ told_slots asked course b) is now h in
      same_true table course.bytes asked.budget before after all (subst (AreSameOrTrue table course.bytes asked.budget before) (sym stored) (told_same table asked course truly before))
  did_true truly next (Did.failed told ends risen silent h) so = failed_true truly next asked.command refl told ends h (so risen)
  did_true truly next (Did.tore told ends risen started h) so = fails_true truly (next told ends started) (so risen)

starts_over : (table : List Call) (c : Command) (asked : Settings) (held : Option Slots) (course : Course) (slots : Slots) → IsTrue (keeps c) → held ≡ Some slots → AreTrueSlots table course.bytes asked.budget slots → StartsTruly table c asked held course
starts_over table run asked held course slots may told both = tt
starts_over table resume asked held course slots may told both = taken_truly table asked held course slots told both
starts_over table check asked held course slots may told both = absurd (let e = may in cc)
starts_over table summary asked held course slots may told both = absurd (let e = may in cc)

by_keep : (keep : Bool) (ending : Ending) (asked : Settings) (course : Course) (old new : Outside) → Stores keep ending asked course old.vault new.vault → Counts ending old new → Did ending asked course old new
by_keep true ending asked course old new h c = did_so ending asked course old new h c
by_keep false ending asked course old new h c = Did.nothing h

pub grounded_stay : (table : List Call) (args : List (List ℕ)) (old new : Outside) (ending : Ending) (s : IsSession table args old new ending) (before after : Slots) → IsGrounded table s.asked s.course → ((told : ℕ) → ending ≡ vault_fault told → IsGround table s.course.bytes s.asked.budget) → IsTrue (keeps s.asked.command) → old.vault ≡ Some before → new.vault ≡ Some after
    → AreTrueSlots table s.course.bytes s.asked.budget before → (HasRisen old.vault_faults new.vault_faults → FailsSo s.asked s.course before after) → AreTrueSlots table s.course.bytes s.asked.budget after
grounded_stay table args old new ending s before after ground torn may is now both so =
    let truly = starts_over table s.asked.command s.asked old.vault s.course before may is both in
    did_true table ending s.asked s.course old new before after is now (each table s.course.bytes s.asked.budget before both) (truly_so table args old new ending s ground truly)
    (λ told ends started step rest left. next_truly table ending s.asked old.vault s.course s.asked.command truly s.started started s.met s.rounds (rounds_long table args old new ending s (λ i refused. (let e = sym ends ∙ refused in cc))) (torn told ends) step rest left)
    (by_keep s.asked.keep ending s.asked s.course old new s.stored s.counted) so

pub true_slots_stay : (table : List Call) (args : List (List ℕ)) (old new : Outside) (ending : Ending) (s : IsSession table args old new ending) (before after : Slots) → IsGround table s.course.bytes s.asked.budget → IsTrue (keeps s.asked.command) → old.vault ≡ Some before → new.vault ≡ Some after
    → AreTrueSlots table s.course.bytes s.asked.budget before → (HasRisen old.vault_faults new.vault_faults → FailsSo s.asked s.course before after) → AreTrueSlots table s.course.bytes s.asked.budget after
true_slots_stay table args old new ending s before after ground may is now both so = grounded_stay table args old new ending s before after (inr ground) (λ told ends. ground) may is now both so
