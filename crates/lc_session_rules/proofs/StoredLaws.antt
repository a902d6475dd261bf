-- What is in the slots after a session that keeps its checkpoints, as one reads it off the contract.
--   last_stands           the slot of the greatest turn holds the checkpoint of the last record told
--   one_before_stands     and the other slot that of the record before it
--   alone_stands          after one record the other slot is as the session found it; `run` found it empty
--   none_stored           without a record the slots are as the session found them
--   last_stands_torn      after a store that failed the checkpoint of the last record told stands whole in the other slot
--   none_stored_torn      without a record the other slot is as the session found it
--   other_slot            which is the slot of the checkpoint that `resume` took
use Rattle.std.proofs.Common.{◌≡◌, ◌+◌, ◌<◌, ◌^◌, ◌++◌, ℕ, List, [], ◌∷◌, ap, subst, ◌∙◌}
use Rattle.std.specs.Prelude.{Option}
use Rattle.sha2.specs.Sha256.{sha256}
use Rattle.lc_enumeration.specs.Records.{SessionStep}
use Rattle.lc_io.specs.declared.vault.Slot.{Slot}
use Rattle.lc_io.specs.Vaults.{Slots, in_slot, other, WhereTold, IsTorn}
use Rattle.lc_io.proofs.SlotLaws.{WhereTold-map, other_other, in_other-put}
use Rattle.lc_session_rules.specs.Options.{Settings}
use Rattle.lc_session_rules.specs.Slots.{slot_of, next_turn, turn_after, slots_after}
use Rattle.lc_session_rules.specs.Session.{Course, begin_with, told_slots, Keeps, Tears}
use Rattle.lc_session_rules.specs.Promises.{checkpoint_of, Holds}
use Rattle.lc_session_rules.proofs.SlotsAfter.{turn_after-append, slot_of-next, other_next, stored_last, stored_beside, stored_alone}

pub other_slot : (turn : ℕ) → other (slot_of (turn + 1)) ≡ slot_of turn
other_slot turn = ap other (slot_of-next turn) ∙ other_other (slot_of turn)

pub last_stands : (asked : Settings) (course : Course) (old new : Option Slots) (before : List SessionStep) (s : SessionStep) → course.told ≡ before ++ s ∷ [] → Keeps asked course old new → Holds old new (slot_of (turn_after course.turn before)) (checkpoint_of asked course (turn_after course.turn before) s)
last_stands asked course old new before s told keeps =
    WhereTold-map old new _ _ (λ (o n : Slots) (is : n ≡ told_slots asked course o).
    ap (in_slot (slot_of (turn_after course.turn before))) (is ∙ ap (λ (t : List SessionStep). slots_after 2 (sha256 course.bytes) asked.budget course.turn t (begin_with asked.command o)) told)
    ∙ stored_last 2 (sha256 course.bytes) asked.budget course.turn before s (begin_with asked.command o)) keeps

pub one_before_stands : (asked : Settings) (course : Course) (old new : Option Slots) (before : List SessionStep) (r s : SessionStep) → course.told ≡ (before ++ r ∷ []) ++ s ∷ [] → turn_after course.turn before < 2 ^ 60 → Keeps asked course old new
    → Holds old new (slot_of (turn_after course.turn before)) (checkpoint_of asked course (turn_after course.turn before) r)
one_before_stands asked course old new before r s told early keeps =
    let d = sha256 course.bytes in
    let turn = turn_after course.turn before in
    let slot : other (slot_of (turn_after course.turn (before ++ r ∷ []))) ≡ slot_of turn = ap (λ (t : ℕ). other (slot_of t)) (turn_after-append course.turn before (r ∷ [])) ∙ other_next turn early in
    WhereTold-map old new _ _ (λ (o n : Slots) (is : n ≡ told_slots asked course o).
    ap (in_slot (slot_of turn)) (is ∙ ap (λ (t : List SessionStep). slots_after 2 d asked.budget course.turn t (begin_with asked.command o)) told)
    ∙ subst (λ (at : Slot). in_slot at (slots_after 2 d asked.budget course.turn ((before ++ r ∷ []) ++ s ∷ []) (begin_with asked.command o)) ≡ in_slot at (slots_after 2 d asked.budget course.turn (before ++ r ∷ []) (begin_with asked.command o))) slot (stored_beside 2 d asked.budget course.turn (before ++ r ∷ []) s (begin_with asked.command o))
    ∙ stored_last 2 d asked.budget course.turn before r (begin_with asked.command o)) keeps

pub none_stored : (asked : Settings) (course : Course) (old new : Option Slots) → course.told ≡ [] → Keeps asked course old new → WhereTold old new (λ before after. after ≡ begin_with asked.command before)
none_stored asked course old new told keeps =
    WhereTold-map old new _ _ (λ (o n : Slots) (is : n ≡ told_slots asked course o). is ∙ ap (λ (t : List SessionStep). slots_after 2 (sha256 course.bytes) asked.budget course.turn t (begin_with asked.command o)) told) keeps

pub alone_stands : (asked : Settings) (course : Course) (old new : Option Slots) (s : SessionStep) → course.told ≡ s ∷ [] → Keeps asked course old new
    → WhereTold old new (λ before after. in_slot (other (slot_of course.turn)) after ≡ in_slot (other (slot_of course.turn)) (begin_with asked.command before))
alone_stands asked course old new s told keeps =
    WhereTold-map old new _ _ (λ (o n : Slots) (is : n ≡ told_slots asked course o).
    ap (in_slot (other (slot_of course.turn))) (is ∙ ap (λ (t : List SessionStep). slots_after 2 (sha256 course.bytes) asked.budget course.turn t (begin_with asked.command o)) told)
    ∙ stored_alone 2 (sha256 course.bytes) asked.budget course.turn s (begin_with asked.command o)) keeps

-- a store that failed leaves the other slot
beside_torn : (asked : Settings) (course : Course) (old new : Option Slots) → Tears asked course old new
    → WhereTold old new (λ before after. in_slot (other (slot_of (turn_after course.turn course.told))) after ≡ in_slot (other (slot_of (turn_after course.turn course.told))) (told_slots asked course before))
beside_torn asked course old new tears =
    WhereTold-map old new _ _ (λ (o n : Slots) (is : IsTorn (slot_of (turn_after course.turn course.told)) (told_slots asked course o) n).
    ap (in_slot (other (slot_of (turn_after course.turn course.told)))) is.1 ∙ in_other-put (slot_of (turn_after course.turn course.told)) is.0 (told_slots asked course o)) tears

pub last_stands_torn : (asked : Settings) (course : Course) (old new : Option Slots) (before : List SessionStep) (s : SessionStep) → course.told ≡ before ++ s ∷ [] → turn_after course.turn before < 2 ^ 60 → Tears asked course old new
    → Holds old new (slot_of (turn_after course.turn before)) (checkpoint_of asked course (turn_after course.turn before) s)
last_stands_torn asked course old new before s told early tears =
    let d = sha256 course.bytes in
    let last = turn_after course.turn before in
    let turn : turn_after course.turn course.told ≡ next_turn last = ap (turn_after course.turn) told ∙ turn_after-append course.turn before (s ∷ []) in
    let slot : other (slot_of (turn_after course.turn course.told)) ≡ slot_of last = ap (λ (t : ℕ). other (slot_of t)) turn ∙ other_next last early in
    WhereTold-map old new _ _ (λ (o n : Slots) (is : in_slot (other (slot_of (turn_after course.turn course.told))) n ≡ in_slot (other (slot_of (turn_after course.turn course.told))) (told_slots asked course o)).
    subst (λ (at : Slot). in_slot at n ≡ in_slot at (told_slots asked course o)) slot is
    ∙ ap (λ (t : List SessionStep). in_slot (slot_of last) (slots_after 2 d asked.budget course.turn t (begin_with asked.command o))) told
    ∙ stored_last 2 d asked.budget course.turn before s (begin_with asked.command o)) (beside_torn asked course old new tears)

pub none_stored_torn : (asked : Settings) (course : Course) (old new : Option Slots) → course.told ≡ [] → Tears asked course old new
    → WhereTold old new (λ before after. in_slot (other (slot_of course.turn)) after ≡ in_slot (other (slot_of course.turn)) (begin_with asked.command before))
none_stored_torn asked course old new told tears =
    let turn : turn_after course.turn course.told ≡ course.turn = ap (turn_after course.turn) told in
    WhereTold-map old new _ _ (λ (o n : Slots) (is : in_slot (other (slot_of (turn_after course.turn course.told))) n ≡ in_slot (other (slot_of (turn_after course.turn course.told))) (told_slots asked course o)).
    subst (λ (t : ℕ). in_slot (other (slot_of t)) n ≡ in_slot (other (slot_of t)) (told_slots asked course o)) turn is
    ∙ ap (λ (t : List SessionStep). in_slot (other (slot_of course.turn)) (slots_after 2 (sha256 course.bytes) asked.budget course.turn t (begin_with asked.command o))) told) (beside_torn asked course old new tears)
