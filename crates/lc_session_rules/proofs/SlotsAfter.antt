-- What is in the slots once the checkpoints of some steps were stored in turn.
--   turn_after-append, slots_after-append      some steps, and then others
--   turn_is                  as long as no turn passes 2^60, each checkpoint has the turn after that of the one before
--   slot_of-next, other_next the next turn goes to the other slot
--   stored_last              the slot of the last turn holds the checkpoint of the last step
--   stored_beside            a step leaves what the other slot holds
--   stored_alone             after one step the other slot is as it was
use Rattle.std.proofs.Common.{◌≡◌, ◌+◌, ◌%◌, ◌<◌, ◌≤◌, ◌^◌, ◌++◌, ℕ, Bool, true, false, not, List, [], ◌∷◌, length, refl, ap, ◌∙◌, arith}
use Rattle.std.specs.Prelude.{◌==◌}
use Rattle.std.proofs.lemmas.Bool.Decides.{nat_tests}
use Rattle.lc_io.specs.Vaults.{Slots, in_slot, other, put}
use Rattle.lc_io.proofs.SlotLaws.{in_slot-put, in_other-put, other_other}
use Rattle.lc_enumeration.specs.Records.{SessionStep}
use Rattle.lc_session_rules.specs.Slots.{by_parity, slot_of, next_turn, turn_after, stored_bytes, slots_after}

pub turn_after-append : (turn : ℕ) (steps others : List SessionStep) → turn_after turn (steps ++ others) ≡ turn_after (turn_after turn steps) others
turn_after-append turn [] others = refl
turn_after-append turn (s ∷ steps) others = turn_after-append (next_turn turn) steps others

pub slots_after-append : (version : ℕ) (digest : List ℕ) (budget turn : ℕ) (steps others : List SessionStep) (slots : Slots)
    → slots_after version digest budget turn (steps ++ others) slots ≡ slots_after version digest budget (turn_after turn steps) others (slots_after version digest budget turn steps slots)
slots_after-append version digest budget turn [] others slots = refl
slots_after-append version digest budget turn (s ∷ steps) others slots = slots_after-append version digest budget (next_turn turn) steps others (put (slot_of turn) (stored_bytes version digest budget turn s) slots)

next_is : (turn : ℕ) → turn + 1 ≤ 2 ^ 60 → next_turn turn ≡ turn + 1
unfolding next_turn
next_is turn l = omega (arith, l)

pub turn_is : (turn : ℕ) (steps : List SessionStep) → turn + length steps ≤ 2 ^ 60 → turn_after turn steps ≡ turn + length steps
turn_is turn [] l = omega arith
turn_is turn (s ∷ steps) l =
    let n : next_turn turn ≡ turn + 1 = next_is turn (omega (arith, l)) in
    ap (λ (t : ℕ). turn_after t steps) n ∙ turn_is (turn + 1) steps (omega (arith, l)) ∙ omega arith

flips : (b : Bool) → by_parity (not b) ≡ other (by_parity b)
flips true = refl
flips false = refl

parity-next : (turn : ℕ) → ((turn + 1) % 2 == 0) ≡ not (turn % 2 == 0)
parity-next turn = grind (arith, nat_tests)

pub slot_of-next : (turn : ℕ) → slot_of (turn + 1) ≡ other (slot_of turn)
slot_of-next turn = ap by_parity (parity-next turn) ∙ flips (turn % 2 == 0)

-- as long as the turn isn't 2^60
pub other_next : (turn : ℕ) → turn < 2 ^ 60 → other (slot_of (next_turn turn)) ≡ slot_of turn
other_next turn early = ap (λ (t : ℕ). other (slot_of t)) (next_is turn (omega (arith, early))) ∙ ap other (slot_of-next turn) ∙ other_other (slot_of turn)

pub stored_last : (version : ℕ) (digest : List ℕ) (budget turn : ℕ) (before : List SessionStep) (s : SessionStep) (slots : Slots)
    → in_slot (slot_of (turn_after turn before)) (slots_after version digest budget turn (before ++ s ∷ []) slots) ≡ stored_bytes version digest budget (turn_after turn before) s
stored_last version digest budget turn before s slots =
    rw (slots_after-append version digest budget turn before (s ∷ []) slots)
    (in_slot-put (slot_of (turn_after turn before)) (stored_bytes version digest budget (turn_after turn before) s) (slots_after version digest budget turn before slots))

-- a step that is stored leaves what the other slot holds
pub stored_beside : (version : ℕ) (digest : List ℕ) (budget turn : ℕ) (before : List SessionStep) (s : SessionStep) (slots : Slots)
    → in_slot (other (slot_of (turn_after turn before))) (slots_after version digest budget turn (before ++ s ∷ []) slots) ≡ in_slot (other (slot_of (turn_after turn before))) (slots_after version digest budget turn before slots)
stored_beside version digest budget turn before s slots =
    rw (slots_after-append version digest budget turn before (s ∷ []) slots)
    (in_other-put (slot_of (turn_after turn before)) (stored_bytes version digest budget (turn_after turn before) s) (slots_after version digest budget turn before slots))

pub stored_alone : (version : ℕ) (digest : List ℕ) (budget turn : ℕ) (s : SessionStep) (slots : Slots) → in_slot (other (slot_of turn)) (slots_after version digest budget turn (s ∷ []) slots) ≡ in_slot (other (slot_of turn)) slots
stored_alone version digest budget turn s slots = in_other-put (slot_of turn) (stored_bytes version digest budget turn s) slots
