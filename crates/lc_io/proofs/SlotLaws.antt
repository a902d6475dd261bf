-- Lemmas on the two slots of a vault.
--   in_slot-put      the slot that was replaced has the new bytes
--   in_other-put     the other one is as it was
--   other_other      the other one of the other slot is the slot
--   WhereTold-then   two steps of a vault or a folder, one after the other
--   WhereTold-map    what is known of what is told implies what is asked of it
--   WhereTold-refl   a step that changes nothing
use Rattle.std.proofs.Common.{◌≡◌, List, ℕ, refl, subst}
use Rattle.std.specs.Prelude.{Option, Some, None}
use Rattle.lc_io.specs.declared.vault.Slot.{Slot}
use Rattle.lc_io.specs.declared.vault.Slot.TheVariants.{Zero, One}
use Rattle.lc_io.specs.Vaults.{Slots, in_slot, other, put, WhereTold}

pub in_slot-put : (slot : Slot) (bytes : List ℕ) (slots : Slots) → in_slot slot (put slot bytes slots) ≡ bytes
in_slot-put Zero bytes slots = refl
in_slot-put One bytes slots = refl

pub in_other-put : (slot : Slot) (bytes : List ℕ) (slots : Slots) → in_slot (other slot) (put slot bytes slots) ≡ in_slot (other slot) slots
in_other-put Zero bytes slots = refl
in_other-put One bytes slots = refl

pub other_other : (slot : Slot) → other (other slot) ≡ slot
other_other Zero = refl
other_other One = refl

pub WhereTold-then : {X : Type 0} (old mid new : Option X) (P Q R : X → X → Type 0) → ((a b c : X) → P a b → Q b c → R a c) → WhereTold old mid P → WhereTold mid new Q → WhereTold old new R
WhereTold-then {X} None mid new P Q R step none q = subst (λ (m : Option X). WhereTold m new Q) none q
WhereTold-then {X} (Some a) mid new P Q R step (b, is, p) q =
    let r : WhereTold (Some b) new Q = subst (λ (m : Option X). WhereTold m new Q) is q in
    (r.0, r.1, step a b r.0 p r.2)

pub WhereTold-map : {X : Type 0} (old new : Option X) (P Q : X → X → Type 0) → ((a b : X) → P a b → Q a b) → WhereTold old new P → WhereTold old new Q
WhereTold-map None new P Q step is = is
WhereTold-map (Some a) new P Q step (b, is, p) = (b, is, step a b p)

pub WhereTold-refl : {X : Type 0} (old : Option X) (P : X → X → Type 0) → ((a : X) → P a a) → WhereTold old old P
WhereTold-refl None P all = refl
WhereTold-refl (Some a) P all = (a, refl, all a)
