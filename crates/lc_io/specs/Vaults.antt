-- The two slots of a vault, and what its calls do to them.
--   Slots                      the bytes of slot Zero and of slot One
--   empty_slots                both slots, with nothing in them
--   other slot                 the slot that isn't this one
--   in_slot slot slots         the bytes of this slot
--   put slot bytes slots       the slots after these bytes replaced this slot
--   WhereTold old new P        what tells its slots, or its files, goes on telling them, and P holds of those before and after;
--                              what doesn't tell them doesn't begin to
--   IsPut slot bytes old new   these bytes replaced this slot
--   IsTorn slot old new        any bytes replaced this slot
--   Loads slots slot old new n     a load into a buffer answered n: the front of the slot, as much as fits, stands at the
--                              front of the buffer, and the rest of the buffer is as it was
use Rattle.std.specs.Prelude.{◌≡◌, ◌≤◌, ◌++◌, ℕ, List, [], length, take, drop, min, Option, Some, None}
use Rattle.lc_io.specs.declared.vault.Slot.{Slot}
use Rattle.lc_io.specs.declared.vault.Slot.TheVariants.{Zero, One}

pub record Slots : Type 0 where
  pub zero_slot : List ℕ
  pub one_slot : List ℕ

-- both slots, with nothing in them
abbrev pub empty_slots : Slots
empty_slots = record { zero_slot = []; one_slot = [] }

-- the slot that isn't this one
abbrev pub other : Slot → Slot
other Zero = One
other One = Zero

-- the bytes of this slot
abbrev pub in_slot : Slot → Slots → List ℕ
in_slot Zero slots = slots.zero_slot
in_slot One slots = slots.one_slot

-- the slots after these bytes replaced this slot
abbrev pub put : Slot → List ℕ → Slots → Slots
put Zero bytes slots = record { zero_slot = bytes; one_slot = slots.one_slot }
put One bytes slots = record { zero_slot = slots.zero_slot; one_slot = bytes }

-- what is told goes on being told, and P holds of it before and after
abbrev pub WhereTold : {X : Type 0} → Option X → Option X → (X → X → Type 0) → Type 0
WhereTold None new P = new ≡ None
WhereTold {X} (Some old) new P = (now : X) × (new ≡ Some now) × P old now

-- these bytes replaced this slot
abbrev pub IsPut : Slot → List ℕ → Slots → Slots → Type 0
IsPut slot bytes old new = new ≡ put slot bytes old

-- any bytes replaced this slot
abbrev pub IsTorn : Slot → Slots → Slots → Type 0
IsTorn slot old new = (bytes : List ℕ) × (new ≡ put slot bytes old)

-- the front of the slot, as much as fits, stands at the front of the buffer, and the rest of the buffer is as it was
abbrev pub Loads : Option Slots → Slot → List ℕ → List ℕ → ℕ → Type 0
Loads None slot before after n = n ≤ length before
Loads (Some slots) slot before after n = (n ≡ min (length (in_slot slot slots)) (length before)) × (after ≡ take n (in_slot slot slots) ++ drop n before)
