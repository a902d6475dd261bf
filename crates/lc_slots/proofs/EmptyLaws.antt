-- What stores of the empty string leave.
--   both_emptied              both slots are empty
--   first_torn, second_torn   the first or the second store failed
use Rattle.std.proofs.Common.{◌≡◌, ℕ, List, [], refl, inl, inr, ap, ◌∙◌}
use Rattle.std.specs.Prelude.{Option}
use Rattle.lc_io.specs.declared.vault.Slot.TheVariants.{Zero, One}
use Rattle.lc_io.specs.Vaults.{Slots, WhereTold, IsPut, IsTorn, empty_slots, put}
use Rattle.lc_io.proofs.SlotLaws.{WhereTold-then, WhereTold-map}
use Rattle.lc_session_rules.specs.Session.{AreHalfEmptied}

empties : (a b c : Slots) → IsPut Zero [] a b → IsPut One [] b c → c ≡ empty_slots
empties a b c e f = f ∙ ap (put One []) e

tears_second : (a b c : Slots) → IsPut Zero [] a b → IsTorn One b c → AreHalfEmptied a c
tears_second a b c e (bytes, f) = (bytes, inr (f ∙ ap (put One bytes) e))

tears_first : (a b : Slots) → IsTorn Zero a b → AreHalfEmptied a b
tears_first a b (bytes, f) = (bytes, inl f)

pub both_emptied : (old mid new : Option Slots) → WhereTold old mid (IsPut Zero []) → WhereTold mid new (IsPut One []) → WhereTold old new (λ before after. after ≡ empty_slots)
both_emptied old mid new p q = WhereTold-then old mid new (IsPut Zero []) (IsPut One []) (λ before after. after ≡ empty_slots) empties p q

pub second_torn : (old mid new : Option Slots) → WhereTold old mid (IsPut Zero []) → WhereTold mid new (IsTorn One) → WhereTold old new AreHalfEmptied
second_torn old mid new p q = WhereTold-then old mid new (IsPut Zero []) (IsTorn One) AreHalfEmptied tears_second p q

pub first_torn : (old new : Option Slots) → WhereTold old new (IsTorn Zero) → WhereTold old new AreHalfEmptied
first_torn old new p = WhereTold-map old new (IsTorn Zero) AreHalfEmptied tears_first p

pub ruleset emptied_laws = (both_emptied, first_torn, second_torn)
