-- Worked watchers and vaults, by evaluation of the definitions.
--   outlasting            whether advice lasts for two records
--   three_watchers        two records told to three watchers, with Go and Go, with Go, and with nothing to answer: the first is left
--   too_short             the second of them isn't handed back
--   pausers_stay          with checkpoints kept, one that pauses and has no more to answer isn't gone after two records
--   leavers_go            without, it is
--   stored, torn          a slot that was replaced, and what a store that fails leaves of five bytes
use Rattle.std.proofs.Common.{◌≡◌, refl, true, false, [], ◌∷◌, map, List, Bool}
use Rattle.std.specs.Prelude.{Some}
use Rattle.lc_io.specs.declared.watcher.Record.{Record}
use Rattle.lc_io.specs.declared.watcher.Advice.{Advice}
use Rattle.lc_io.specs.declared.watcher.Advice.TheVariants.{Go, Pause, Leave}
use Rattle.lc_io.specs.declared.vault.Slot.TheVariants.{Zero, One}
use Rattle.lc_io.specs.Memory.{MemorySlots, torn_front}
use Rattle.lc_io.specs.Vaults.{Slots, empty_slots, in_slot, other, put}
use Rattle.lc_io.specs.Watchers.{Hearing}
use Rattle.lc_io.specs.Told.{outlasts, Stays, Kept}

pub outlasting : map (outlasts 2) ((Go ∷ Go ∷ []) ∷ (Go ∷ []) ∷ (Pause ∷ Go ∷ Leave ∷ []) ∷ (Go ∷ Leave ∷ []) ∷ [] ∷ []) ≡ true ∷ false ∷ true ∷ false ∷ false ∷ []
outlasting = refl

abbrev pub first : Record
first = record { query = 0; blocks = 1; bound = 2; best = 3 }

abbrev pub second : Record
second = record { query = 0; blocks = 2; bound = 3; best = 3 }

abbrev pub fresh : List Advice → Hearing
fresh answers = record { heard = Some []; coming = Some answers; pauses = 0 }

abbrev pub after_both : Hearing
after_both = record { heard = Some (first ∷ second ∷ []); coming = Some []; pauses = 0 }

stays : Stays true (first ∷ second ∷ []) false (fresh (Go ∷ Go ∷ [])) after_both
stays = record {
  advices = Go ∷ Go ∷ [];
  as_many = refl;
  none_leaves = refl;
  coming = ([], refl, refl);
  outlasting = refl;
  heard = refl;
  pauses = refl;
  calm = λ k. refl;
  last = refl;
}

pub three_watchers : Kept true (first ∷ second ∷ []) false (fresh (Go ∷ Go ∷ []) ∷ fresh (Go ∷ []) ∷ fresh [] ∷ []) (after_both ∷ [])
three_watchers = Kept.kept _ _ _ _ _ _ stays (Kept.gone _ _ _ _ (record { told = λ none. cc; leaving = refl; calm = λ k. refl }) (Kept.gone _ _ _ _ (record { told = λ none. cc; leaving = refl; calm = λ k. refl }) Kept.no_more))

pub too_short : (keep paused : Bool) (after : Hearing) → Stays keep (first ∷ second ∷ []) paused (fresh (Go ∷ [])) after → ⊥
too_short keep paused after s = let e : false ≡ true = s.outlasting in cc

pub pausers_stay : (paused : Bool) (ws : List Hearing) → Kept true (first ∷ second ∷ []) paused (fresh (Pause ∷ []) ∷ []) ws → ⊥
pausers_stay _ _ (Kept.kept w v ws vs p q s past) = ends_at_first p v s
  where
    ends_at_first : (p : Bool) (after : Hearing) → Stays true (first ∷ second ∷ []) p (fresh (Pause ∷ [])) after → ⊥
    ends_at_first p after s = let e : false ≡ true = s.outlasting in cc
pausers_stay _ _ (Kept.gone w ws vs q g past) = let e : true ≡ false = g.calm refl in cc

pub leavers_go : Kept false (first ∷ second ∷ []) false (fresh (Pause ∷ []) ∷ []) []
leavers_go = Kept.gone _ _ _ _ (record { told = λ none. cc; leaving = refl; calm = λ k. let e = k in cc }) Kept.no_more

abbrev pub one_kept : Slots
one_kept = put One (100 ∷ []) (put Zero (97 ∷ 98 ∷ []) empty_slots)

pub stored : map (λ slot. in_slot slot one_kept) (Zero ∷ One ∷ other Zero ∷ []) ≡ (97 ∷ 98 ∷ []) ∷ (100 ∷ []) ∷ (100 ∷ []) ∷ []
stored = refl

abbrev pub small : MemorySlots
small = record { slots = empty_slots; room = 3; calls = record { failing = []; number = 1; faults = 0 } }

pub torn : map (torn_front small) ([] ∷ (97 ∷ []) ∷ (97 ∷ 98 ∷ 99 ∷ 100 ∷ 101 ∷ []) ∷ (1 ∷ 2 ∷ 3 ∷ 4 ∷ 5 ∷ 6 ∷ 7 ∷ 8 ∷ []) ∷ []) ≡ [] ∷ [] ∷ (97 ∷ 98 ∷ []) ∷ (1 ∷ 2 ∷ 3 ∷ []) ∷ []
torn = refl
