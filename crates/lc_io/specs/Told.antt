-- What is left of the watchers of a session after several records.
--   outlasts n coming                     the first n of this advice are there, and none of them is Leave
--   ends_paused advices                   the last of these advices is Pause
--   pauses_early advices                  one before the last is
--   pauses_before_leaving n coming        a Pause is among the first n of this advice, before the first Leave
--   Gave before advices after             a watcher that tells what is to come gave these advices, the first ones of it
--   Stays keep notes paused before after  a watcher that was told these records and is handed back; it answered Pause to the
--                                         last of them or not. With keep no advice but the last one is Pause
--   Goes keep notes before                a watcher that left at one of these records. With keep it hadn't answered Pause before
--   Kept keep notes paused before after   the watchers of a session after these records: each was handed back or has left, and
--                                         those handed back keep their order. The flag says whether one of these answered Pause
--                                         to the last record
use Rattle.std.specs.Prelude.{◌≡◌, ◌+◌, ◌++◌, ℕ, suc, zero, Bool, true, false, cond, List, [], ◌∷◌, length, count_by, Option, Some, None, option_map, IfSome}
use Rattle.std.specs.List.{list_any}
use Rattle.lc_io.specs.declared.watcher.Record.{Record}
use Rattle.lc_io.specs.declared.watcher.Advice.{Advice}
use Rattle.lc_io.specs.Watchers.{is_pause, is_leave, Hearing}

-- the first n of this advice are there, and none of them is Leave
abbrev pub outlasts : ℕ → List Advice → Bool
outlasts zero coming = true
outlasts (suc n) [] = false
outlasts (suc n) (a ∷ coming) = cond (is_leave a) false (outlasts n coming)

-- the last of these advices is Pause
abbrev pub ends_paused : List Advice → Bool
ends_paused [] = false
ends_paused (a ∷ []) = is_pause a
ends_paused (a ∷ b ∷ rest) = ends_paused (b ∷ rest)

-- one before the last is Pause
abbrev pub pauses_early : List Advice → Bool
pauses_early [] = false
pauses_early (a ∷ []) = false
pauses_early (a ∷ b ∷ rest) = cond (is_pause a) true (pauses_early (b ∷ rest))

-- a Pause is among the first n of this advice, before the first Leave
abbrev pub pauses_before_leaving : ℕ → List Advice → Bool
pauses_before_leaving zero coming = false
pauses_before_leaving (suc n) [] = false
pauses_before_leaving (suc n) (a ∷ coming) = cond (is_leave a) false (cond (is_pause a) true (pauses_before_leaving n coming))

-- these advices, the first ones of those told, were given
abbrev pub Gave : Option (List Advice) → List Advice → Option (List Advice) → Type 0
Gave None advices after = after ≡ None
Gave (Some coming) advices after = (rest : List Advice) × (coming ≡ advices ++ rest) × (after ≡ Some rest)

-- a watcher that was told these records and is handed back
pub record Stays (keep : Bool) (notes : List Record) (paused : Bool) (before after : Hearing) : Type 0 where
  pub advices : List Advice
  pub as_many : length advices ≡ length notes  -- one for each record
  pub none_leaves : list_any is_leave advices ≡ false
  pub coming : Gave before.coming advices after.coming
  pub outlasting : IfSome before.coming (λ coming. outlasts (length notes) coming ≡ true)
  pub heard : after.heard ≡ option_map (λ past. past ++ notes) before.heard
  pub pauses : after.pauses ≡ before.pauses + count_by is_pause advices
  pub calm : keep ≡ true → pauses_early advices ≡ false
  pub last : paused ≡ ends_paused advices

-- a watcher that left at one of these records; with keep it had answered Pause to none of them
pub record Goes (keep : Bool) (notes : List Record) (before : Hearing) : Type 0 where
  pub told : ¬ (notes ≡ [])
  pub leaving : IfSome before.coming (λ coming. outlasts (length notes) coming ≡ false)
  pub calm : keep ≡ true → IfSome before.coming (λ coming. pauses_before_leaving (length notes) coming ≡ false)

-- the watchers of a session after these records, in their order
pub data Kept (keep : Bool) (notes : List Record) : Bool → List Hearing → List Hearing → Type 0 where
  no_more : Kept keep notes false [] []
  kept : (w w' : Hearing) (ws ws' : List Hearing) (p paused : Bool) → Stays keep notes p w w' → Kept keep notes paused ws ws' → Kept keep notes (cond p true paused) (w ∷ ws) (w' ∷ ws')
  gone : (w : Hearing) (ws ws' : List Hearing) (paused : Bool) → Goes keep notes w → Kept keep notes paused ws ws' → Kept keep notes paused (w ∷ ws) ws'
